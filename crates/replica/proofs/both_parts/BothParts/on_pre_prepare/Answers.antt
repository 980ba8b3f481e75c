use Rattle.std.proofs.Common.{rules, Bool, subst}
use Rattle.replica.specs.BothPartsView.{both_parts_data}
use Rattle.orderer.specs.Taking.{TakesBatch}
use Rattle.replica.proofs.Beginning.{batch_taken, batch_dropped}
use Rattle.replica.proofs.both_parts.BothParts.on_pre_prepare.Goals as goal

pub returns-then-not-branch : goal.returns-then-not-branch
returns-then-not-branch c = record {
  ok = rw (← c.self.view_is)
      (batch_dropped (both_parts_data c.self.inside) c.args.sender c.args.message c.take_batch.new.self c.self.invariant
      (subst (λ (b : Bool). TakesBatch c.self.inside.orderer c.args.sender c.args.message c.take_batch.new.self b) c.if-not-branch.true c.in_ok-take_batch.ensures.takes));
  party = search rules;
}

pub returns : goal.returns
returns c = record {
  ok = rw (← c.self.view_is)
      (batch_taken (both_parts_data c.self.inside) c.args.sender c.args.message c.take_batch.new.self c.self.invariant
      (subst (λ (b : Bool). TakesBatch c.self.inside.orderer c.args.sender c.args.message c.take_batch.new.self b) c.if-not-branch.false c.in_ok-take_batch.ensures.takes));
  party = search rules;
}
