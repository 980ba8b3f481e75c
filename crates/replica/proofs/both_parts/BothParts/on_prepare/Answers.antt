use Rattle.std.proofs.Common.{rules}
use Rattle.replica.specs.BothPartsView.{both_parts_data}
use Rattle.replica.proofs.Beginning.{prepare_taken, prepare_dropped}
use Rattle.replica.proofs.both_parts.BothParts.on_prepare.Goals as goal

pub returns-then-not-take_prepare : goal.returns-then-not-take_prepare
returns-then-not-take_prepare c = record {
  ok = rw (← c.self.view_is) (prepare_dropped (both_parts_data c.self.inside) c.args.sender c.args.message.now c.take_prepare.new.self c.self.invariant c.if-not-take_prepare.ensures.takes);
  party = search rules;
}

pub returns : goal.returns
returns c = record {
  ok = rw (← c.self.view_is) (prepare_taken (both_parts_data c.self.inside) c.args.sender c.args.message.now c.take_prepare.new.self c.self.invariant c.if-not-take_prepare.ensures.takes);
  party = search rules;
}
