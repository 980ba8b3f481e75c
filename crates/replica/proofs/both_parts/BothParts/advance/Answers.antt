use Rattle.std.proofs.Common.{rules, subst}
use Rattle.std.proofs.lemmas.Result.{on_ok_weaker}
use Rattle.replica.specs.State.{BothPartsData}
use Rattle.replica.specs.BothPartsView.{both_parts_data}
use Rattle.replica.specs.Going.{GoesOnWith}
use Rattle.replica.proofs.GoingOn.{goes_on_with}
use Rattle.replica.proofs.both_parts.BothParts.advance.Goals as goal

pub returns : goal.returns
returns c = record {
  ok = on_ok_weaker c.execute_committed.result
      (λ k. subst (λ (a : BothPartsData). GoesOnWith c.args.number.0 a c.args.outputs.now.items c.execute_committed.new.self c.execute_committed.new.outputs.items) c.self.view_is
      (goes_on_with c.args.number.0 (both_parts_data c.self.inside) c.multicast_votes.new.self c.execute_committed.new.self c.args.outputs.now.items c.multicast_votes.new.outputs.items
      c.execute_committed.new.outputs.items c.self.invariant c.in_ok-multicast_votes.ensures.ok k))
      c.execute_committed.ensures.ok;
  party = search rules;
}
