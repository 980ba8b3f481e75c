use Rattle.std.proofs.Common.{sym, subst}
use Rattle.std.proofs.lemmas.Result.{on_ok_weaker}
use Rattle.replica.specs.declared.taking.DueWork.{DueWork}
use Rattle.replica.specs.FollowingUp.{FollowsUp}
use Rattle.replica.proofs.both_parts.BothParts.finish_event.Goals as goal

pub returns-in_ok-advance-in-Row-clause-ok : goal.returns-in_ok-advance-in-Row-clause-ok
returns-in_ok-advance-in-Row-clause-ok c = on_ok_weaker c.number_waiting-in-Row.result
    (λ k. subst (λ (what : DueWork). FollowsUp what c.args.self.now c.args.outputs.now.items c.number_waiting-in-Row.new.self c.number_waiting-in-Row.new.outputs.items)
    (sym c.in-Row.is) (c.advance.new.self, c.advance.new.outputs.items, c.in_ok-advance-in-Row.ensures.ok, k))
    c.number_waiting-in-Row.ensures.ok
