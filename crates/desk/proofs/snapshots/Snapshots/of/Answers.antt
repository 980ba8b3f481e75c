use Rattle.std.proofs.Common.{◌≡◌, ◌≢◌, rules, ℕ, List, map, subst, arith}
use Rattle.std.proofs.lemmas.List.{take_all}
use Rattle.wire_format.specs.Lists.{Each}
use Rattle.protocol.specs.System.Trace.{Has}
use Rattle.replica_histories.specs.Desk.{Snapshot}
use Rattle.desk.specs.declared.snapshots.KeptState.{KeptState}
use Rattle.desk.specs.SnapshotsView.{kept_data}
use Rattle.desk.proofs.KeptStates.{AreOthers, has_state, none_kept}
use Rattle.desk.proofs.snapshots.Snapshots.of.Goals as goal

pub returns-then-state-number-clause-some : goal.returns-then-state-number-clause-some
returns-then-state-number-clause-some c =
    rw (← c.self.view_is)
    (subst (λ (n : ℕ). Has (λ (x : Snapshot). x ≡ record { number = n; pages = c.state-item.result.pages }) (map kept_data c.self.inside.kept.items)) c.if-state-number.true
    (subst (λ (xs : List KeptState). Has (λ x. x ≡ kept_data c.state-item.result) (map kept_data xs)) c.deref-state-items.ensures.value
    (has_state c.deref-state-items.result.now c.loop-state.state-index c.state-item.result c.loop-state-test.true (search rules))))

pub returns-clause-none : goal.returns-clause-none
returns-clause-none c =
    rw (← c.self.view_is)
    (subst (λ (xs : List KeptState). Each (λ x. x.number ≢ c.args.number.0) (map kept_data xs)) c.deref-state-items.ensures.value
    (none_kept c.args.number.0 c.deref-state-items.result.now
    (subst (AreOthers c.args.number.0) (take_all c.loop-state.state-index c.deref-state-items.result.now (omega arith)) c.loop-state.invariant)))
