use Rattle.std.proofs.Common.{refl, subst}
use Rattle.tuple_codec.specs.OperationView.{operation_of}
use Rattle.space.specs.Watching.{WatchedState, KeepsWritten, TouchesChanges, TouchesOnly}
use Rattle.space.proofs.Touching.{stays_watched, keeps_written, touches_changes, touches_only}
use Rattle.space.proofs.watched.Watched.apply.Goals as goal

pub invariant_of-self : goal.invariant_of-self
invariant_of-self g c =
    let old : WatchedState = record { state = c.self.inside.space; changed = c.self.inside.changed; written = c.self.inside.written } in
    let new : WatchedState = record { state = c.apply.new.self; changed = c.mark_changed.new.pages; written = c.self.inside.written } in
    stays_watched old new c.args.client (operation_of c.args.op.now) c.mark_changed.ensures refl c.self.told.0 c.self.invariant c.apply.result c.apply.ensures.state c.apply.ensures.err

pub returns-clause-touches : goal.returns-clause-touches
returns-clause-touches g c =
    let old : WatchedState = record { state = c.self.inside.space; changed = c.self.inside.changed; written = c.self.inside.written } in
    let new : WatchedState = record { state = c.apply.new.self; changed = c.mark_changed.new.pages; written = c.self.inside.written } in
    subst (λ w. TouchesChanges w new) c.self.view_is
    (touches_changes old new c.args.client (operation_of c.args.op.now) c.mark_changed.ensures refl c.self.told.0 c.self.invariant c.apply.result c.apply.ensures.state c.apply.ensures.err)

pub returns-clause-only : goal.returns-clause-only
returns-clause-only g c =
    let old : WatchedState = record { state = c.self.inside.space; changed = c.self.inside.changed; written = c.self.inside.written } in
    let new : WatchedState = record { state = c.apply.new.self; changed = c.mark_changed.new.pages; written = c.self.inside.written } in
    subst (λ w. TouchesOnly w new c.args.client (operation_of c.args.op.now)) c.self.view_is
    (touches_only old new c.args.client (operation_of c.args.op.now) c.mark_changed.ensures refl c.self.told.0 c.self.invariant c.apply.result c.apply.ensures.state c.apply.ensures.err)

pub returns-clause-written : goal.returns-clause-written
returns-clause-written g c =
    let old : WatchedState = record { state = c.self.inside.space; changed = c.self.inside.changed; written = c.self.inside.written } in
    let new : WatchedState = record { state = c.apply.new.self; changed = c.mark_changed.new.pages; written = c.self.inside.written } in
    subst (λ w. KeepsWritten w new) c.self.view_is
    (keeps_written old new c.args.client (operation_of c.args.op.now) c.mark_changed.ensures refl c.self.told.0 c.self.invariant c.apply.result c.apply.ensures.state c.apply.ensures.err)
