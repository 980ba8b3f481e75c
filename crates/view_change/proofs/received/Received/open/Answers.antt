use Rattle.std.proofs.Common.{◌≡◌, ℕ, List, Option, Some, ap, ◌∙◌, subst}
use Rattle.wire_format.specs.Messages.{ViewChangeData}
use Rattle.protocol.specs.Replica.Selection.{signed_change}
use Rattle.view_change.specs.declared.changes.SignedChange.{SignedChange}
use Rattle.view_change.specs.ReceivedView.{ReceivedState, judging_configuration, held_by, received_state}
use Rattle.view_change.specs.Sets.{change_pair}
use Rattle.view_change.proofs.Holding.{opened, pair_in}
use Rattle.view_change.proofs.received.Received.open.Goals as goal

pub returns-in_ok-copy_change-in-Some : goal.returns-in_ok-copy_change-in-Some
returns-in_ok-copy_change-in-Some c =
    ap (λ (x : ℕ × ViewChangeData). Some x) c.in_ok-copy_change-in-Some.ensures
    ∙ subst (λ (r : ReceivedState). Some (change_pair c.in-Some.change.now) ≡ signed_change (judging_configuration r) c.args.bytes.now) c.self.view_is
    (opened (received_state c.self.inside) c.args.bytes.now (change_pair c.in-Some.change.now) c.self.invariant
    (c.in-Some.ensures ∙ ap (λ (held : List (Option SignedChange)). pair_in c.args.bytes.now (held_by held)) c.deref.ensures.value))
