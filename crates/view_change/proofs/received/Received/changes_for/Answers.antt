use Rattle.std.proofs.Common.{◌≡◌, true, List, Option, ap, ◌∙◌, subst}
use Rattle.std.proofs.lemmas.Result.{IfOk-weaker}
use Rattle.view_change.specs.declared.changes.SignedChange.{SignedChange}
use Rattle.view_change.specs.ReceivedData.{pairs_for}
use Rattle.view_change.specs.ReceivedView.{ReceivedState, held_by, received_state}
use Rattle.view_change.specs.Selecting.{are_for}
use Rattle.view_change.specs.Sets.{changes_by_sender, sized}
use Rattle.view_change.proofs.Holding.{fit_for, ordered_for}
use Rattle.view_change.proofs.received.Received.changes_for.Goals as goal

pub returns-clause-order : goal.returns-clause-order
returns-clause-order c =
    IfOk-weaker c.copy_changes.result _ _
    (λ x e. ordered_for (received_state c.self.inside) c.args.view.0 (changes_by_sender x.items) c.self.invariant
    (e ∙ ap (λ (held : List (Option SignedChange)). pairs_for c.args.view.0 (held_by held)) c.deref.ensures.value)) c.copy_changes.ensures

pub returns-clause-for_it : goal.returns-clause-for_it
returns-clause-for_it c =
    IfOk-weaker c.copy_changes.result _ _
    (λ x e. subst (λ (r : ReceivedState). are_for c.args.view.0 (changes_by_sender x.items) (sized r.sizes) ≡ true) c.self.view_is
    (fit_for (received_state c.self.inside) c.args.view.0 (changes_by_sender x.items) c.self.invariant
    (e ∙ ap (λ (held : List (Option SignedChange)). pairs_for c.args.view.0 (held_by held)) c.deref.ensures.value))) c.copy_changes.ensures
