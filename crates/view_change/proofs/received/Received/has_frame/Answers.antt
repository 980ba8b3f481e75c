use Rattle.std.proofs.Common.{List, Option, Bor, sym, ap, ◌∙◌, subst, ◌≡◌}
use Rattle.std.specs.Prelude.{◌≢◌, Some}
use Rattle.protocol.specs.System.Trace.{Has}
use Rattle.view_change.specs.declared.changes.Change.{Change}
use Rattle.view_change.specs.declared.changes.SignedChange.{SignedChange}
use Rattle.view_change.specs.ReceivedData.{HeldData}
use Rattle.view_change.specs.ReceivedView.{ReceivedState, held_by, received_state, IsHeldIn}
use Rattle.view_change.specs.Sets.{change_pair}
use Rattle.view_change.proofs.Holding.{found_held, none_held_in, pair_in}
use Rattle.view_change.proofs.received.Received.has_frame.Goals as goal

pub returns-clause-held : goal.returns-clause-held
returns-clause-held c = λ some.
    subst (λ (r : ReceivedState). (h : HeldData) × IsHeldIn r c.args.bytes.now h) c.self.view_is
    (found_held (λ (change : Bor Change). change_pair change.now) c.held_in.result (received_state c.self.inside) c.args.bytes.now c.self.invariant
    (c.held_in.ensures ∙ ap (λ (held : List (Option SignedChange)). pair_in c.args.bytes.now (held_by held)) c.deref.ensures.value) (sym c.is_some.ensures ∙ some))

pub returns-clause-none : goal.returns-clause-none
returns-clause-none c = λ none.
    subst (λ (r : ReceivedState). (h : HeldData) → Has (λ o. o ≡ Some h) r.held → h.frame ≢ c.args.bytes.now) c.self.view_is
    (none_held_in (λ (change : Bor Change). change_pair change.now) c.held_in.result (received_state c.self.inside).held c.args.bytes.now
    (c.held_in.ensures ∙ ap (λ (held : List (Option SignedChange)). pair_in c.args.bytes.now (held_by held)) c.deref.ensures.value) (sym c.is_some.ensures ∙ none))
