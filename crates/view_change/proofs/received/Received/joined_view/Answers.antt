use Rattle.std.specs.Prelude.{length, MatchOption}
use Rattle.std.proofs.Common.{◌≤◌, List, Option, ap, ◌∙◌, subst, arith}
use Rattle.terms.specs.declared.order.View.{View}
use Rattle.view_change.specs.declared.changes.SignedChange.{SignedChange}
use Rattle.view_change.specs.Finding.{least_of}
use Rattle.view_change.specs.ReceivedData.{IsJoined, later_views}
use Rattle.view_change.specs.ReceivedView.{ReceivedState, held_by, received_state}
use Rattle.view_change.proofs.Holding.{joined_of}
use Rattle.view_change.proofs.received.Received.joined_view.Goals as goal

pub returns : goal.returns
returns c =
    let count =
    c.count_later.ensures.count ∙ ap (λ (held : List (Option SignedChange)). length (later_views c.args.me.0 c.args.target.0 (held_by held))) c.deref.ensures.value in
    subst (λ (r : ReceivedState).
    MatchOption c.least_later.result (length (later_views c.args.me.0 c.args.target.0 r.held) ≤ r.sizes.faults) (λ view. IsJoined r.sizes.faults (later_views c.args.me.0 c.args.target.0 r.held) view.0)) c.self.view_is
    (joined_of (λ (view : View). view.0) c.least_later.result c.self.inside.sizes.faults (later_views c.args.me.0 c.args.target.0 (received_state c.self.inside).held)
    (omega (arith, count, c.if-count_later-from.false, c.from.ensures))
    (c.least_later.ensures ∙ ap (λ (held : List (Option SignedChange)). least_of (later_views c.args.me.0 c.args.target.0 (held_by held))) c.deref-2.ensures.value))
