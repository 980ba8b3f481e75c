use Rattle.std.proofs.Common.{◌+◌, ◌*◌, List, Option, refl, ap, ◌∙◌}
use Rattle.view_change.specs.ReceivedData.{HeldData}
use Rattle.view_change.specs.ReceivedView.{ReceivedState, held_by}
use Rattle.view_change.proofs.Holding.{no_held, none_received}
use Rattle.view_change.proofs.received.Received.new.Goals as goal

pub invariant_of-result : goal.invariant_of-result
invariant_of-result c = none_received _ (3 * c.args.sizes.faults + 1) refl (ap held_by c.in_ok-held.ensures ∙ no_held (3 * c.args.sizes.faults + 1))

pub returns : goal.returns
returns c =
    ap (λ (held : List (Option HeldData)). let r : ReceivedState = record { publics = c.args.keys; sizes = c.args.sizes; held = held } in r)
    (ap held_by c.in_ok-held.ensures ∙ no_held (3 * c.args.sizes.faults + 1))
