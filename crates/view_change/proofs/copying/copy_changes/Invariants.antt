use Rattle.std.proofs.Common.{◌≡◌, ◌++◌, drop}
use Rattle.view_change.specs.ReceivedData.{pairs_for}
use Rattle.view_change.specs.ReceivedView.{held_by}
use Rattle.view_change.specs.Sets.{changes_by_sender}
use Rattle.view_change.proofs.copying.copy_changes.Given as goal

abbrev pub invariant-loop-signed : goal.invariant-loop-signed
invariant-loop-signed l =
    changes_by_sender l.changes.items ++ pairs_for l.view.0 (held_by (drop l.signed-index l.held)) ≡ pairs_for l.view.0 (held_by l.held)
