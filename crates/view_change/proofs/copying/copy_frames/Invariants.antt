use Rattle.std.proofs.Common.{◌≡◌, ◌++◌, drop}
use Rattle.view_change.specs.ReceivedData.{frames_for}
use Rattle.view_change.specs.ReceivedView.{held_by}
use Rattle.wire_format.specs.Views.{texts_of}
use Rattle.view_change.proofs.copying.copy_frames.Given as goal

abbrev pub invariant-loop-signed : goal.invariant-loop-signed
invariant-loop-signed l =
    texts_of l.frames.items ++ frames_for l.view.0 (held_by (drop l.signed-index l.held)) ≡ frames_for l.view.0 (held_by l.held)
