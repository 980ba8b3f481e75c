use Rattle.std.proofs.Common.{refl, arith}
use Rattle.std.specs.Prelude.{option_map}
use Rattle.wire_format.specs.Views.{texts_of}
use Rattle.view_change.specs.ReceivedData.{frames_for}
use Rattle.view_change.specs.ReceivedView.{held_by, held_data}
use Rattle.view_change.proofs.Holding.{frames_then, one_on, all_on}
use Rattle.view_change.proofs.copying.copy_frames.Goals as goal

pub loop-signed-preserved : goal.loop-signed-preserved
loop-signed-preserved c =
    one_on (λ xs. frames_for c.args.view.0 (held_by xs)) (λ x rest. frames_then c.args.view.0 (option_map held_data x) (held_by rest)) c.args.held.now c.loop-signed.signed-index _
    (texts_of c.loop-signed.frames.items) _ c.loop-signed-test.true c.signed-item.is c.loop-signed.invariant c.in_ok-add_frame.ensures

pub returns : goal.returns
returns c =
    all_on (λ xs. frames_for c.args.view.0 (held_by xs)) refl c.args.held.now c.loop-signed.signed-index (texts_of c.loop-signed.frames.items) (omega arith) c.loop-signed.invariant
