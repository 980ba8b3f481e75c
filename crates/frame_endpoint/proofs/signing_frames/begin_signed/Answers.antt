use Rattle.wire_format.specs.Views.{body_data}
use Rattle.wire_format.proofs.Counting.{body_fits}
use Rattle.frame_endpoint.proofs.signing_frames.begin_signed.Goals as goal

pub begin_frame-requires-clause-body : goal.begin_frame-requires-clause-body
begin_frame-requires-clause-body c = body_fits (body_data c.args.body.now) c.requires
