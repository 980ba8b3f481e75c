use Rattle.std.proofs.Common.{rules, Err, ap, ◌∙◌}
use Rattle.wire_format.specs.Views.{message_data}
use Rattle.frame_endpoint.specs.Endpoint.{FitsFrame}
use Rattle.desk.proofs.desk.Desk.send_part.Goals as goal

-- a part fits a frame
pub unreachable-requires : goal.unreachable-requires
unreachable-requires c =
    let fits : FitsFrame (message_data c.in-Some.message) = search rules in
    c.seal_for_one.ensures.fits fits (c.in-Err-TooLarge.is ∙ ap Err c.in-Err-TooLarge.field-0-is)
