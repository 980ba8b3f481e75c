use Rattle.std.proofs.Common.{Err, ap, ◌∙◌}
use Rattle.desk.proofs.desk.Desk.reply.Goals as goal

-- a reply fits a frame
pub unreachable-requires : goal.unreachable-requires
unreachable-requires c =
    c.seal_for_one.ensures.fits c.reply_message-message.ensures.fits (c.in-Err-TooLarge.is ∙ ap Err c.in-Err-TooLarge.field-0-is)
