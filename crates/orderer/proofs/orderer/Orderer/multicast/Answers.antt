use Rattle.std.proofs.Common.{Err, ap, ◌∙◌}
use Rattle.orderer.proofs.orderer.Orderer.multicast.Goals as goal

pub unreachable-requires : goal.unreachable-requires
unreachable-requires c =
    c.send_to_others.ensures.fits c.requires.fits (c.in-Err-TooLarge.is ∙ ap Err c.in-Err-TooLarge.field-0-is)
