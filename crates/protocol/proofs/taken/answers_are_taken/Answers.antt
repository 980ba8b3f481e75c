use Rattle.protocol.proofs.Words.Transfers
use Rattle.protocol.proofs.taken.answers_are_taken.Goals as goal

pub returns : goal.returns
returns c = record { answers = Transfers.answers_are_taken; others = Transfers.others_are_left; asked = Transfers.taken_were_asked; drops = Transfers.drops_are_left; fetches = Transfers.fetches_tell; outputs = Transfers.outputs_tell_nothing; ticks = Transfers.ticks_take_nothing }
