use Rattle.evidence.proofs.Presuming
use Rattle.evidence.proofs.premises.unforged_traces_go_on.Goals as goal

pub returns : goal.returns
returns c = record { others = Presuming.others_are_unforged; got = Presuming.frames_may_be_got; faulty = Presuming.faulty_receive_anything }
