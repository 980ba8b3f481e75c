use Rattle.schedule_world.proofs.FirstFrame as FirstFrame
use Rattle.schedule_world.proofs.laws.first_frame_may_come.Goals as goal

pub returns : goal.returns
returns c = record { comes = FirstFrame.first_frame_may_come }
