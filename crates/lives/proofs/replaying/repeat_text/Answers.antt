use Rattle.lives.proofs.Playing.{none_repeated, one_repeated, all_repeated}
use Rattle.lives.proofs.replaying.repeat_text.Goals as goal

pub loop-event-init : goal.loop-event-init
loop-event-init g c = none_repeated g.M.Machine.fits _ _ _

pub loop-event-preserved : goal.loop-event-preserved
loop-event-preserved g c =
    one_repeated g.M.Machine.fits _ _ _ _ _ _ _ _ _ _ c.loop-event.invariant c.in-Some.ensures c.in_ok-repeat_event.ensures

pub returns : goal.returns
returns g c = all_repeated g.M.Machine.fits _ _ _ _ _ _ c.loop-event.invariant c.in_default.ensures
