-- Each operation adds to the run.
use Rattle.std.proofs.Common.{arith}
use Rattle.space_library.proofs.Runs.{starts, no_length, within_all, goes_on}
use Rattle.space_library.proofs.running.run_all.Goals as goal

pub loop-read-init : goal.loop-read-init
loop-read-init c = (omega arith, no_length _ _ c.requires.none, starts _ _ c.requires.none)

pub loop-read-preserved : goal.loop-read-preserved
loop-read-preserved c =
    let next = c.in-Ok.ensures.ok in
    let so_far = c.loop-read.invariant in
    (within_all _ _ _ so_far.0 next.within, c.in-Ok.ensures.room, goes_on _ _ _ _ _ _ _ _ so_far.2 next)
