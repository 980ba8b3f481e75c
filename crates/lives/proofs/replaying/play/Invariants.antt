use Rattle.std.proofs.Common.{◌≡◌, List, ℕ, IsTrue}
use Rattle.event_log.specs.Standing.{unread}
use Rattle.lives.specs.Repeats.{PlaysUpTo}
use Rattle.lives.proofs.replaying.play.Given as goal

abbrev pub invariant-loop-last : goal.invariant-loop-last
invariant-loop-last g l = record {
  seen : g.D.Disk.seen l.disk ≡ g.D.Disk.seen l.fn.disk;
  crash : (file : List ℕ) → g.D.Disk.may_leave l.disk file → g.D.Disk.may_leave l.fn.disk file;
  clean : IsTrue (g.D.Disk.is_clean l.disk) → IsTrue (g.D.Disk.is_clean l.fn.disk);
  usable : IsTrue (g.D.Disk.is_usable l.disk);
  plays : IsTrue (g.D.Disk.is_clean l.disk) → PlaysUpTo g.M.Machine.fits l.fn.owner l.machine l.reading (g.D.Disk.seen l.fn.disk) l.last.items;
}

abbrev pub decreases-loop-last : goal.decreases-loop-last
decreases-loop-last g l = unread l.reading
