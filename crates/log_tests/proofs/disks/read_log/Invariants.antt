use Rattle.std.proofs.Common.{◌≡◌, List, ℕ, IsTrue}
use Rattle.event_log.specs.Standing.{unread}
use Rattle.log_tests.proofs.disks.read_log.Given as goal

abbrev pub invariant-loop-texts : goal.invariant-loop-texts
invariant-loop-texts g l = record {
  seen : g.D.Disk.seen l.disk ≡ g.D.Disk.seen l.fn.disk;
  crash : (file : List ℕ) → g.D.Disk.may_leave l.disk file → g.D.Disk.may_leave l.fn.disk file;
  usable : IsTrue (g.D.Disk.is_usable l.disk);
}

abbrev pub decreases-loop-texts : goal.decreases-loop-texts
decreases-loop-texts g l = unread l.reading
