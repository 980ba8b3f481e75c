use Rattle.std.proofs.Common.{◌≡◌, ◌≤◌, ◌-◌, List, ℕ, length, IsTrue}
use Rattle.event_log.specs.Finding.{NoGroupIn}
use Rattle.event_log.proofs.finding.find_group.Given as goal

abbrev pub invariant-loop-place : goal.invariant-loop-place
invariant-loop-place g l = record {
  seen : g.D.Disk.seen l.disk ≡ g.D.Disk.seen l.fn.disk;
  crash : (file : List ℕ) → g.D.Disk.may_leave l.disk file → g.D.Disk.may_leave l.fn.disk file;
  clean : IsTrue (g.D.Disk.is_clean l.disk) → IsTrue (g.D.Disk.is_clean l.fn.disk);
  usable : IsTrue (g.D.Disk.is_usable l.disk);
  behind : l.fn.from ≤ l.place;
  none : IsTrue (g.D.Disk.is_clean l.disk) → l.fn.len ≡ length (g.D.Disk.seen l.fn.disk) → NoGroupIn l.fn.owner (g.D.Disk.seen l.fn.disk) l.fn.from l.place;
}

abbrev pub decreases-loop-place : goal.decreases-loop-place
decreases-loop-place g l = l.fn.len - l.place
