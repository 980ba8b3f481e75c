use Rattle.std.proofs.Common.{◌≡◌, ◌-◌, ◌^◌, [], reverse, take}
use Rattle.points.specs.Places.{position_in}
use Rattle.points.specs.Scanning.{AreScans, reads_by_scans, seed_holder}
use Rattle.points.specs.Sorting.{HoldsReads}
use Rattle.points.proofs.reads.find_reads.Given as goal

abbrev pub invariant-loop-position : goal.invariant-loop-position
invariant-loop-position l =
    (l.ring ≡ record (seed_holder l.config) { publics = [] })
    × AreScans (reverse (take l.position l.trace)) l.scans.entries
    × HoldsReads (2 ^ 64 - l.position) (reads_by_scans (seed_holder l.config) (position_in (reverse l.places.rises.items)) (reverse (take l.position l.trace))) l.reads
