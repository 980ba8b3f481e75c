use Rattle.std.proofs.Common.{◌≡◌, ◌≤◌, reverse, take}
use Rattle.std.specs.List.Sorted.{IsNonDecreasingBy}
use Rattle.wire_format.specs.Lists.{Each}
use Rattle.points.specs.declared.levels.Rise.{Rise}
use Rattle.points.specs.Leveling.{level, rises}
use Rattle.points.proofs.Rising.{AreReached}
use Rattle.points.proofs.levels.find_rises.Given as goal

abbrev pub invariant-loop-position : goal.invariant-loop-position
invariant-loop-position l =
    AreReached (reverse (take l.position l.trace)) l.reached
    × (l.level ≡ level l.config (reverse (take l.position l.trace)))
    × (reverse l.found.items ≡ rises l.config (reverse (take l.position l.trace)))
    × IsNonDecreasingBy (λ (x : Rise). x.level) l.found.items
    × Each (λ (x : Rise). x.level ≤ l.level) l.found.items
