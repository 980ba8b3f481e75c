use Rattle.std.proofs.Common.{◌≡◌, ◌++◌, ◌-◌, ◌≤◌, length, take, drop, map}
use Rattle.std.specs.Prelude.{filter}
use Rattle.template_match.specs.Tests.{is_match}
use Rattle.space.specs.Births.{oldest_births}
use Rattle.space.specs.Found.{entries_at}
use Rattle.space.proofs.matching.births_of_matches.Given as goal

-- The births that were found, and those of the first matches of the tuples left to look at, are those of all.
abbrev pub invariant-loop-birth : goal.invariant-loop-birth
invariant-loop-birth g l = record {
  few : length l.matched.items ≤ l.max.count;
  limit : l.max.count ≤ 64;
  same : l.matched.items ++ take (l.max.count - length l.matched.items) (map (λ e. e.0) (filter (λ e. is_match l.template e.1) (entries_at l.tuples.entries (drop l.birth-index l.births))))
      ≡ oldest_births l.max.count l.template (entries_at l.tuples.entries l.births);
}
