use Rattle.std.proofs.Common.{◌≡◌, ◌++◌, ◌-◌, ◌≤◌, length, take, drop, map}
use Rattle.std.specs.Prelude.{filter}
use Rattle.template_match.specs.Tests.{is_match}
use Rattle.space.specs.Found.{entries_at}
use Rattle.space.proofs.matching.copies_of_matches.Given as goal

-- The copies, and the first matches of the tuples left to look at, are the first matches of all.
abbrev pub invariant-loop-birth : goal.invariant-loop-birth
invariant-loop-birth g l = record {
  few : length l.copies ≤ l.max.count;
  limit : l.max.count ≤ 64;
  same : l.copies ++ take (l.max.count - length l.copies) (filter (is_match l.template) (map (λ e. e.1) (entries_at l.tuples.entries (drop l.birth-index l.births))))
      ≡ take l.max.count (filter (is_match l.template) (map (λ e. e.1) (entries_at l.tuples.entries l.births)));
}
