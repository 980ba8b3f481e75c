use Rattle.std.proofs.Common.{◌≡◌, ◌++◌, ◌-◌, ◌≤◌, length, take, drop, map}
use Rattle.std.specs.Prelude.{filter}
use Rattle.template_match.specs.Tests.{is_match}
use Rattle.space.specs.Found.{entries_at, lent_tuples}
use Rattle.space.proofs.matching.seen_matches.Given as goal

-- The matches found, and the first matches of the tuples left to look at, are the first matches of all.
abbrev pub invariant-loop-birth : goal.invariant-loop-birth
invariant-loop-birth g l = record {
  few : length l.seen.items ≤ l.max.count;
  limit : l.max.count ≤ 64;
  same : lent_tuples l.seen.items ++ take (l.max.count - length l.seen.items) (filter (is_match l.template) (map (λ e. e.1) (entries_at l.tuples.entries (drop l.birth-index l.births))))
      ≡ take l.max.count (filter (is_match l.template) (map (λ e. e.1) (entries_at l.tuples.entries l.births)));
}
