use Rattle.std.proofs.Common.{◌≡◌, ◌<◌, ◌≤◌, ◌-◌, ℕ, false, length}
use Rattle.std.specs.Prelude.{slice_index}
use Rattle.tuple_text.specs.Written.{is_escaped}
use Rattle.tuple_text.proofs.write.plain_groups.Given as goal

-- no byte that was passed is escaped
abbrev pub invariant-loop-passed : goal.invariant-loop-passed
invariant-loop-passed l = record {
  within : l.passed ≤ length l.text;
  plain : (k : ℕ) → k < l.passed → is_escaped (slice_index l.text k) ≡ false;
}

abbrev pub decreases-loop-passed : goal.decreases-loop-passed
decreases-loop-passed l = length l.text - l.passed
