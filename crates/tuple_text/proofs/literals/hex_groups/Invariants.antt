use Rattle.std.proofs.Common.{◌≡◌, ◌<◌, ◌≤◌, ◌-◌, ℕ, true, length}
use Rattle.std.specs.Prelude.{slice_index}
use Rattle.tuple_text.specs.Literals.{is_hex}
use Rattle.tuple_text.proofs.literals.hex_groups.Given as goal

-- each byte that was passed is a digit
abbrev pub invariant-loop-passed : goal.invariant-loop-passed
invariant-loop-passed l = record {
  within : l.passed ≤ length l.bytes;
  hex : (k : ℕ) → k < l.passed → is_hex (slice_index l.bytes k) ≡ true;
}

abbrev pub decreases-loop-passed : goal.decreases-loop-passed
decreases-loop-passed l = length l.bytes - l.passed
