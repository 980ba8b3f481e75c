use Rattle.std.proofs.Common.{◌≡◌, ◌<◌, ℕ, true}
use Rattle.std.specs.Prelude.{slice_index, IsTrue}
use Rattle.tuple_text.specs.Literals.{is_plain}
use Rattle.tuple_text.proofs.literals.are_plain.Given as goal

-- each byte that was looked at stands for itself
abbrev pub invariant-loop-byte : goal.invariant-loop-byte
invariant-loop-byte l = IsTrue l.plain → (k : ℕ) → k < l.byte-index → is_plain (slice_index l.bytes k) ≡ true
