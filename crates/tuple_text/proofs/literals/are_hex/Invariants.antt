use Rattle.std.proofs.Common.{◌≡◌, ◌<◌, ℕ, true}
use Rattle.std.specs.Prelude.{slice_index, IsTrue}
use Rattle.tuple_text.specs.Literals.{is_hex}
use Rattle.tuple_text.proofs.literals.are_hex.Given as goal

-- each byte that was looked at is a digit
abbrev pub invariant-loop-byte : goal.invariant-loop-byte
invariant-loop-byte l = IsTrue l.hex → (k : ℕ) → k < l.byte-index → is_hex (slice_index l.bytes k) ≡ true
