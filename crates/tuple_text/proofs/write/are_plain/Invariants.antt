use Rattle.std.proofs.Common.{◌≡◌, ◌<◌, ℕ, false}
use Rattle.std.specs.Prelude.{slice_index, IsTrue}
use Rattle.tuple_text.specs.Written.{is_escaped}
use Rattle.tuple_text.proofs.write.are_plain.Given as goal

-- no byte that was looked at is escaped
abbrev pub invariant-loop-byte : goal.invariant-loop-byte
invariant-loop-byte l = IsTrue l.plain → (k : ℕ) → k < l.byte-index → is_escaped (slice_index l.bytes k) ≡ false
