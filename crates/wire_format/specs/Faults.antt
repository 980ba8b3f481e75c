-- When bytes are too long for a frame, and the faults of parts as faults of the whole.
use Rattle.std.specs.Prelude.{◌≡◌, ◌⊎◌, ℕ, ◌<◌, ◌≤◌, ◌^◌, IsTrue, List, ◌∷◌, ◌++◌, length, slice_index, ◌==◌}
use Rattle.std.specs.Prelude.{if◌then◌else◌}
use Rattle.std.specs.Int.{w16, w32, w64, to_be_bytes}
use Rattle.wire_format.specs.declared.fault.NoFrame.{NoFrame}
use Rattle.wire_format.specs.declared.fault.NoFrame.TheVariants as no_frame
use Rattle.wire_format.specs.declared.fault.WireFault.{WireFault}
use Rattle.wire_format.specs.declared.fault.WireFault.TheVariants as faults
use Rattle.wire_format.specs.Lists.{Each, each_spelling, ascends}
use Rattle.wire_format.specs.Spelling.{piece, IsCarried, is_view_change, sender_before}

abbrev pub fault_of : NoFrame → WireFault
fault_of no_frame.TooLarge = faults.TooLarge
fault_of no_frame.Malformed = faults.Malformed

-- The most bytes of a frame, by its type, which stands at its byte 4.
abbrev pub limit_at : List ℕ → ℕ
limit_at bs = if slice_index bs 4 == 0x46 then 262144 else 4194304

-- The fields of a new view up to the length of a view change that it carries after others, and some bytes after that.
abbrev pub cut_new_view : ℕ → ℕ → ℕ → List (List ℕ) → ℕ → List ℕ → List ℕ
cut_new_view sender view count changes size after =
    0x47 ∷ (to_be_bytes w16 sender ++ (to_be_bytes w64 view
    ++ (count ∷ (each_spelling piece changes ++ (to_be_bytes w32 size ++ after)))))

-- The bytes are a new view up to the length of a view change that it carries, and that length is over the limit.
pub record CarriesTooLarge (bs : List ℕ) : Type 0 where
  pub sender : ℕ
  pub view : ℕ
  pub count : ℕ
  pub changes : List (List ℕ)
  pub size : ℕ
  pub after : List ℕ
  pub behind : List ℕ
  pub whole : bs ≡ piece (cut_new_view sender view count changes size after) ++ behind
  pub short : length bs ≤ 4194304
  pub sender_fits : sender < 2 ^ 16
  pub view_fits : view < 2 ^ 64
  pub one_more : length changes < count
  pub few : count ≤ 10
  pub each : Each (IsCarried is_view_change) changes
  pub ascend : IsTrue (ascends sender_before changes)
  pub over : 262144 < size
  pub size_fits : size < 2 ^ 32

abbrev pub IsTooLarge : List ℕ → Type 0
IsTooLarge bs = (limit_at bs < length bs) ⊎ CarriesTooLarge bs
