-- The records that a process of a party reads and writes, and what they tell. Numbers are big-endian.
use Rattle.std.specs.Prelude.{◌≡◌, ℕ, ◌<◌, ◌≤◌, ◌^◌, nat_le, if◌then◌else◌, List, [], ◌∷◌, ◌++◌, length, Option, Some}
use Rattle.std.specs.Int.{w16, w32, w64, to_be_bytes}
use Rattle.wire_format.specs.Lists.{each_spelling}
use Rattle.wire_format.specs.Spelling.{piece}
use Rattle.wire_format.specs.declared.frames.TheConstants.{MAX_FRAME}
use Rattle.records.specs.declared.notice.TheConstants.{FRAME, TIMER, LINKS, MAX_RECORD}

-- A record is a piece: four bytes of length, and so many bytes. These are its body: a byte for its kind, and its content.
-- So many bytes can have a length.
abbrev pub IsBody : List ℕ → Type 0
IsBody body = length body < 2 ^ 32

-- ---- what a process reads

-- What a record tells a process: that this frame came; that the timer of this number is over; that so many other
-- replicas are linked.
pub data NoticeData : Type 0 where
  came : (frame : List ℕ) → NoticeData
  timer_over : (number : ℕ) → NoticeData
  linked : (count : ℕ) → NoticeData

abbrev pub notice_body : NoticeData → List ℕ
notice_body (came frame) = FRAME ∷ frame
notice_body (timer_over number) = TIMER ∷ to_be_bytes w64 number
notice_body (linked count) = LINKS ∷ count ∷ []

-- A frame has its limit, a timer's number eight bytes, and a count one.
abbrev pub IsNotice : NoticeData → Type 0
IsNotice (came frame) = length frame ≤ MAX_FRAME
IsNotice (timer_over number) = number < 2 ^ 64
IsNotice (linked count) = count < 2 ^ 8

-- the record's body tells the notice
abbrev pub TellsNotice : List ℕ → NoticeData → Type 0
TellsNotice body notice = IsNotice notice × (body ≡ notice_body notice)

-- It tells nothing: its kind is unknown, its content is none of its kind, or it is too long.
abbrev pub TellsNothing : List ℕ → Type 0
TellsNothing body = (notice : NoticeData) → TellsNotice body notice → ⊥

-- a record stands at the front of the bytes
pub record BeginsWithRecord (bytes : List ℕ) : Type 0 where
  pub body : List ℕ
  pub rest : List ℕ
  pub is_body : IsBody body
  pub split : bytes ≡ piece body ++ rest

-- less than a whole record
abbrev pub IsPartial : List ℕ → Type 0
IsPartial bytes = BeginsWithRecord bytes → ⊥

-- The bytes are records that tell these notices, in order, and others that tell nothing. Behind the last one less than
-- a whole record may stand.
pub data TellNotices : List ℕ → List NoticeData → Type 0 where
  ends : {bytes : List ℕ} → IsPartial bytes → TellNotices bytes []
  tells : {body rest : List ℕ} {notice : NoticeData} {notices : List NoticeData} → IsBody body
      → TellsNotice body notice → TellNotices rest notices → TellNotices (piece body ++ rest) (notice ∷ notices)
  passes : {body rest : List ℕ} {notices : List NoticeData} → IsBody body
      → TellsNothing body → TellNotices rest notices → TellNotices (piece body ++ rest) notices

-- ---- the next record

-- A record's body is kept, unless it is too long.
abbrev pub kept_of : List ℕ → List ℕ
kept_of body = if nat_le (length body) MAX_RECORD then body else []

-- a record is taken from the front of the bytes xs
pub record TakesRecord (xs : List ℕ) (left : Option (List ℕ)) (kept : List ℕ) : Type 0 where
  pub body : List ℕ
  pub rest : List ℕ
  pub is_body : IsBody body
  pub split : xs ≡ piece body ++ rest
  pub left_is : left ≡ Some rest
  pub kept_is : kept ≡ kept_of body

-- ---- what a process writes

-- A frame that is to go to these parties: how many they are, the number of each, and the frame.
abbrev pub frame_record : List ℕ → List ℕ → List ℕ
frame_record receivers frame =
    piece (FRAME ∷ length receivers ∷ (each_spelling (to_be_bytes w16) receivers ++ frame))

-- A timer that begins, in place of the last one: its number, and how many milliseconds it lasts.
abbrev pub timer_record : ℕ → ℕ → List ℕ
timer_record number milliseconds = piece (TIMER ∷ to_be_bytes w64 number ++ to_be_bytes w32 milliseconds)
