-- Laws of the records that a process reads.
use Rattle.std.specs.Prelude.{◌≡◌, ℕ, List}
use Rattle.tuple_tree.specs.Values.{AreBytes}
use Rattle.records.specs.Records.{NoticeData, TellsNotice, TellsNothing, TellNotices, kept_of}

-- All bytes tell some list of notices.
abbrev pub InputsTell : Type 0
InputsTell = (bytes : List ℕ) → AreBytes bytes → (notices : List NoticeData) × TellNotices bytes notices

-- No bytes tell two lists.
abbrev pub InputsTellOne : Type 0
InputsTellOne =
    (bytes : List ℕ) (notices others : List NoticeData) → TellNotices bytes notices → TellNotices bytes others
    → notices ≡ others

-- What is kept of a record tells what the record tells.
abbrev pub KeptTellTheSame : Type 0
KeptTellTheSame =
    (body : List ℕ)
    → ((notice : NoticeData) → TellsNotice (kept_of body) notice → TellsNotice body notice)
    × (TellsNothing (kept_of body) → TellsNothing body)
