-- The model of the program's notices.
use Rattle.std.specs.Prelude.{ℕ, List}
use Rattle.records.specs.Records.{NoticeData, came, timer_over, linked, TellsNotice}
use Rattle.records.specs.declared.notice.Notice.{Notice}
use Rattle.records.specs.declared.notice.Notice.TheVariants as notices

abbrev pub notice_data : Notice → NoticeData
notice_data (notices.Came frame) = came frame.now
notice_data (notices.TimerOver number) = timer_over number
notice_data (notices.Linked count) = linked count

-- the record's body tells the notice
abbrev pub Tells : List ℕ → Notice → Type 0
Tells body notice = TellsNotice body (notice_data notice)
