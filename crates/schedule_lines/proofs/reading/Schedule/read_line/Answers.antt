use Rattle.schedule_lines.proofs.SoFar.{ends, skips_on, says_on, refuses_so}
use Rattle.schedule_lines.proofs.reading.Schedule.read_line.Goals as goal

pub returns-in-Ok-End : goal.returns-in-Ok-End
returns-in-Ok-End g c bytes so_far =
    ends bytes _ _ _ so_far _ c.next_line.result c.next_line.ensures c.in-Ok-End.field-0 c.in-Ok-End.is c.in-Ok-End.field-0-is

pub returns-in-Ok-Skipped : goal.returns-in-Ok-Skipped
returns-in-Ok-Skipped g c bytes so_far =
    skips_on bytes _ _ _ so_far _ c.next_line.result c.next_line.ensures c.in-Ok-Skipped.field-0 c.requires.early c.in-Ok-Skipped.is c.in-Ok-Skipped.field-0-is

pub returns-in-Err-Refused : goal.returns-in-Err-Refused
returns-in-Err-Refused g c bytes so_far =
    refuses_so bytes _ _ _ so_far _ c.next_line.result c.next_line.ensures c.refuse.new.self c.in-Err-Refused.field-0 c.in-Err-Refused.byte c.in-Err-Refused.reason _
    c.requires.early c.in-Err-Refused.is c.in-Err-Refused.field-0-is c.refuse.ensures

pub returns-in-Ok : goal.returns-in-Ok
returns-in-Ok g c bytes so_far =
    says_on bytes _ _ _ so_far _ c.next_line.result c.next_line.ensures c.keep.new.self c.in-Ok-Step.field-0 c.in-Ok-Step.step c.requires.early c.in-Ok-Step.is c.in-Ok-Step.field-0-is
    (rw c.in-Ok.is at c.keep.ensures)
