use Rattle.std.proofs.Common.{arith}
use Rattle.schedule_lines.proofs.SoFar.{ends, late_skipped, late_step, late_none}
use Rattle.schedule_lines.specs.declared.reading.LineRefusal.TheVariants.{LastLine}
use Rattle.schedule_lines.proofs.reading.Schedule.end_lines.Goals as goal

pub returns-in-Ok-End : goal.returns-in-Ok-End
returns-in-Ok-End g c bytes so_far =
    ends bytes _ _ _ so_far _ c.next_line.result c.next_line.ensures c.in-Ok-End.field-0 c.in-Ok-End.is c.in-Ok-End.field-0-is

pub returns-in-Ok-Skipped : goal.returns-in-Ok-Skipped
returns-in-Ok-Skipped g c bytes so_far =
    late_skipped bytes _ _ _ so_far _ c.next_line.result c.next_line.ensures c.refuse_last.new.self c.in-Ok-Skipped.field-0 LastLine (omega arith) c.in-Ok-Skipped.is c.in-Ok-Skipped.field-0-is c.refuse_last.ensures

pub returns-in-Ok-Step : goal.returns-in-Ok-Step
returns-in-Ok-Step g c bytes so_far =
    late_step bytes _ _ _ so_far _ c.next_line.result c.next_line.ensures c.refuse_last-in-Ok-Step.new.self c.in-Ok-Step.field-0 c.in-Ok-Step._step LastLine (omega arith) c.in-Ok-Step.is c.in-Ok-Step.field-0-is c.refuse_last-in-Ok-Step.ensures

pub returns-in-Err-Refused : goal.returns-in-Err-Refused
returns-in-Err-Refused g c bytes so_far =
    late_none bytes _ _ _ so_far _ c.next_line.result c.next_line.ensures c.refuse_last-in-Err-Refused.new.self c.in-Err-Refused.field-0 c.in-Err-Refused.field-0-0 c.in-Err-Refused.field-0-1 LastLine (omega arith) c.in-Err-Refused.is c.in-Err-Refused.field-0-is c.refuse_last-in-Err-Refused.ensures
