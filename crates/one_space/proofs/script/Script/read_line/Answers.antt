use Rattle.std.proofs.Common.{refl}
use Rattle.one_space.proofs.ScriptLemmas.{ends, skips_on, keeps_on, refused_early, refuses_so}
use Rattle.one_space.proofs.script.Script.read_line.Goals as goal

pub returns-in-Ok-End-clause-read : goal.returns-in-Ok-End-clause-read
returns-in-Ok-End-clause-read g c bytes so_far =
    ends _ bytes _ _ _ so_far _ _ c.next_line.result c.next_line.ensures _ c.in-Ok-End.field-0 c.in-Ok-End.is c.in-Ok-End.field-0-is refl

pub returns-in-Ok-Skipped-clause-read : goal.returns-in-Ok-Skipped-clause-read
returns-in-Ok-Skipped-clause-read g c bytes so_far =
    skips_on _ bytes _ _ _ so_far _ _ c.next_line.result c.next_line.ensures _ c.in-Ok-Skipped.field-0 c.requires.early c.in-Ok-Skipped.is c.in-Ok-Skipped.field-0-is refl

pub returns-in-Ok-Operation-clause-read : goal.returns-in-Ok-Operation-clause-read
returns-in-Ok-Operation-clause-read g c bytes so_far =
    keeps_on _ bytes _ _ _ so_far _ _ c.next_line.result c.next_line.ensures _ c.in-Ok-Operation.field-0 c.in-Ok-Operation.op c.keep.result c.requires.early c.in-Ok-Operation.is
    c.in-Ok-Operation.field-0-is c.requires.room c.keep.ensures

pub returns-in-Err-Refused-clause-read : goal.returns-in-Err-Refused-clause-read
returns-in-Err-Refused-clause-read g c bytes so_far =
    rw c.refused_line.ensures.fault
    (refuses_so _ bytes _ _ _ so_far _ _ c.next_line.result c.next_line.ensures c.in-Err-Refused.field-0 c.in-Err-Refused.fault c.requires.early c.in-Err-Refused.is c.in-Err-Refused.field-0-is)

pub returns-in-Err-RefusedEarly-clause-read : goal.returns-in-Err-RefusedEarly-clause-read
returns-in-Err-RefusedEarly-clause-read g c bytes so_far =
    rw c.refused_line-in-Err-RefusedEarly.ensures.fault
    (refused_early _ bytes _ _ _ so_far _ _ c.next_line.result c.next_line.ensures c.in-Err-RefusedEarly.field-0 c.in-Err-RefusedEarly.fault c.requires.early c.in-Err-RefusedEarly.is
    c.in-Err-RefusedEarly.field-0-is)
