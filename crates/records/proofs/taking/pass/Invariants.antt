use Rattle.std.proofs.Common.{◌≤◌, vec_capacity}
use Rattle.records.specs.declared.notice.TheConstants.{MAX_RECORD}
use Rattle.records.proofs.Parts.{HasPassed}
use Rattle.records.proofs.taking.pass.Given as goal

abbrev pub invariant-loop : goal.invariant-loop
invariant-loop g l = record {
  room : MAX_RECORD ≤ vec_capacity l.body;
  fewer : l.left ≤ l.count;
  passed : HasPassed l.count l.left (g.B.Read.remaining l.fn.reader) (g.B.Read.remaining l.reader);
}
