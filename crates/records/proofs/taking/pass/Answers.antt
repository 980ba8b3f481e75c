use Rattle.std.proofs.Common.{arith}
use Rattle.records.proofs.Parts.{passed_more}
use Rattle.records.proofs.taking.pass.Goals as goal

pub loop-preserved : goal.loop-preserved
loop-preserved g c = record {
  room = omega (arith, (c.in_ok-fill.ensures {u = tt}).room);
  fewer = omega arith;
  passed = passed_more _ _ _ _ _ _ _ _ _ _ c.if-not-branch.false (omega arith) c.clear.ensures.items c.loop.invariant.passed (c.in_ok-fill.ensures {u = tt}).fills;
}
