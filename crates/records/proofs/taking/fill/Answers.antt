use Rattle.std.proofs.Common.{arith}
use Rattle.records.proofs.Parts.{takes_more, took_some}
use Rattle.records.proofs.taking.fill.Goals as goal

pub loop-preserved : goal.loop-preserved
loop-preserved g c = record {
  room = omega arith;
  short = (c.in_ok-take_some.ensures {u = tt}).short;
  taken = takes_more _ _ _ _ _ _ c.loop.invariant.taken (took_some _ _ _ _ _ c.if-not-branch.false (c.in_ok-take_some.ensures {u = tt}).takes);
}
