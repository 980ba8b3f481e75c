use Rattle.std.proofs.Common.{arith}
use Rattle.wire.proofs.Whole.{found_in, only_in, large_in, only_large_in}
use Rattle.wire.proofs.judging.judge.Goals as goal

pub returns-clause-found : goal.returns-clause-found
returns-clause-found c = found_in c.args.bytes.now c.judge_whole.result (λ i. omega (arith, c.type_inv.bytes i)) c.judge_whole.ensures

pub returns-clause-only : goal.returns-clause-only
returns-clause-only c f s = only_in c.args.bytes.now c.judge_whole.result (λ i. omega (arith, c.type_inv.bytes i)) c.judge_whole.ensures f s

pub returns-clause-large : goal.returns-clause-large
returns-clause-large c = large_in c.args.bytes.now c.judge_whole.result (λ i. omega (arith, c.type_inv.bytes i)) c.judge_whole.ensures

pub returns-clause-only_large : goal.returns-clause-only_large
returns-clause-only_large c t = only_large_in c.args.bytes.now c.judge_whole.result c.judge_whole.ensures t
