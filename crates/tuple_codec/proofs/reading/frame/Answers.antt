use Rattle.std.proofs.Common.{sym, arith}
use Rattle.std.proofs.lemmas.List.{take_all, length-take-le, length-take}
use Rattle.tuple_codec.proofs.reading.frame.Goals as goal

pub slice_bounds-result-end : goal.slice_bounds-result-end
slice_bounds-result-end c = sym (length-take-le 1024 c.args.bytes.now (omega arith))

pub returns-then-bytes-le-MAX_LEN-clause-value : goal.returns-then-bytes-le-MAX_LEN-clause-value
returns-then-bytes-le-MAX_LEN-clause-value c = sym (take_all 1024 c.args.bytes.now (omega arith))

pub returns-else-bytes-le-MAX_LEN-clause-bound : goal.returns-else-bytes-le-MAX_LEN-clause-bound
returns-else-bytes-le-MAX_LEN-clause-bound c = omega (arith, length-take 1024 c.args.bytes.now)
