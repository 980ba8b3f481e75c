use Rattle.std.proofs.Common.{Some, ap, arith}
use Rattle.std.specs.Int.{w128, cast_signed}
use Rattle.tuple_tree.specs.Values.{wide}
use Rattle.tuple_tree.specs.Reading.{◌>>=◌}
use Rattle.tuple_tree.proofs.Numbers.{number_none}
use Rattle.tuple_tree.proofs.reading.read_wide.Goals as goal

pub returns-then-bytes-lt16 : goal.returns-then-bytes-lt16
returns-then-bytes-lt16 c = ap (λ o. o >>= λ n. Some (wide (cast_signed w128 n.0), n.1)) (number_none 16 c.args.bytes.now (omega arith))
