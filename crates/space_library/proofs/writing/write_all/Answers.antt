-- A tag and a count, and the tuples behind them.
use Rattle.std.proofs.Common.{[], ◌∷◌, length, arith}
use Rattle.tuple_codec.specs.Spelling.{tuples_spelling}
use Rattle.space_library.proofs.Texts.{puts_both}
use Rattle.space_library.proofs.writing.write_all.Goals as goal

pub returns : goal.returns
returns c =
    let ts = c.args.tuples.now in
    puts_both 0 _ _ (0x35 ∷ length ts ∷ []) (tuples_spelling ts) _ _ _ (omega arith) c.put-at.ensures c.put_tuples.ensures
