-- A tag, and the tuple behind it.
use Rattle.std.proofs.Common.{[], ◌∷◌, arith}
use Rattle.tuple_tree.specs.Spelling.{tuple_spelling}
use Rattle.space_library.proofs.Texts.{puts_both}
use Rattle.space_library.proofs.writing.write_found.Goals as goal

pub returns : goal.returns
returns c = puts_both 0 _ _ (0x32 ∷ []) (tuple_spelling c.args.tuple.now) _ _ _ (omega arith) c.put-at.ensures c.put_tuple.ensures
