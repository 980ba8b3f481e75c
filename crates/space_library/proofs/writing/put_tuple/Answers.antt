-- A count, and the items behind it.
use Rattle.space_library.proofs.Texts.{tuple_puts}
use Rattle.space_library.proofs.writing.put_tuple.Goals as goal

pub returns : goal.returns
returns c =
    tuple_puts c.args.tuple.now _ _ _ _ _ _ _ _ c.len.ensures.value c.bytes.ensures.value c.requires c.put-behind.ensures c.put.ensures
