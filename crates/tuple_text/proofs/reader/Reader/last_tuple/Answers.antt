use Rattle.std.proofs.Common.{refl}
use Rattle.tuple_text.proofs.reader.Reader.last_tuple.Goals as goal

pub same-tuple : goal.same-tuple
same-tuple g c = refl
