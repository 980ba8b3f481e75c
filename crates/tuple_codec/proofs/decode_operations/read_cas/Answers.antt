use Rattle.std.proofs.Common.{refl}
use Rattle.tuple_codec.proofs.decode_operations.read_cas.Goals as goal

pub same-template : goal.same-template
same-template g c = refl
