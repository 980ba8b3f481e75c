use Rattle.std.proofs.Common.{refl}
use Rattle.tuple_codec.proofs.operations.Op.copy_in.Goals as goal

pub same-result : goal.same-result
same-result g c = refl
