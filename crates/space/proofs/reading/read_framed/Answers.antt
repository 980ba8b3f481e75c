use Rattle.std.proofs.Common.{refl}
use Rattle.space.proofs.reading.read_framed.Goals as goal

pub same-tuple : goal.same-tuple
same-tuple c = refl
