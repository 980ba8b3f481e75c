use Rattle.std.proofs.Common.{refl}
use Rattle.lock_service.proofs.lock.Lock.held_by.Goals as goal

pub same-tuple : goal.same-tuple
same-tuple c = refl
