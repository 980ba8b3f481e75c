use Rattle.std.proofs.Common.{refl}
use Rattle.lock_service.proofs.lock.Lock.acquire.Goals as goal

pub same-op : goal.same-op
same-op g c = refl
