use Rattle.std.proofs.Common.{refl}
use Rattle.lock_service.proofs.lock.Lock.of_anyone.Goals as goal

pub same-template : goal.same-template
same-template c = refl
