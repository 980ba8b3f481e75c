use Rattle.std.proofs.Common.{refl}
use Rattle.space.proofs.InOrder.{none_apart}
use Rattle.space.proofs.stored.Stored.new.Goals as goal

pub invariant_of-result : goal.invariant_of-result
invariant_of-result c = rw (c.new.ensures.items, c.new-2.ensures.items) (record { apart = none_apart; kept = refl })
