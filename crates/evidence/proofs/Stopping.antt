-- A party may stop.
use Rattle.std.proofs.Common.{inr, refl, sym}
use Rattle.evidence.specs.Stopping.{ReplicasMayStop, ClientsMayStop}

pub replicas_may_stop : ReplicasMayStop
replicas_may_stop c me past right = (λ bytes. inr (refl, tt, right), inr (refl, tt, right))

pub clients_may_stop : ClientsMayStop
clients_may_stop c me past right = ((λ bytes. inr (refl, tt, right), inr (refl, tt, right)), λ k op is free valid. inr (sym is, (refl, free, valid), right))
