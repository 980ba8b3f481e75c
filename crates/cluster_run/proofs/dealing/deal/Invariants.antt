use Rattle.std.proofs.Common.{map}
use Rattle.cluster_run.specs.Hands.{AreDealt}
use Rattle.cluster_run.proofs.dealing.deal.Given as goal

abbrev pub invariant-loop-i : goal.invariant-loop-i
invariant-loop-i l = AreDealt (map (λ p. p.1) l.yielded) l.clients l.hands.items
