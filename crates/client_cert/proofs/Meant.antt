-- To whom the frames go that a client sends.
use Rattle.std.proofs.Common.{◌≡◌, ℕ, ◌+◌, List, subst}
use Rattle.events.specs.declared.output.Output.{Output}
use Rattle.events.specs.Outputs.{AreSentAsMeant}
use Rattle.client_cert.specs.State.{ClientState}
use Rattle.client_cert.specs.Steps.{SendsAsMeant}
use Rattle.client_cert.proofs.Fitting.{knows_still}

-- a client of the same number that knows the same sends so
pub sent_alike : (a b : ClientState) (outs : List Output) → a.number ≡ b.number → a.membership ≡ b.membership → SendsAsMeant a outs → SendsAsMeant b outs
sent_alike a b outs number same h c known = subst (λ (n : ℕ). AreSentAsMeant c (256 + n) outs) number (h c (knows_still c b a number same known))
