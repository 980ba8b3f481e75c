use Rattle.protocol.proofs.Agreement.States
use Rattle.protocol.proofs.roots_agree.Goals as goal

pub returns : goal.returns
returns c = record {
  stable = λ c setting trace right unforged apart r k root correct h. States.quorum_root c setting trace right unforged apart r k root correct h;
  installed = λ c setting trace right unforged apart r k root correct h. States.installed_root c setting trace right unforged apart r k root correct h;
  starts = λ c setting trace right unforged apart r k root correct h. States.start_root c setting trace right unforged apart r k root correct h;
}
