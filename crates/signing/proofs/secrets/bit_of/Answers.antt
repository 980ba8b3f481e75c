use Rattle.std.proofs.lemmas.Nat.Bits.{shr_and_one}
use Rattle.signing.specs.Lamport.{bit_of}
use Rattle.signing.proofs.secrets.bit_of.Goals as goal

pub returns-clause-value : goal.returns-clause-value
unfolding bit_of
returns-clause-value c = shr_and_one _ _
