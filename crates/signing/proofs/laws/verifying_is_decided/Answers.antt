use Rattle.signing.proofs.AuthenticBody.{verifies-Decides}
use Rattle.signing.proofs.laws.verifying_is_decided.Goals as goal

pub returns : goal.returns
returns c = λ public text signature. verifies-Decides public text signature
