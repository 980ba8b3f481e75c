use Rattle.evidence.proofs.Installing
use Rattle.evidence.proofs.certified.a_state_is_installed.Goals as goal

pub returns : goal.returns
returns c = record { installed = Installing.state_is_installed }
