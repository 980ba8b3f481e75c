use Rattle.signing.proofs.AuthenticBody.{opened_is_authentic, authentic_was_opened, signed_is_authentic, authentic_was_signed, signed_was_signed, signer_is_authentic}
use Rattle.signing.proofs.laws.receiving.Goals as goal

pub returns-clause-opened_is_authentic : goal.returns-clause-opened_is_authentic
returns-clause-opened_is_authentic c = opened_is_authentic

pub returns-clause-authentic_was_opened : goal.returns-clause-authentic_was_opened
returns-clause-authentic_was_opened c = authentic_was_opened

pub returns-clause-signed_is_authentic : goal.returns-clause-signed_is_authentic
returns-clause-signed_is_authentic c = signed_is_authentic

pub returns-clause-authentic_was_signed : goal.returns-clause-authentic_was_signed
returns-clause-authentic_was_signed c = authentic_was_signed

pub returns-clause-signed_was_signed : goal.returns-clause-signed_was_signed
returns-clause-signed_was_signed c = signed_was_signed

pub returns-clause-signer_is_authentic : goal.returns-clause-signer_is_authentic
returns-clause-signer_is_authentic c = signer_is_authentic
