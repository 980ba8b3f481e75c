use Rattle.std.proofs.Common.{map}
use Rattle.terms.specs.Parties.{party_number}
use Rattle.protocol.specs.System.Schedule.Step.{seal, sign}
use Rattle.schedule_command.proofs.Reasons.{receivers_found, signer_reason}
use Rattle.schedule_command.proofs.allowed.misfit.Goals as goal

pub returns-in-None : goal.returns-in-None
returns-in-None c =
    rw c.in-Seal.is
    (receivers_found c.args.config.now (seal (party_number c.in-Seal.sender) (map party_number c.in-Seal.receivers.items) c.in-Seal.body.items) c.not_receivers.result
    (λ are. (rw c.in-None.is at c.not_faulty.ensures, are)) (rw c.as_slice.ensures.value at c.not_receivers.ensures))

pub returns-in-Some-no_signer : goal.returns-in-Some-no_signer
returns-in-Some-no_signer c w =
    rw c.in-Sign.is
    (signer_reason c.args.config.now w (party_number c.in-Sign.signer) c.in-Sign.leaf (map party_number c.in-Sign.receivers.items) c.in-Sign.body.items c.in-Some-no_signer.why
    (rw c.in-Some-no_signer.is at c.no_signer.ensures))

pub returns-in-None-no_signer : goal.returns-in-None-no_signer
returns-in-None-no_signer c =
    rw c.in-Sign.is
    (receivers_found c.args.config.now (sign (party_number c.in-Sign.signer) c.in-Sign.leaf (map party_number c.in-Sign.receivers.items) c.in-Sign.body.items) c.not_receivers-in-None-no_signer.result
    (λ are. (rw c.in-None-no_signer.is at c.no_signer.ensures, are)) (rw c.as_slice-in-None-no_signer.ensures.value at c.not_receivers-in-None-no_signer.ensures))
