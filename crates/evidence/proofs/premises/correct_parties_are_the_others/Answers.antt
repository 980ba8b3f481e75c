use Rattle.evidence.proofs.Presuming
use Rattle.evidence.proofs.premises.correct_parties_are_the_others.Goals as goal

pub returns : goal.returns
returns c = record { replicas = Presuming.replicas_are_correct; clients = Presuming.clients_are_correct; both = Presuming.correct_are_both }
