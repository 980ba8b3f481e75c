use Rattle.protocol.proofs.Agreement.Commits
use Rattle.protocol.proofs.Agreement.Executing
use Rattle.evidence.proofs.certified.certificates_stay.Goals as goal

pub returns : goal.returns
returns c = record { prepared = Commits.prepared_remains; committed = Executing.committed_remains }
