use Rattle.progress.proofs.Genuine
use Rattle.progress.proofs.correct_requests_are_genuine.Goals as goal

pub returns : goal.returns
returns c = record { genuine = Genuine.correct_requests_are_genuine }
