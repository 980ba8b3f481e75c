use Rattle.evidence.proofs.BeginningViews
use Rattle.evidence.proofs.accepted.a_view_begins.Goals as goal

pub returns : goal.returns
returns c = record { begins = BeginningViews.its_view_begins }
