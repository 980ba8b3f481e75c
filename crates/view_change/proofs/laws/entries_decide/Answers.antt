use Rattle.view_change.proofs.Supporting
use Rattle.view_change.proofs.laws.entries_decide.Goals as goal

pub returns : goal.returns
returns c = record { decide = Supporting.entries_decide }
