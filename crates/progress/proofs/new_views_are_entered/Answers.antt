use Rattle.progress.proofs.Entering
use Rattle.progress.proofs.new_views_are_entered.Goals as goal

pub returns : goal.returns
returns c = record { entered = Entering.new_views_are_entered }
