use Rattle.progress.proofs.Changing
use Rattle.progress.proofs.next_views_are_entered.Goals as goal

pub returns : goal.returns
returns c = record { entered = Changing.next_views_are_entered }
