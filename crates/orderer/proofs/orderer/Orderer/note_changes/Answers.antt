use Rattle.orderer.proofs.ChangingViews.{are_changes}
use Rattle.orderer.proofs.orderer.Orderer.note_changes.Goals as goal

pub returns : goal.returns
returns c = rw (← c.self.view_is) (are_changes c.self.inside.received c.note_held.ensures)
