use Rattle.ordering.proofs.Moving.{cuts_keep}
use Rattle.ordering.proofs.laws.cuts_keep.Goals as goal

pub returns : goal.returns
returns c = record { keep = cuts_keep }
