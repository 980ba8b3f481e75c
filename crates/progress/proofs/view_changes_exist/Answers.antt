use Rattle.progress.proofs.Listing
use Rattle.progress.proofs.view_changes_exist.Goals as goal

pub returns : goal.returns
returns c = record { exist = Listing.view_changes_exist }
