use Rattle.evidence.proofs.Listing
use Rattle.evidence.proofs.premises.texts_are_listed.Goals as goal

pub returns : goal.returns
returns c = record { listed = Listing.texts_are_listed; short = Listing.lists_are_short }
