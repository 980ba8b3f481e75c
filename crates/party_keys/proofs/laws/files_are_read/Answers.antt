use Rattle.std.proofs.Common.{subst}
use Rattle.party_keys.specs.Reading.{SaysParty}
use Rattle.party_keys.proofs.Once.{same_party, same_some}
use Rattle.party_keys.proofs.Saying.{says_file}
use Rattle.party_keys.proofs.laws.files_are_read.Goals as goal

pub returns-clause-read : goal.returns-clause-read
returns-clause-read c k valid = says_file k valid

pub returns-clause-once : goal.returns-clause-once
returns-clause-once c text j k h g =
    same_party g.table j k
    (subst (λ t. SaysParty t j) (same_some _ h.table g.table h.parsed g.parsed) h.all.party) g.all.party
