use Rattle.std.proofs.Common.{length}
use Rattle.party_keys.proofs.party_keys.+push_pairs.Given as goal

abbrev pub decreases-push_pairs : goal.decreases-push_pairs
decreases-push_pairs l = length l.parties.now
