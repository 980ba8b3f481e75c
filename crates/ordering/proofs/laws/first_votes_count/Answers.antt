use Rattle.ordering.proofs.Voting.{with_vote_of}
use Rattle.ordering.proofs.laws.first_votes_count.Goals as goal

pub returns : goal.returns
returns c = record { first = with_vote_of }
