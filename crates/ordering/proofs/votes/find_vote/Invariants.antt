use Rattle.std.proofs.Common.{◌≡◌, drop}
use Rattle.ordering.specs.Votes.{voted_digest}
use Rattle.ordering.proofs.votes.find_vote.Given as goal

abbrev pub invariant-loop-vote : goal.invariant-loop-vote
invariant-loop-vote l = voted_digest l.votes l.sender.0 ≡ voted_digest (drop l.vote-index l.votes) l.sender.0
