use Rattle.std.proofs.lemmas.Result.{on_ok_weaker}
use Rattle.orderer.proofs.Voting.{says_votes}
use Rattle.orderer.proofs.orderer.Orderer.multicast_votes.Goals as goal

pub returns-clause-ok : goal.returns-clause-ok
returns-clause-ok c =
    on_ok_weaker c.multicast_due_commit.result (λ k. says_votes c.args.number.0 _ _ _ _ _ _ c.in_ok-multicast_due_prepare.ensures.ok k) c.multicast_due_commit.ensures.ok
