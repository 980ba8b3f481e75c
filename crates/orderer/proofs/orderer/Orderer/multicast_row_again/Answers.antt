use Rattle.std.proofs.lemmas.Result.{on_ok_weaker}
use Rattle.orderer.proofs.Again.{row_again}
use Rattle.orderer.proofs.orderer.Orderer.multicast_row_again.Goals as goal

pub returns-clause-ok : goal.returns-clause-ok
returns-clause-ok c =
    on_ok_weaker c.multicast_vote_again-2.result
    (λ k. row_again c.args.number.0 _ _ _ _ _ _ _ _ c.in_ok-multicast_batch_again.ensures.ok c.in_ok-multicast_vote_again.ensures.ok k) c.multicast_vote_again-2.ensures.ok
