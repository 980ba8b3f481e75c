use Rattle.replica_histories.proofs.TransfersQuorums
use Rattle.replica_histories.proofs.laws.quorums_are_fetched.Goals as goal

pub returns : goal.returns
returns c = record { grow = TransfersQuorums.quorums_grow; same = TransfersQuorums.counts_stay; unchanged = TransfersQuorums.unchanged_bring_none; first = TransfersQuorums.quorums_first; next = TransfersQuorums.quorums_stay; begin = TransfersQuorums.quorums_begin; go_on = TransfersQuorums.quorums_go_on; end = TransfersQuorums.quorums_end }
