use Rattle.replica_histories.proofs.Fetching
use Rattle.replica_histories.proofs.laws.fetches_fit.Goals as goal

pub returns : goal.returns
returns c = record { fetches = Fetching.fetches_fit; due = Fetching.due_fetches_fit; may = Fetching.quorums_may_ask; none = Fetching.held_owe_no_fetch }
