use Rattle.replica_histories.proofs.TransfersAnswering
use Rattle.replica_histories.proofs.laws.fetches_are_answered.Goals as goal

pub returns : goal.returns
returns c = record { counts = TransfersAnswering.fetches_count; may = TransfersAnswering.answers_may_go; is_outgoing = TransfersAnswering.outgoing_to_one; suffice = TransfersAnswering.answers_suffice; unkept = TransfersAnswering.none_is_owed; stay = TransfersAnswering.answers_stay; turn = TransfersAnswering.answers_turn; parts = TransfersAnswering.answers_in_parts }
