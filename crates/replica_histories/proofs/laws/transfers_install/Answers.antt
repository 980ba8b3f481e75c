use Rattle.replica_histories.proofs.TransfersInstalling
use Rattle.replica_histories.proofs.laws.transfers_install.Goals as goal

pub returns : goal.returns
returns c = record { started = TransfersInstalling.started_rests; digests = TransfersInstalling.digests_rest; pages = TransfersInstalling.pages_rest; rested = TransfersInstalling.rested_rests; install = TransfersInstalling.transfers_install }
