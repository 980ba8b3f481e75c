use Rattle.evidence.proofs.Counted
use Rattle.evidence.proofs.clients.latest_replies_count.Goals as goal

pub returns : goal.returns
returns c = record { authentic = Counted.received_is_latest; stays = Counted.latest_stays; call = Counted.calls_forget }
