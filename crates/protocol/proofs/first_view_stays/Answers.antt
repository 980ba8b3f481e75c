use Rattle.protocol.proofs.Agreement.Beginning
use Rattle.protocol.proofs.first_view_stays.Goals as goal

pub returns : goal.returns
returns c = record { begins = Beginning.none_begins; stays = Beginning.first_view_stays }
