use Rattle.event_log.proofs.Logs.{damage_not_read}
use Rattle.event_log.proofs.laws.damage_is_not_read.Goals as goal

pub returns : goal.returns
returns c = damage_not_read
