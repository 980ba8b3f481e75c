use Rattle.replica.proofs.PartsJoining.{parts_join, holds_part}
use Rattle.replica.proofs.parted_laws.parts_are_whole.Goals as goal

pub returns : goal.returns
returns c = record { join = parts_join; part = holds_part }
