use Rattle.evidence.proofs.Living
use Rattle.evidence.proofs.lives.lives_keep_apart.Goals as goal

pub returns : goal.returns
returns c = record { ascend = Living.lives_ascend; names = Living.timestamps_name_calls; last = Living.lives_accept_the_last; own = Living.life_accepts_its_own; silent = Living.life_begins_silent }
