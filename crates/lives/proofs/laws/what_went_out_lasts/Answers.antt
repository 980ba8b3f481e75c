use Rattle.lives.proofs.Telling.{kept_is_told, lives_last}
use Rattle.lives.proofs.laws.what_went_out_lasts.Goals as goal

pub returns-clause-one : goal.returns-clause-one
returns-clause-one c = kept_is_told

pub returns-clause-all : goal.returns-clause-all
returns-clause-all c = lives_last
