use Rattle.client_cert.proofs.Fitting
use Rattle.client_cert.proofs.laws.lives_follow_each_other.Goals as goal

pub returns : goal.returns
returns c = record { follows = Fitting.life_follows_lives }
