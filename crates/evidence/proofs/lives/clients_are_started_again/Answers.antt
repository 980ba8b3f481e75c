use Rattle.evidence.proofs.Living
use Rattle.evidence.proofs.lives.clients_are_started_again.Goals as goal

pub returns : goal.returns
returns c = record { one = Living.one_life_is_of_lives; calls = Living.lives_take_calls; asks = Living.lives_ask; inputs = Living.lives_take_inputs; runs = Living.runs_take_lives; goes_on = Living.runs_of_lives_go_on }
