use Rattle.correct_clients.proofs.Leaving
use Rattle.correct_clients.proofs.runs_are_linear_to_clients.Goals as goal

pub returns : goal.returns
returns c = record {
  points = Leaving.points_are_linear_to_clients;
  linear = Leaving.runs_are_linear_to_clients;
}
