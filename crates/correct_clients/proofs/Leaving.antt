-- The headline, with its clause on faulty clients left out.
use Rattle.protocol.specs.Space.Linear.{points}
use Rattle.protocol.proofs.Points.Whole
use Rattle.correct_clients.specs.Seen.{PointsAreLinearToClients, RunsAreLinearToClients}

pub points_are_linear_to_clients : PointsAreLinearToClients
points_are_linear_to_clients c valid trace run unforged different =
    let whole = Whole.points_are_linear c valid trace run unforged different in
    record {
      legal = whole.legal;
      covers = record { accepted = whole.covers.accepted; invoked = whole.covers.invoked; once = whole.covers.once };
      placed = whole.placed;
    }

pub runs_are_linear_to_clients : RunsAreLinearToClients
runs_are_linear_to_clients c valid trace run unforged different =
    (points c trace, points_are_linear_to_clients c valid trace run unforged different)
