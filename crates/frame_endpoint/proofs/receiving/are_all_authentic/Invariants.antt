use Rattle.std.proofs.Common.{◌≡◌}
use Rattle.signing.specs.Publics.{knows}
use Rattle.frame_endpoint.proofs.Receptions.{Left}
use Rattle.frame_endpoint.proofs.receiving.are_all_authentic.Given as goal

abbrev pub invariant-loop-frame : goal.invariant-loop-frame
invariant-loop-frame l = record { same : l.ring ≡ l.initial.ring; left : Left (knows l.initial.ring l.publics) l.me.0 l.frames l.frame-index }
