use Rattle.std.proofs.Common.{subst}
use Rattle.view_change.specs.ReceivedData.{IsHeldSet}
use Rattle.view_change.specs.ReceivedView.{ReceivedState, judging_configuration, received_state}
use Rattle.view_change.proofs.Holding.{held_set_for}
use Rattle.view_change.proofs.received.Received.frames_for.Goals as goal

pub returns-clause-set : goal.returns-clause-set
returns-clause-set c =
    subst (λ (r : ReceivedState). IsHeldSet (judging_configuration r) c.args.view.0 r.held) c.self.view_is (held_set_for (received_state c.self.inside) c.args.view.0 c.self.invariant)
