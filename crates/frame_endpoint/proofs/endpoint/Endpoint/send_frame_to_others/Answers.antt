use Rattle.authenticator.specs.Membership.{Membership}
use Rattle.std.proofs.Common.{◌+◌, ◌*◌, ℕ, List, ap, ◌∙◌}
use Rattle.protocol.specs.System.Trace.Entry.{Sent}
use Rattle.signing.specs.Publics.{knows}
use Rattle.frame_endpoint.specs.Endpoint.{others_below}
use Rattle.frame_endpoint.proofs.Outgoing.{signed_goes}
use Rattle.frame_endpoint.proofs.endpoint.Endpoint.send_frame_to_others.Goals as goal

pub returns-clause-sends : goal.returns-clause-sends
returns-clause-sends c =
    rw (← c.self.view_is)
    (record {
      sends = ap (λ (bytes : List ℕ). Sent c.self.inside.me.0 bytes) (c.in_ok-frame.ensures ∙ c.in_ok-copy.ensures.items);
      goes = c.in_ok-receivers.ensures ∙ ap (λ (f : ℕ). others_below (3 * f + 1) c.self.inside.me.0) c.self.invariant.0;
      meant = λ k message known is_outgoing. signed_goes (knows c.self.inside.ring c.self.inside.publics) c.self.inside.me.0 c.self.inside.faults message _ c.args.frame.now _ c.self.invariant.3 c.self.invariant.0
          (c.in_ok-receivers.ensures ∙ ap (λ (f : ℕ). others_below (3 * f + 1) c.self.inside.me.0) c.self.invariant.0) (c.in_ok-frame.ensures ∙ c.in_ok-copy.ensures.items) k known is_outgoing;
    })

pub returns-clause-sends_frame : goal.returns-clause-sends_frame
returns-clause-sends_frame c =
    rw (← c.self.view_is)
    (λ message own. record {
      bytes = c.args.frame.now;
      sends = ap (λ (bytes : List ℕ). Sent c.self.inside.me.0 bytes) (c.in_ok-frame.ensures ∙ c.in_ok-copy.ensures.items);
      goes = c.in_ok-receivers.ensures ∙ ap (λ (f : ℕ). others_below (3 * f + 1) c.self.inside.me.0) c.self.invariant.0;
      is_outgoing = λ k known. own k (ap (λ (x : Membership). x.publics) known);
      meant = λ k known. signed_goes (knows c.self.inside.ring c.self.inside.publics) c.self.inside.me.0 c.self.inside.faults message _ c.args.frame.now _ c.self.invariant.3 c.self.invariant.0
          (c.in_ok-receivers.ensures ∙ ap (λ (f : ℕ). others_below (3 * f + 1) c.self.inside.me.0) c.self.invariant.0) (c.in_ok-frame.ensures ∙ c.in_ok-copy.ensures.items) k known (own k (ap (λ (x : Membership). x.publics) known));
    })
