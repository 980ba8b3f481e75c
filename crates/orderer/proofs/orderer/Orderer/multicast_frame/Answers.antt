use Rattle.std.proofs.Common.{subst}
use Rattle.std.proofs.lemmas.Result.{on_ok_weaker}
use Rattle.frame_endpoint.specs.Endpoint.{EndpointState, SendsToOthers}
use Rattle.orderer.proofs.orderer.Orderer.multicast_frame.Goals as goal

pub returns : goal.returns
returns c =
    let k = subst (λ (e : EndpointState). SendsToOthers e c.args.frame.now c.in_ok-send_frame_to_others.field-0) c.deref.ensures c.in_ok-send_frame_to_others.ensures.sends in
    rw (← c.self.view_is)
    (on_ok_weaker c.emit.result (λ e. record {
      output = c.in_ok-send_frame_to_others.field-0;
      sends = record { sends = k.sends; goes = k.goes; meant = k.meant };
      given_is = e;
    }) c.emit.ensures.given)
