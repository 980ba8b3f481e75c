use Rattle.std.proofs.Common.{refl, sym, ap, ◌∙◌, Some}
use Rattle.std.proofs.lemmas.Result.{IfOk-weaker}
use Rattle.authenticator.specs.Membership.{Membership}
use Rattle.signing.specs.Publics.{knows}
use Rattle.client_cert.proofs.Sealed.{request_goes}
use Rattle.client_cert.proofs.client.Client.ask.Goals as goal

pub returns-clause-asked : goal.returns-clause-asked
returns-clause-asked c =
    let asks = rw (c.in_ok-text.was, ← c.in_ok-frame.ensures) at c.request-call.ensures.sealed in
    IfOk-weaker c.sole.result _ _ (λ outs is. rw (← c.self.view_is) (record {
      text = c.in_ok-frame.frame;
      call = c.in-Some.call;
      given = rw is refl;
      was = sym c.take.ensures.value ∙ c.in-Some.is;
      asks = asks c.self.inside.publics;
      becomes = record {
        number = refl;
        membership = ap (λ (r : Membership). knows r c.self.inside.publics) c.request-call.ensures.same;
        calls = refl;
        call_is = c.put.ensures ∙ ap Some c.request-call.ensures.went;
      };
      meant = rw is
          (λ k known. (request_goes (knows c.self.inside.ring c.self.inside.publics) _ _ c.self.inside.faults _ _ _ c.in_ok-frame.frame c.self.invariant.0 c.in_ok-receivers.ensures (asks c.self.inside.publics) k known, tt));
    })) c.sole.ensures
