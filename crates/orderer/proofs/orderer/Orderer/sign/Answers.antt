use Rattle.std.proofs.Common.{◌+◌, Err, Some, inl, inr, sym, ap, ◌∙◌, subst}
use Rattle.wire_format.specs.Views.{message_data}
use Rattle.frame_endpoint.specs.Endpoint.{EndpointState, IsTooLongToSign, SignedExceeds, SignsFrame, says}
use Rattle.orderer.specs.PqSets.{MaySign}
use Rattle.orderer.specs.OrdererView.{orderer_data}
use Rattle.orderer.specs.State.{OrdererData}
use Rattle.orderer.proofs.orderer.Orderer.sign.Goals as goal
use Rattle.orderer.proofs.orderer.Orderer.sign.Goals.{in-Ok, in-Err-NoMemory, in-Err-KeysSpent, in-Err-TooLarge}

pub returns-clause-ok : goal.returns-clause-ok
returns-clause-ok c =
    let message = message_data c.args.message in
    let with_it : EndpointState → OrdererData = λ e. record (orderer_data c.self.inside) { endpoint = record e { used = 0 }; spent = e.used } in
    let spending : EndpointState → EndpointState = λ e. record e { used = e.used + 1 } in
    let lent = c.deref_mut.ensures.value in
    elim c.match-sign.branch [
      | in-Ok w ↦ rw w.result-is
          (subst (λ (o : OrdererData). MaySign message o (with_it c.sign.new.self) (Some w.in-Ok.frame)) c.self.view_is (
            subst (λ (e : EndpointState). SignsFrame e message w.in-Ok.frame) lent w.in-Ok.ensures.frame,
            w.in-Ok.ensures.leaf ∙ ap (λ (e : EndpointState). Some e.used) lent,
            ap with_it (w.in-Ok.ensures.used ∙ ap spending lent),
          ))
      | in-Err-NoMemory w ↦ rw w.result-is tt
      | in-Err-KeysSpent w ↦ rw w.result-is (
        ap with_it (w.in-Err-KeysSpent.ensures.kept (λ same. cc) ∙ lent) ∙ c.self.view_is,
        inl (ap (λ (o : OrdererData). o.spent) (sym c.self.view_is) ∙ ap (λ (e : EndpointState). e.used) (sym lent) ∙ c.sign.ensures.spent.0 (w.in-Err-KeysSpent.is ∙ ap Err w.in-Err-KeysSpent.field-0-is)),
      )
      | in-Err-TooLarge w ↦ rw w.result-is (
        ap with_it (w.in-Err-TooLarge.ensures.kept (λ same. cc) ∙ lent) ∙ c.self.view_is,
        inr (subst (λ (o : OrdererData). SignedExceeds (says o.endpoint.me message)) c.self.view_is
            (subst (λ (e : EndpointState). IsTooLongToSign e message) lent (c.sign.ensures.large.0 (w.in-Err-TooLarge.is ∙ ap Err w.in-Err-TooLarge.field-0-is))).1),
      )
    ]
