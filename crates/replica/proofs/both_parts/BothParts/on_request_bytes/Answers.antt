use Rattle.std.proofs.Common.{◌+◌, Some, ap, refl, ◌∙◌}
use Rattle.terms.specs.declared.order.Mode.{Mode}
use Rattle.wire_format.specs.Messages.{request}
use Rattle.replica.specs.BothPartsView.{both_parts_data}
use Rattle.replica.proofs.Beginning.{silence_dropped}
use Rattle.replica.proofs.Carrying.{request_carried}
use Rattle.replica.proofs.both_parts.BothParts.on_request_bytes.Goals as goal

pub returns-in_default-clause-ok : goal.returns-in_default-clause-ok
returns-in_default-clause-ok c =
    rw (c.requires.first, c.authenticate_request.ensures.same, ← c.self.view_is)
    (silence_dropped (both_parts_data c.self.inside) c.args.bytes.now c.self.invariant
    (c.in_default.ensures.none refl))

pub on_request-requires-clause-carried : goal.on_request-requires-clause-carried
on_request-requires-clause-carried c =
    let it = c.in-Some.request in
    request_carried c.self.inside.orderer.endpoint.membership c.self.inside.orderer.endpoint.me c.args.bytes.now _
    (c.in-Some.ensures.some.receives
    ∙ ap (λ (m : Mode). Some (record { sender = 256 + it.client.number; message = request it.timestamp.0 m c.in-Some.ensures.some.op })) c.in-Ordered.is) refl

pub returns-in-ReadOnly-clause-ok : goal.returns-in-ReadOnly-clause-ok
returns-in-ReadOnly-clause-ok c =
    let it = c.in-Some.request in
    absurd (c.requires.unmarked c.self.inside.orderer.endpoint.membership c.self.inside.orderer.endpoint.me (256 + it.client.number) it.timestamp.0 c.in-Some.ensures.some.op
    (c.in-Some.ensures.some.receives
    ∙ ap (λ (m : Mode). Some (record { sender = 256 + it.client.number; message = request it.timestamp.0 m c.in-Some.ensures.some.op })) c.in-ReadOnly.is))
