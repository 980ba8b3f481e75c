use Rattle.std.proofs.Common.{◌∙◌, ap, sym}
use Rattle.terms.specs.Parties.{party_number}
use Rattle.wire.specs.Headers.{header_data}
use Rattle.signing.proofs.Requests.{receives, not_heard_of_no_frame, not_authentic_where_refused, own_is_not_heard}
use Rattle.signing.specs.Publics.{knows}
use Rattle.signing.proofs.authentic_request.authenticate_request.Goals as goal

pub returns-in_default-clause-none : goal.returns-in_default-clause-none
returns-in_default-clause-none c publics none =
    not_heard_of_no_frame (knows c.args.ring.now publics) c.args.me.0 c.args.bytes.now (λ frame spelled. let is_ok = c.in_default.ensures.only frame spelled in let k : ⊥ = cc in k)

pub returns-then-number-clause-none : goal.returns-then-number-clause-none
returns-then-number-clause-none c publics none =
    own_is_not_heard (knows c.args.ring.now publics) c.args.me.0 c.args.bytes.now (header_data c.in-Ok.header) c.in-Ok.ensures.found
    (sym c.number.ensures ∙ c.if-number.true ∙ c.number-2.ensures)

pub returns-then-is_some-clause-none : goal.returns-then-is_some-clause-none
returns-then-is_some-clause-none c publics none =
    not_authentic_where_refused (knows c.args.ring.now publics) c.args.me.0 c.args.bytes.now (header_data c.in-Ok.header) c.in-Ok.ensures.found
    c.refusal.result c.refusal.ensures.value (sym c.is_some.ensures ∙ c.if-is_some.true)

pub returns-clause-some : goal.returns-clause-some
returns-clause-some c publics =
    let request = c.request_in-request in
    record {
      op = request.ensures.op;
      receives = receives (knows c.args.ring.now publics) c.args.me.0 c.args.bytes.now (header_data c.in-Ok.header) c.in-Ok.ensures.found
          c.refusal.result c.refusal.ensures.value (sym c.is_some.ensures ∙ c.if-is_some.false) request.result request.ensures
          (λ e. c.if-number.false (c.number.ensures ∙ e ∙ sym c.number-2.ensures)) c.in-Client.client.number (ap party_number c.in-Client.is);
      spelled = request.ensures.spelled;
    }
