use Rattle.std.proofs.Common.{◌+◌, ◌∙◌, sym}
use Rattle.wire.specs.Headers.{header_data}
use Rattle.signing.specs.Publics.{knows}
use Rattle.client_cert.proofs.Receptions.{hears_no_call, hears_no_frame, hears_no_own, hears_no_refused, hears_reply}
use Rattle.client_cert.proofs.receiving.authenticate_reply.Goals as goal

pub returns-then-not-is_for-clause-receives : goal.returns-then-not-is_for-clause-receives
returns-then-not-is_for-clause-receives c publics =
    hears_no_call (knows c.args.ring.now publics) (256 + c.args.client.number) c.args.timestamp.0 c.args.bytes.now (sym c.is_for.ensures ∙ c.if-not-is_for.true)

pub returns-in_default-clause-receives : goal.returns-in_default-clause-receives
returns-in_default-clause-receives c publics =
    hears_no_frame (knows c.args.ring.now publics) (256 + c.args.client.number) c.args.timestamp.0 c.args.bytes.now
    (λ frame spelled. let is_ok = c.in_default.ensures.only frame spelled in let k : ⊥ = cc in k)

pub returns-then-sender-number-clause-receives : goal.returns-then-sender-number-clause-receives
returns-then-sender-number-clause-receives c publics =
    hears_no_own (knows c.args.ring.now publics) (256 + c.args.client.number) c.args.timestamp.0 c.args.bytes.now (header_data c.in-Ok.header) c.in-Ok.ensures.found
    (sym c.number-sender.ensures ∙ c.if-sender-number.true ∙ c.number.ensures)

pub returns-then-is_some-clause-receives : goal.returns-then-is_some-clause-receives
returns-then-is_some-clause-receives c publics =
    hears_no_refused (knows c.args.ring.now publics) (256 + c.args.client.number) c.args.timestamp.0 c.args.bytes.now (header_data c.in-Ok.header) c.in-Ok.ensures.found
    c.refusal.result c.refusal.ensures.value (sym c.is_some.ensures ∙ c.if-is_some.true)

pub returns-clause-receives : goal.returns-clause-receives
returns-clause-receives c publics =
    hears_reply (256 + c.args.client.number) c.args.timestamp.0 c.args.bytes.now (header_data c.in-Ok.header) c.in-Ok.ensures.found
    (sym c.is_for.ensures ∙ c.if-not-is_for.false)
    (knows c.args.ring.now publics) c.refusal.result c.refusal.ensures.value (sym c.is_some.ensures ∙ c.if-is_some.false)
    (λ e. c.if-sender-number.false (c.number-sender.ensures ∙ e ∙ sym c.number.ensures))
    c.reply_in.result (c.reply_in.ensures.sender ∙ c.number-sender.ensures) c.reply_in.ensures.mode c.reply_in.ensures.number c.reply_in.ensures.text
