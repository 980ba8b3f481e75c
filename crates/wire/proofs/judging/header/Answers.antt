use Rattle.std.proofs.Common.{◌∙◌, ap, sym, arith}
use Rattle.wire_format.specs.Reading.{authenticator_of}
use Rattle.wire.proofs.InPlace.{no_text, no_type, no_sender, no_message, no_authenticator, header_there, from_sender}
use Rattle.wire.proofs.judging.header.Goals as goal

pub returns-in_err-text : goal.returns-in_err-text
returns-in_err-text c = rw c.from_residual.ensures (no_text c.args.bytes.now (c.in_err-text.ensures {u = tt}))

pub returns-in_err-kind : goal.returns-in_err-kind
returns-in_err-kind c =
    rw c.from_residual-in_err-kind.ensures (no_type c.args.bytes.now c.in_ok-text.text.now c.in_ok-text.rest.now c.in_ok-text.ensures (c.in_err-kind.ensures {u = tt}))

pub returns-in_err-number : goal.returns-in_err-number
returns-in_err-number c =
    rw c.from_residual-in_err-number.ensures
    (no_sender c.args.bytes.now c.in_ok-text.text.now c.in_ok-text.rest.now c.in_ok-text.ensures c.in_ok-kind.kind c.in_ok-kind.behind.now c.in_ok-kind.ensures (c.in_err-number.ensures {u = tt}))

pub returns-then-not-is_message : goal.returns-then-not-is_message
returns-then-not-is_message c =
    no_message c.args.bytes.now c.in_ok-text.text.now c.in_ok-text.rest.now c.in_ok-text.ensures c.in_ok-kind.kind c.in_ok-kind.behind.now c.in_ok-kind.ensures c.in_ok-number.number c.in_ok-number.fields.now c.in_ok-number.ensures
    (sym c.is_message.ensures ∙ c.if-not-is_message.true)

pub returns-in_err-authenticator : goal.returns-in_err-authenticator
returns-in_err-authenticator c =
    rw c.from_residual-in_err-authenticator.ensures
    (no_authenticator c.args.bytes.now c.in_ok-text.text.now c.in_ok-text.rest.now c.in_ok-text.ensures c.in_ok-kind.kind c.in_ok-kind.behind.now c.in_ok-kind.ensures c.in_ok-number.number c.in_ok-number.fields.now c.in_ok-number.ensures
    (λ i. omega (arith, c.type_inv.bytes i)) (sym c.is_message.ensures ∙ c.if-not-is_message.false) (ap (λ b. authenticator_of b c.in_ok-text.rest.now) (sym c.is_signed.ensures) ∙ c.in_err-authenticator.ensures {u = tt}))

pub returns : goal.returns
returns c =
    let there = header_there c.args.bytes.now c.in_ok-text.text.now c.in_ok-text.rest.now c.in_ok-text.ensures c.in_ok-kind.kind c.in_ok-kind.behind.now c.in_ok-kind.ensures c.in_ok-number.number c.in_ok-number.fields.now c.in_ok-number.ensures
    (λ i. omega (arith, c.type_inv.bytes i)) (sym c.is_message.ensures ∙ c.if-not-is_message.false) _ (omega (arith, c.requires))
    (ap (λ b. authenticator_of b c.in_ok-text.rest.now) (sym c.is_signed.ensures) ∙ c.in_ok-authenticator.ensures) in
    there ∙ from_sender _ _ _ _ _ c.party-sender.ensures
