use Rattle.std.proofs.Common.{◌∙◌, ap, sym, subst}
use Rattle.std.proofs.lemmas.Result.{err_from_is_err_and}
use Rattle.terms.specs.Parties.{party_number}
use Rattle.wire.specs.Headers.{header_data}
use Rattle.signing.specs.Receiving.{RefusesBytes, signature_holds}
use Rattle.signing.proofs.AuthenticBody.{authentic_was_opened}
use Rattle.signing.proofs.Opened.{own_not_heard, refused_not_heard, refused_by_header, authentic_by_header, unsigned_by_header, unsigned_not_heard}
use Rattle.signing.proofs.Whether.{hears_nothing, hears_something}
use Rattle.signing.specs.Publics.{knows}
use Rattle.signing.proofs.from_bytes.check_authentic.Goals as goal

pub returns-in_err-header-clause-authentic : goal.returns-in_err-header-clause-authentic
returns-in_err-header-clause-authentic c =
    let p = err_from_is_err_and c.from_residual.result c.from_residual.ensures.1 in
    rw p.1 (hears_nothing (knows c.args.ring.now c.args.publics.now) (party_number c.args.me) c.args.bytes.now (λ body e.
    let w = authentic_was_opened (knows c.args.ring.now c.args.publics.now) (party_number c.args.me) c.args.bytes.now body e in
    let is_ok = c.in_err-header.ensures.only w.frame w.opens.spelled in
    let k : ⊥ = cc in k))

pub returns-then-number-clause-authentic : goal.returns-then-number-clause-authentic
returns-then-number-clause-authentic c =
    hears_nothing (knows c.args.ring.now c.args.publics.now) (party_number c.args.me) c.args.bytes.now
    (own_not_heard (knows c.args.ring.now c.args.publics.now) (party_number c.args.me) c.args.bytes.now (header_data c.in_ok-header.header) c.in_ok-header.ensures.found
    (sym c.number.ensures ∙ c.if-number.true ∙ c.number-2.ensures))

pub returns-in-Some-clause-authentic : goal.returns-in-Some-clause-authentic
returns-in-Some-clause-authentic c =
    hears_nothing (knows c.args.ring.now c.args.publics.now) (party_number c.args.me) c.args.bytes.now
    (refused_not_heard (knows c.args.ring.now c.args.publics.now) (party_number c.args.me) c.args.bytes.now (header_data c.in_ok-header.header) c.in_ok-header.ensures.found c.in-Some.fault c.in-Some.ensures.value)

pub returns-in-Some-clause-refused : goal.returns-in-Some-clause-refused
returns-in-Some-clause-refused c =
    subst (RefusesBytes (knows c.args.ring.now c.args.publics.now) (party_number c.args.me) c.args.bytes.now) (sym c.into.ensures)
    (refused_by_header (knows c.args.ring.now c.args.publics.now) (party_number c.args.me) c.args.bytes.now (header_data c.in_ok-header.header) c.in_ok-header.ensures.found c.in-Some.fault c.in-Some.ensures.value
    (λ e. c.if-number.false (c.number.ensures ∙ e ∙ sym c.number-2.ensures)))

pub returns-then-not-signature_holds-clause-authentic : goal.returns-then-not-signature_holds-clause-authentic
returns-then-not-signature_holds-clause-authentic c =
    let header = header_data c.in_ok-header.header in
    hears_nothing (knows c.args.ring.now c.args.publics.now) (party_number c.args.me) c.args.bytes.now
    (unsigned_not_heard (knows c.args.ring.now c.args.publics.now) (party_number c.args.me) c.args.bytes.now header c.in_ok-header.ensures.found c.in_default.ensures.value
    (sym c.signature_holds.ensures ∙ c.if-not-signature_holds.true))

pub returns-then-not-signature_holds-clause-refused : goal.returns-then-not-signature_holds-clause-refused
returns-then-not-signature_holds-clause-refused c =
    let header = header_data c.in_ok-header.header in
    unsigned_by_header (knows c.args.ring.now c.args.publics.now) (party_number c.args.me) c.args.bytes.now header c.in_ok-header.ensures.found c.in_default.ensures.value
    (λ e. c.if-number.false (c.number.ensures ∙ e ∙ sym c.number-2.ensures))
    (sym c.signature_holds.ensures ∙ c.if-not-signature_holds.true)

pub returns-clause-authentic : goal.returns-clause-authentic
returns-clause-authentic c =
    let header = header_data c.in_ok-header.header in
    let has = c.in_ok-header.ensures.found in
    hears_something (knows c.args.ring.now c.args.publics.now) (party_number c.args.me) c.args.bytes.now has.0.body
    (authentic_by_header (knows c.args.ring.now c.args.publics.now) (party_number c.args.me) c.args.bytes.now header has c.in_default.ensures.value has.0 has.1
    (λ e. c.if-number.false (c.number.ensures ∙ e ∙ sym c.number-2.ensures))
    (sym c.signature_holds.ensures ∙ c.if-not-signature_holds.false))
