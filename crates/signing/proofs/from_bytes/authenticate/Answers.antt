use Rattle.std.proofs.Common.{◌≡◌, ◌∙◌, Some, sym}
use Rattle.std.proofs.lemmas.Result.{err_from_is_err_and}
use Rattle.terms.specs.Parties.{party_number}
use Rattle.wire_format.specs.Views.{body_data}
use Rattle.signing.proofs.Whether.{nothing_heard, something_heard, authentic_frame, authentic_of_body}
use Rattle.signing.specs.Publics.{knows}
use Rattle.signing.proofs.from_bytes.authenticate.Goals as goal

pub returns-in_err-check_authentic-clause-all : goal.returns-in_err-check_authentic-clause-all
returns-in_err-check_authentic-clause-all c body e =
    absurd (nothing_heard (knows c.args.ring.now c.args.publics.now) (party_number c.args.me) c.args.bytes.now c.in_err-check_authentic.ensures.authentic body e)

pub decode_judged_body-requires : goal.decode_judged_body-requires
decode_judged_body-requires c =
    authentic_frame (knows c.args.ring.now c.args.publics.now) (party_number c.args.me) c.args.bytes.now c.in_ok-check_authentic.ensures.authentic

pub returns-in_err-body-clause-refused : goal.returns-in_err-body-clause-refused
returns-in_err-body-clause-refused c =
    let p = err_from_is_err_and c.from_residual-in_err-body.result c.from_residual-in_err-body.ensures.1 in
    rw (p.1, p.2) (something_heard (knows c.args.ring.now c.args.publics.now) (party_number c.args.me) c.args.bytes.now c.in_ok-check_authentic.ensures.authentic)

pub returns-clause-authentic : goal.returns-clause-authentic
returns-clause-authentic c =
    authentic_of_body (knows c.args.ring.now c.args.publics.now) (party_number c.args.me) c.args.bytes.now c.in_ok-check_authentic.ensures.authentic (body_data c.in_ok-body.body) c.in_ok-body.ensures

pub returns-clause-all : goal.returns-clause-all
returns-clause-all c body e =
    let mine = authentic_of_body (knows c.args.ring.now c.args.publics.now) (party_number c.args.me) c.args.bytes.now c.in_ok-check_authentic.ensures.authentic (body_data c.in_ok-body.body) c.in_ok-body.ensures in
    let same : Some (body_data c.in_ok-body.body) ≡ Some body = sym mine ∙ e in
    cc
