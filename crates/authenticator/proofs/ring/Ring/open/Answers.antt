use Rattle.std.proofs.lemmas.Result.{err_from_is_err_and}
use Rattle.terms.specs.Parties.{party_number}
use Rattle.wire_format.specs.Views.{frame_data}
use Rattle.wire.specs.Headers.{header_data}
use Rattle.wire.proofs.Whole.{one_frame}
use Rattle.authenticator.proofs.Refusing.{header_refused, header_opened, header_not_refused}
use Rattle.authenticator.proofs.ring.Ring.open.Goals as goal

pub returns-in-Some-clause-all : goal.returns-in-Some-clause-all
returns-in-Some-clause-all c f o = absurd (
    header_not_refused c.args.self.now (party_number c.args.me) c.args.bytes.now (header_data c.in_ok-header.header) c.in_ok-header.ensures.found c.in-Some.fault f c.in-Some.ensures.value o
    )

pub returns-in-Some-clause-refused : goal.returns-in-Some-clause-refused
returns-in-Some-clause-refused c =
    header_refused c.args.self.now (party_number c.args.me) c.args.bytes.now (header_data c.in_ok-header.header) c.in_ok-header.ensures.found c.in-Some.fault c.in-Some.ensures.value

pub returns-clause-opened : goal.returns-clause-opened
returns-clause-opened c =
    header_opened c.args.self.now (party_number c.args.me) c.args.bytes.now (header_data c.in_ok-header.header) c.in_ok-header.ensures.found (frame_data c.in_ok-frame.frame) c.in_ok-frame.ensures c.in_default.ensures.value

pub returns-clause-all : goal.returns-clause-all
returns-clause-all c f o = one_frame c.args.bytes.now (frame_data c.in_ok-frame.frame) f c.in_ok-frame.ensures o.spelled

pub returns-in_err-frame-clause-refused : goal.returns-in_err-frame-clause-refused
returns-in_err-frame-clause-refused c =
    let p = err_from_is_err_and c.from_residual-in_err-frame.result c.from_residual-in_err-frame.ensures.1 in
    let has = c.in_ok-header.ensures.found in
    rw (p.1, p.2)
    (has.0, header_opened c.args.self.now (party_number c.args.me) c.args.bytes.now (header_data c.in_ok-header.header) has has.0 has.1 c.in_default.ensures.value)
