use Rattle.std.proofs.Common.{◌+◌, sym, ap, ◌∙◌}
use Rattle.std.specs.Prelude.{option_and_then}
use Rattle.signing.specs.Publics.{knows}
use Rattle.points.specs.Scanning.{number_in}
use Rattle.points.proofs.Replying.{none_kinded}
use Rattle.points.proofs.reads.read_number.Goals as goal

pub returns-in-None-clause-number : goal.returns-in-None-clause-number
returns-in-None-clause-number c = sym (ap (option_and_then (number_in (256 + c.args.client.number) c.args.timestamp.0)) (rw c.in-None.is at c.in_ok-authenticate_body.ensures.authentic))

pub returns-in-Some-clause-number : goal.returns-in-Some-clause-number
returns-in-Some-clause-number c =
    c.number_in.ensures ∙ sym (ap (option_and_then (number_in (256 + c.args.client.number) c.args.timestamp.0)) (rw c.in-Some.is at c.in_ok-authenticate_body.ensures.authentic))

pub returns-then-not-has_read_kind-clause-number : goal.returns-then-not-has_read_kind-clause-number
returns-then-not-has_read_kind-clause-number c =
    none_kinded (knows c.args.ring.now c.args.publics.now) (256 + c.args.client.number) c.args.timestamp.0 c.args.bytes.now (sym c.has_read_kind.ensures ∙ c.if-not-has_read_kind.true)
