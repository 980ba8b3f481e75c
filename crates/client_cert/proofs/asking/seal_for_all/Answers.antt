use Rattle.std.proofs.Common.{Err, map, ap, ◌∙◌}
use Rattle.terms.specs.Parties.{party_number}
use Rattle.wire_format.specs.Views.{body_data}
use Rattle.client_cert.proofs.Sealed.{never_too_long}
use Rattle.client_cert.proofs.asking.seal_for_all.Goals as goal

-- nothing is too long for ten receivers
pub unreachable-requires : goal.unreachable-requires
unreachable-requires c =
    let numbers = map party_number c.as_slice.result.now in
    never_too_long c.args.ring.now.keys (body_data c.args.body.now) numbers c.requires.short
    (c.requires.may numbers (ap (map party_number) c.as_slice.ensures.value ∙ c.in_ok-replicas.ensures)).few
    (c.seal.ensures.large.0 (c.in-Err-TooLarge.is ∙ ap Err c.in-Err-TooLarge.field-0-is))
