use Rattle.std.proofs.Common.{ℕ, List, map, subst}
use Rattle.std.specs.Prelude.{IfOk}
use Rattle.terms.specs.Parties.{party_number}
use Rattle.wire_format.specs.Views.{message_data}
use Rattle.signing.specs.Publics.{knows}
use Rattle.frame_endpoint.specs.Endpoint.{IsSealedOutgoing}
use Rattle.frame_endpoint.proofs.Outgoing.{one_sealable}
use Rattle.frame_endpoint.proofs.sealing.seal_for_one.Goals as goal

pub seal_for-requires : goal.seal_for-requires
seal_for-requires c =
    one_sealable c.args.me.0 (party_number c.args.receiver) (message_data c.args.message) (map party_number c.in_ok-receivers.receivers.items)
    c.requires.known c.requires.said c.requires.unsigned c.in_ok-receivers.ensures

pub returns-clause-is_outgoing : goal.returns-clause-is_outgoing
returns-clause-is_outgoing c publics =
    subst (λ (xs : List ℕ). IfOk c.seal_for.result (λ o. IsSealedOutgoing (knows c.args.ring.now publics) c.args.me.0 (message_data c.args.message) xs o)) c.in_ok-receivers.ensures (c.seal_for.ensures.is_outgoing publics)
