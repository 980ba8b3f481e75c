use Rattle.std.proofs.Common.{◌≡◌, ◌∙◌, ◌+◌, ◌*◌, ℕ, List, map, ap, subst}
use Rattle.std.specs.Prelude.{IfOk}
use Rattle.terms.specs.Parties.{party_number}
use Rattle.wire_format.specs.Views.{message_data}
use Rattle.signing.specs.Publics.{knows}
use Rattle.frame_endpoint.specs.Endpoint.{IsSealedOutgoing, other_replicas, others_below}
use Rattle.frame_endpoint.proofs.Outgoing.{others_sealable}
use Rattle.frame_endpoint.proofs.sealing.seal_for_others.Goals as goal

pub seal_for-requires : goal.seal_for-requires
seal_for-requires c =
    others_sealable c.args.me.0 c.args.faults (message_data c.args.message) (map party_number c.in_ok-receivers.receivers.items)
    c.requires.some c.requires.few c.requires.known c.requires.said c.requires.unsigned c.in_ok-receivers.ensures

pub returns-clause-is_outgoing : goal.returns-clause-is_outgoing
returns-clause-is_outgoing c publics =
    let e : map party_number c.in_ok-receivers.receivers.items ≡ other_replicas (knows c.args.ring.now publics) c.args.me.0 =
    c.in_ok-receivers.ensures ∙ ap (λ (f : ℕ). others_below (3 * f + 1) c.args.me.0) c.requires.faults in
    subst (λ (xs : List ℕ). IfOk c.seal_for.result (λ o. IsSealedOutgoing (knows c.args.ring.now publics) c.args.me.0 (message_data c.args.message) xs o)) e (c.seal_for.ensures.is_outgoing publics)
