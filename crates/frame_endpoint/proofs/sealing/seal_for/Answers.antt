use Rattle.std.proofs.Common.{ℕ, List, map, refl, subst, sym, ap, ◌∙◌}
use Rattle.terms.specs.declared.parties.Party.{Party}
use Rattle.terms.specs.Parties.{party_number}
use Rattle.wire_format.specs.Views.{message_data}
use Rattle.protocol.specs.System.Trace.Entry.{Sent}
use Rattle.signing.specs.Publics.{knows}
use Rattle.events.specs.Outputs.{receivers_in}
use Rattle.events.proofs.Meant.{sealed_is_for}
use Rattle.frame_endpoint.specs.Endpoint.{AreOutgoingBytes, says}
use Rattle.frame_endpoint.specs.Frames.{SpellsSealed}
use Rattle.frame_endpoint.proofs.Outgoing.{sealed_is_sent}
use Rattle.frame_endpoint.proofs.sealing.seal_for.Goals as goal

pub returns-clause-is_outgoing : goal.returns-clause-is_outgoing
returns-clause-is_outgoing c publics =
    let sends_frame : AreOutgoingBytes (knows c.args.ring.now publics) c.args.me.0 (message_data c.args.message) (map party_number c.args.receivers.items) c.in_ok-text.text.items =
    sealed_is_sent (knows c.args.ring.now publics) c.args.me.0 (message_data c.args.message) (map party_number c.args.receivers.items) c.in_ok-text.text.items
    (subst (λ (parties : List Party). SpellsSealed c.args.ring.now.keys (says c.args.me.0 (message_data c.args.message)) (map party_number parties) c.in_ok-text.text.items) c.as_slice.ensures.value c.in_ok-text.ensures.sealed) in
    record {
      bytes = c.in_ok-text.text.items;
      sends = ap (λ (bytes : List ℕ). Sent c.args.me.0 bytes) c.in_ok-frame.ensures;
      goes = refl;
      is_outgoing = sends_frame;
      meant = λ k known. sym (sealed_is_for k c.args.me.0 (message_data c.args.message) (map party_number c.args.receivers.items) c.in_ok-text.text.items c.requires.some (sends_frame k known)) ∙ ap (receivers_in k c.args.me.0) (sym c.in_ok-frame.ensures);
    }
