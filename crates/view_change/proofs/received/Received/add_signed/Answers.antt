use Rattle.std.specs.Prelude.{option_map}
use Rattle.std.proofs.Common.{◌≡◌, ℕ, true, List, Option, Some, None, set, sym, ap, ◌∙◌, subst, arith}
use Rattle.std.proofs.lemmas.List.{length-map, map-set}
use Rattle.protocol.specs.Replica.Selection.{is_within, signed_change}
use Rattle.view_change.specs.ReceivedData.{HeldData, view_change_refusal, with_held}
use Rattle.view_change.specs.ReceivedView.{AreReceived, ReceivedState, judging_configuration, held_as, held_by, held_data, received_state}
use Rattle.view_change.specs.Sets.{change_pair}
use Rattle.view_change.proofs.Holding.{has_place, received_set, taken_within}
use Rattle.view_change.proofs.received.Received.add_signed.Goals as goal

pub index_mut-requires : goal.index_mut-requires
index_mut-requires c =
    let r = received_state c.self.inside in
    let signed = subst (λ (s : ReceivedState). signed_change (judging_configuration s) c.args.bytes.now ≡ Some (change_pair c.args.change)) (sym c.self.view_is) c.requires in
    let place = has_place r c.args.bytes.now (change_pair c.args.change) c.self.invariant signed in
    let sender = ap (λ (h : HeldData). h.sender) c.in_ok-signed.ensures in
    omega (arith, place, sender, length-map c.self.inside.held.items (option_map held_data), c.self.inside.held.ok.0, c.from-sender.ensures)

pub invariant_of-self : goal.invariant_of-self
invariant_of-self c =
    let r = received_state c.self.inside in
    let h = held_data c.in_ok-signed.signed in
    let signed = subst (λ (s : ReceivedState). signed_change (judging_configuration s) c.args.bytes.now ≡ Some (change_pair c.args.change)) (sym c.self.view_is) c.requires in
    let right = subst (λ (s : ReceivedState). view_change_refusal (judging_configuration s) c.args.view.0 s.held (change_pair c.args.change) ≡ None) (sym c.self.view_is) (sym c.in_default.ensures) in
    let within = taken_within (judging_configuration r) c.args.view.0 r.held (change_pair c.args.change) right in
    let path =
    sym (map-set (option_map held_data) c.self.inside.held.items h.sender (Some c.in_ok-signed.signed)) ∙ ap (λ (n : ℕ). held_by (set c.self.inside.held.items n (Some c.in_ok-signed.signed))) (sym c.from-sender.ensures) in
    subst (λ (held : List (Option HeldData)). AreReceived (record r { held = held })) path
    (received_set r h c.self.invariant (subst (λ (g : HeldData). is_within (judging_configuration r) g.change ≡ true) (sym c.in_ok-signed.ensures) within)
    (subst (λ (g : HeldData). signed_change (judging_configuration r) g.frame ≡ Some (g.sender, g.change)) (sym c.in_ok-signed.ensures) signed))

pub returns-clause-ok : goal.returns-clause-ok
returns-clause-ok c =
    let r = received_state c.self.inside in
    let h = held_data c.in_ok-signed.signed in
    let path =
    sym (map-set (option_map held_data) c.self.inside.held.items h.sender (Some c.in_ok-signed.signed)) ∙ ap (λ (n : ℕ). held_by (set c.self.inside.held.items n (Some c.in_ok-signed.signed))) (sym c.from-sender.ensures) in
    let new : ReceivedState = record r { held = held_by (set c.self.inside.held.items c.from-sender.result (Some c.in_ok-signed.signed)) } in
    record {
      right = sym c.in_default.ensures;
      held = subst (λ (s : ReceivedState). new ≡ record s { held = with_held (held_as c.args.change c.args.bytes.now) s.held }) c.self.view_is
          (ap (λ (held : List (Option HeldData)). let s : ReceivedState = record r { held = held } in s) (sym path ∙ ap (λ (g : HeldData). with_held g r.held) c.in_ok-signed.ensures));
    }
