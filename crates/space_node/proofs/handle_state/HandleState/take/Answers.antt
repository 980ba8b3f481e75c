use Rattle.std.proofs.Common.{rules, ◌≡◌, ◌+◌, Err, ◌∷◌, Bool, false, map, subst, sym, ap, ◌∙◌}
use Rattle.std.proofs.lemmas.Bool.{true≢false}
use Rattle.protocol.specs.Client.RightClient.{last_call}
use Rattle.events.specs.Outputs.{entry_of}
use Rattle.journal.specs.Parts.{Part, longer_part}
use Rattle.space_node.specs.PartyStates.{PartyState, HandleFitsShare, input_of}
use Rattle.space_node.proofs.Clients.{client_after, client_right, client_stops, comes, fits_input, last_after, turns_on}
use Rattle.space_node.proofs.handle_state.HandleState.take.Goals as goal

pub unreachable-requires : goal.unreachable-requires
unreachable-requires g c =
    let s = c.self.inside in
    let off : s.stopped ≡ false = search rules in
    true≢false (sym (c.step_client.ensures.stopped (c.in-Err-Stopped.is ∙ ap Err c.in-Err-Stopped.field-0-is)) ∙ c.self.invariant.runs off)

pub turn_of-turn-requires : goal.turn_of-turn-requires
turn_of-turn-requires g c =
    let s = c.self.inside in
    let es = c.in_ok-entries.entries.items in
    let outs = c.in-Ok.outputs.items in
    let later = c.step_client.new.client in
    let off : s.stopped ≡ false = search rules in
    let states : HandleFitsShare g.N.Naming.config s.id.number s.client s.calls false s.share =
    subst (λ (b : Bool). HandleFitsShare g.N.Naming.config s.id.number s.client s.calls b s.share) off c.self.invariant in
    let are : es ≡ input_of (256 + s.id.number) c.args.input ∷ map (entry_of (256 + s.id.number)) outs = search rules in
    turns_on g.N.Naming.config s.id.number s.calls s.client later s.share states c.in-Ok.ensures.number c.args.input outs es are
    (fits_input g.N.Naming.config s.id.number s.calls s.client later s.share states c.in-Ok.ensures.number c.args.input outs es are c.in-Ok.ensures.leads) c.in-Ok.ensures.runs

pub record-requires-clause-right : goal.record-requires-clause-right
record-requires-clause-right g c =
    let s = c.self.inside in
    let es = c.in_ok-entries.entries.items in
    let outs = c.in-Ok.outputs.items in
    let later = c.step_client.new.client in
    let off : s.stopped ≡ false = search rules in
    let states : HandleFitsShare g.N.Naming.config s.id.number s.client s.calls false s.share =
    subst (λ (b : Bool). HandleFitsShare g.N.Naming.config s.id.number s.client s.calls b s.share) off c.self.invariant in
    let are : es ≡ input_of (256 + s.id.number) c.args.input ∷ map (entry_of (256 + s.id.number)) outs = search rules in
    client_right g.N.Naming.config s.id.number s.calls s.client later s.share states c.in-Ok.ensures.number es
    (fits_input g.N.Naming.config s.id.number s.calls s.client later s.share states c.in-Ok.ensures.number c.args.input outs es are c.in-Ok.ensures.leads)

pub invariant_of-self-in_err-first : goal.invariant_of-self-in_err-first
invariant_of-self-in_err-first g c =
    let s = c.self.inside in
    let kept : c.record.new.share ≡ s.share = search rules in
    client_stops g.N.Naming.config s.id.number s.calls s.client c.step_client.new.client s.share c.record.new.share s.stopped c.self.invariant c.in-Ok.ensures.number kept

pub invariant_of-self-2 : goal.invariant_of-self-2
invariant_of-self-2 g c =
    let s = c.self.inside in
    let es = c.in_ok-entries.entries.items in
    let outs = c.in-Ok.outputs.items in
    let later = c.step_client.new.client in
    let off : s.stopped ≡ false = search rules in
    let states : HandleFitsShare g.N.Naming.config s.id.number s.client s.calls false s.share =
    subst (λ (b : Bool). HandleFitsShare g.N.Naming.config s.id.number s.client s.calls b s.share) off c.self.invariant in
    let are : es ≡ input_of (256 + s.id.number) c.args.input ∷ map (entry_of (256 + s.id.number)) outs = search rules in
    let kept : c.record.new.share ≡ longer_part s.share es = search rules in
    subst (λ (p : Part). HandleFitsShare g.N.Naming.config s.id.number later s.calls false p) (sym kept)
    (client_after g.N.Naming.config s.id.number s.calls s.client later s.share states c.in-Ok.ensures.number es s.calls
    (last_after g.N.Naming.config s.id.number s.calls s.client later s.share states c.in-Ok.ensures.number c.args.input outs es are)
    (fits_input g.N.Naming.config s.id.number s.calls s.client later s.share states c.in-Ok.ensures.number c.args.input outs es are c.in-Ok.ensures.leads) c.in-Ok.ensures.runs)

pub returns-clause-comes : goal.returns-clause-comes
returns-clause-comes g c =
    let s = c.self.inside in
    let es = c.in_ok-entries.entries.items in
    let outs = c.in-Ok.outputs.items in
    let are : es ≡ input_of (256 + s.id.number) c.args.input ∷ map (entry_of (256 + s.id.number)) outs = search rules in
    let kept : c.record.new.share ≡ longer_part s.share es = search rules in
    let was : c.args.self.now ≡ record { party = s.share.party; history = s.share.history; stopped = s.stopped } = search rules in
    comes c.args.self.now _ s.id.number s.calls c.args.input outs es c.turn_of-turn.result
    (ap (λ (x : PartyState). x.party) was ∙ c.self.invariant.party_is)
    (sym c.self.invariant.calls_are ∙ sym (ap (λ (x : PartyState). last_call x.history) was))
    are c.turn_of-turn.ensures
    (search rules)
