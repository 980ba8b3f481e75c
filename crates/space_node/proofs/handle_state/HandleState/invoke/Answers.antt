use Rattle.std.proofs.Common.{rules, ◌≡◌, ◌+◌, ◌^◌, ◌≤◌, Err, ◌∷◌, Bool, false, map, refl, subst, sym, ap, ◌∙◌}
use Rattle.std.specs.Prelude.{is_some}
use Rattle.tuple_codec.specs.OperationView.{operation_of}
use Rattle.protocol.specs.Client.RightClient.{last_call, open_call}
use Rattle.protocol.specs.System.Trace.Entry.{Invoke}
use Rattle.events.specs.Outputs.{entry_of}
use Rattle.journal.specs.Parts.{Part, longer_part}
use Rattle.space_node.specs.Calls.{AcceptNothing}
use Rattle.space_node.specs.PartyStates.{PartyState, HandleFitsShare}
use Rattle.space_node.proofs.Clients.{begins_with, client_after, client_right, client_stops, fits_invoke, last_invoke, never_busy, spent_calls, waits}
use Rattle.space_node.proofs.handle_state.HandleState.invoke.Goals as goal

pub unreachable-requires : goal.unreachable-requires
unreachable-requires g c =
    let s = c.self.inside in
    let off : s.stopped ≡ false = search rules in
    let states : HandleFitsShare g.N.Naming.config s.id.number s.client s.calls false s.share =
    subst (λ (b : Bool). HandleFitsShare g.N.Naming.config s.id.number s.client s.calls b s.share) off c.self.invariant in
    let idle : is_some (open_call s.share.history) ≡ false = search rules in
    never_busy g.N.Naming.config s.id.number s.calls s.client s.share states idle (c.invoke.ensures.busy.0 (c.in-Err-Busy.is ∙ ap Err c.in-Err-Busy.field-0-is))

pub unreachable-requires-in-Err-Stopped : goal.unreachable-requires-in-Err-Stopped
unreachable-requires-in-Err-Stopped g c =
    let s = c.self.inside in
    let off : s.stopped ≡ false = search rules in
    let states : HandleFitsShare g.N.Naming.config s.id.number s.client s.calls false s.share =
    subst (λ (b : Bool). HandleFitsShare g.N.Naming.config s.id.number s.client s.calls b s.share) off c.self.invariant in
    let left : 2 ^ 62 ≤ last_call s.share.history → ⊥ = search rules in
    left (spent_calls g.N.Naming.config s.id.number s.calls s.client s.share states (c.invoke.ensures.stopped.0 (c.in-Err-Stopped.is ∙ ap Err c.in-Err-Stopped.field-0-is)))

pub record-requires-clause-right : goal.record-requires-clause-right
record-requires-clause-right g c =
    let s = c.self.inside in
    let es = c.in_ok-entries.entries.items in
    let outs = c.in-Ok.outputs.items in
    let later = c.invoke.new.self in
    let off : s.stopped ≡ false = search rules in
    let states : HandleFitsShare g.N.Naming.config s.id.number s.client s.calls false s.share =
    subst (λ (b : Bool). HandleFitsShare g.N.Naming.config s.id.number s.client s.calls b s.share) off c.self.invariant in
    let are : es ≡ Invoke s.id.number (s.calls + 1) (operation_of c.args.op) ∷ map (entry_of (256 + s.id.number)) outs = search rules in
    client_right g.N.Naming.config s.id.number s.calls s.client later s.share states c.in-Ok.ensures.number es
    (fits_invoke g.N.Naming.config s.id.number s.calls s.client later s.share states c.in-Ok.ensures.number (s.calls + 1) (operation_of c.args.op) outs es refl are c.in-Ok.ensures.leads)

pub invariant_of-self-in_err-first : goal.invariant_of-self-in_err-first
invariant_of-self-in_err-first g c =
    let s = c.self.inside in
    let kept : c.record.new.share ≡ s.share = search rules in
    client_stops g.N.Naming.config s.id.number s.calls s.client c.invoke.new.self s.share c.record.new.share s.stopped c.self.invariant c.in-Ok.ensures.number kept

pub invariant_of-self-2 : goal.invariant_of-self-2
invariant_of-self-2 g c =
    let s = c.self.inside in
    let es = c.in_ok-entries.entries.items in
    let outs = c.in-Ok.outputs.items in
    let later = c.invoke.new.self in
    let off : s.stopped ≡ false = search rules in
    let states : HandleFitsShare g.N.Naming.config s.id.number s.client s.calls false s.share =
    subst (λ (b : Bool). HandleFitsShare g.N.Naming.config s.id.number s.client s.calls b s.share) off c.self.invariant in
    let are : es ≡ Invoke s.id.number (s.calls + 1) (operation_of c.args.op) ∷ map (entry_of (256 + s.id.number)) outs = search rules in
    let kept : c.record.new.share ≡ longer_part s.share es = search rules in
    subst (λ (p : Part). HandleFitsShare g.N.Naming.config s.id.number later (s.calls + 1) false p) (sym kept)
    (client_after g.N.Naming.config s.id.number s.calls s.client later s.share states c.in-Ok.ensures.number es (s.calls + 1)
    (last_invoke g.N.Naming.config s.id.number s.calls s.client later s.share states c.in-Ok.ensures.number (s.calls + 1) (operation_of c.args.op) outs es refl are)
    (fits_invoke g.N.Naming.config s.id.number s.calls s.client later s.share states c.in-Ok.ensures.number (s.calls + 1) (operation_of c.args.op) outs es refl are c.in-Ok.ensures.leads) c.in-Ok.ensures.runs)

pub returns-clause-begins : goal.returns-clause-begins
returns-clause-begins g c =
    let s = c.self.inside in
    let es = c.in_ok-entries.entries.items in
    let outs = c.in-Ok.outputs.items in
    let are : es ≡ Invoke s.id.number (s.calls + 1) (operation_of c.args.op) ∷ map (entry_of (256 + s.id.number)) outs = search rules in
    let kept : c.record.new.share ≡ longer_part s.share es = search rules in
    let later = c.invoke.new.self in
    let off : s.stopped ≡ false = search rules in
    let states : HandleFitsShare g.N.Naming.config s.id.number s.client s.calls false s.share =
    subst (λ (b : Bool). HandleFitsShare g.N.Naming.config s.id.number s.client s.calls b s.share) off c.self.invariant in
    let none : AcceptNothing outs =
    waits g.N.Naming.config s.id.number s.calls s.client later s.share states c.in-Ok.ensures.number (s.calls + 1) (operation_of c.args.op) outs es refl are
    (fits_invoke g.N.Naming.config s.id.number s.calls s.client later s.share states c.in-Ok.ensures.number (s.calls + 1) (operation_of c.args.op) outs es refl are c.in-Ok.ensures.leads) c.in-Ok.ensures.runs in
    let was : c.args.self.now ≡ record { party = s.share.party; history = s.share.history; stopped = s.stopped } = search rules in
    begins_with c.args.self.now _ s.id.number s.calls (s.calls + 1) (operation_of c.args.op) outs es
    (ap (λ (x : PartyState). x.party) was ∙ c.self.invariant.party_is)
    (sym c.self.invariant.calls_are ∙ sym (ap (λ (x : PartyState). last_call x.history) was))
    refl are none
    (search rules)
