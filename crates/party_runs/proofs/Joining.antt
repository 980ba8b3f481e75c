-- Events of correct parties make a trace of correct parties' entries, in which outputs follow their inputs, and which
-- keeps each party's own events.
use Rattle.std.specs.Prelude.{◌≡◌, ℕ, Bool, true, false, List, [], ◌∷◌, ◌==◌, cond}
use Rattle.std.proofs.Common.{refl, sym, ap, subst, ◌∙◌}
use Rattle.wire_format.specs.Lists.{Each}
use Rattle.protocol.specs.System.Configuration.{Configuration, is_correct}
use Rattle.protocol.specs.System.Trace.{Entry, party_of, is_output, history_of, Always}
use Rattle.protocol.specs.System.Run.{OutputFollows, IsRunBy}
use Rattle.protocol.specs.Client.RightClient.{IsClient, IsClientOfLives}
use Rattle.protocol.proofs.Points.Whole
use Rattle.events.specs.Outputs.{after_entries}
use Rattle.party_runs.specs.Interleavings.{IsOutputOf, IsEventOf, IsCorrectEvent, is_event_of, events_of, trace_after, trace_of, HistoriesAreRight, HistoriesAreKept, InterleavingsAreRuns, InterleavedLivesAreRuns, InterleavingsAreLinear}

-- ---- each party's entries

-- outputs of party q, seen by party p
outputs_seen : (p q : ℕ) (b : Bool) → (q == p) ≡ b → (outputs past : List Entry) → Each (IsOutputOf q) outputs
    → history_of p (after_entries outputs past) ≡ cond b (after_entries outputs (history_of p past)) (history_of p past)
outputs_seen p q true e [] past each = refl
outputs_seen p q false e [] past each = refl
outputs_seen p q b e (out ∷ outputs) past each =
    outputs_seen p q b e outputs (out ∷ past) each.1 ∙ seen b (ap (λ x. x == p) each.0.0 ∙ e)
  where
    seen : (b : Bool) → (party_of out == p) ≡ b
        → cond b (after_entries outputs (history_of p (out ∷ past))) (history_of p (out ∷ past))
        ≡ cond b (after_entries outputs (out ∷ history_of p past)) (history_of p past)
    seen true h = ap (λ t. after_entries outputs (cond t (out ∷ history_of p past) (history_of p past))) h
    seen false h = ap (λ t. cond t (out ∷ history_of p past) (history_of p past)) h

-- an event of party q, seen by party p
event_seen : (p q : ℕ) (event past : List Entry) → IsEventOf q event
    → history_of p (after_entries event past) ≡ cond (is_event_of p event) (after_entries event (history_of p past)) (history_of p past)
event_seen p q [] past is = absurd is
event_seen p q (e ∷ outputs) past is =
    outputs_seen p q (party_of e == p) (ap (λ x. x == p) (sym is.0)) outputs (e ∷ past) is.2 ∙ seen (party_of e == p) refl
  where
    seen : (b : Bool) → (party_of e == p) ≡ b
        → cond b (after_entries outputs (history_of p (e ∷ past))) (history_of p (e ∷ past))
        ≡ cond b (after_entries outputs (e ∷ history_of p past)) (history_of p past)
    seen true h = ap (λ t. after_entries outputs (cond t (e ∷ history_of p past) (history_of p past))) h
    seen false h = ap (λ t. cond t (e ∷ history_of p past) (history_of p past)) h

events_seen : (c : Configuration) (p : ℕ) (events : List (List Entry)) (past : List Entry) → Each (IsCorrectEvent c) events
    → history_of p (trace_after past events) ≡ trace_after (history_of p past) (events_of p events)
events_seen c p [] past each = refl
events_seen c p (event ∷ events) past each =
    events_seen c p events (after_entries event past) each.1
    ∙ ap (λ xs. trace_after xs (events_of p events)) (event_seen p each.0.0 event past each.0.2) ∙ seen (is_event_of p event)
  where
    seen : (b : Bool)
        → trace_after (cond b (after_entries event (history_of p past)) (history_of p past)) (events_of p events)
        ≡ trace_after (history_of p past) (cond b (event ∷ events_of p events) (events_of p events))
    seen true = refl
    seen false = refl

pub histories_are_kept : HistoriesAreKept
histories_are_kept c events each p = events_seen c p events [] each

-- ---- the trace as a whole

-- what a run asks of a trace besides its histories
record Keeps (c : Configuration) (trace : List Entry) : Type 0 where
  parties : Always (λ past e. is_correct c (party_of e) ≡ true) trace
  events : Always OutputFollows trace

outputs_follow : (c : Configuration) (p : ℕ) (outputs : List Entry) (before : Entry) (past : List Entry)
    → is_correct c p ≡ true → Each (IsOutputOf p) outputs → party_of before ≡ p → Keeps c (before ∷ past)
    → Keeps c (after_entries outputs (before ∷ past))
outputs_follow c p [] before past correct each own keeps = keeps
outputs_follow c p (e ∷ outputs) before past correct each own keeps =
    outputs_follow c p outputs e (before ∷ past) correct each.1 each.0.0
    (record {
      parties = (subst (λ (x : ℕ). is_correct c x ≡ true) (sym each.0.0) correct, keeps.parties);
      events = ((λ _. own ∙ sym each.0.0), keeps.events);
    })

input_begins : (e : Entry) (past : List Entry) → is_output e ≡ false → OutputFollows past e
input_begins e [] is = is
input_begins e (before ∷ past) is = λ h. let absurd_is : true ≡ false = sym h ∙ is in absurd cc

event_keeps : (c : Configuration) (event past : List Entry) → IsCorrectEvent c event → Keeps c past
    → Keeps c (after_entries event past)
event_keeps c [] past is keeps = absurd is.2
event_keeps c (e ∷ outputs) past is keeps =
    outputs_follow c is.0 outputs e past is.1 is.2.2 is.2.0
    (record {
      parties = (subst (λ (x : ℕ). is_correct c x ≡ true) (sym is.2.0) is.1, keeps.parties);
      events = (input_begins e past is.2.1, keeps.events);
    })

events_keep : (c : Configuration) (events : List (List Entry)) (past : List Entry) → Each (IsCorrectEvent c) events
    → Keeps c past → Keeps c (trace_after past events)
events_keep c [] past each keeps = keeps
events_keep c (event ∷ events) past each keeps =
    events_keep c events (after_entries event past) each.1 (event_keeps c event past each.0 keeps)

joined : (Client : Configuration → ℕ → List Entry → Type 0) (c : Configuration) (events : List (List Entry)) → Each (IsCorrectEvent c) events
    → HistoriesAreRight Client c events → IsRunBy Client c (trace_of events)
joined Client c events each right =
    let keeps = events_keep c events [] each (record { parties = tt; events = tt }) in
    record {
      replicas = λ p correct. rw (histories_are_kept c events each p) (right.replicas p correct);
      clients = λ p correct. rw (histories_are_kept c events each p) (right.clients p correct);
      parties = keeps.parties;
      events = keeps.events;
    }

pub interleavings_are_runs : InterleavingsAreRuns
interleavings_are_runs c events each right = joined IsClient c events each right

pub interleaved_lives_are_runs : InterleavedLivesAreRuns
interleaved_lives_are_runs c events each right = joined IsClientOfLives c events each right

pub interleavings_are_linear : InterleavingsAreLinear
interleavings_are_linear c valid events each right unforged different =
    Whole.points_are_linear c valid (trace_of events) (interleaved_lives_are_runs c events each right) unforged different
