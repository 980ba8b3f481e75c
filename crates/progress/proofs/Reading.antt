-- A read is accepted if 2f + 1 correct replicas stay at one number: each answers from the state of that number.
use Rattle.std.proofs.Common.{◌≡◌, ℕ, ◌+◌, ◌-◌, ◌*◌, ◌≤◌, ◌⊎◌, inl, inr, Bool, true, cond, List, [], ◌∷◌, ◌++◌, Some, refl, sym, ap, ◌∙◌, subst, arith, append_assoc, eq-eqb}
use Rattle.quorum.specs.Quorum.{count_below}
use Rattle.tuple_codec.specs.Operations.{Operation, Outcome}
use Rattle.space.specs.Applying.{is_read_only, outcome}
use Rattle.terms.specs.declared.order.Mode.TheVariants as modes
use Rattle.protocol.specs.System.Configuration.{Configuration, IsConfiguration, replicas, is_correct_replica, is_correct_client}
use Rattle.protocol.specs.System.Trace.{Entry, history_of, Once, Unforged, Receives}
use Rattle.protocol.specs.System.Trace.Entry.{Invoke, Sent, Accepted}
use Rattle.protocol.specs.System.Texts.{NoCollision}
use Rattle.protocol.specs.System.Run.{IsRun, OnlyTheseStopped}
use Rattle.protocol.specs.Replica.State.{opening, tuples}
use Rattle.protocol.specs.Replica.RightReplica.{MayReplyRead}
use Rattle.protocol.specs.Client.RightClient.{OpenCall, open_call, Reaction, reaction, IsReaction, Reacts, SafeClient}
use Rattle.protocol.specs.Client.RightClient.Reaction.{asks}
use Rattle.protocol.specs.Space.Linear.{reached, Invokes}
use Rattle.protocol.proofs.Words.Elements.{has_right, has_either}
use Rattle.protocol.proofs.Words.Linking.{Speaks, heard_was_said}
use Rattle.protocol.proofs.Agreement.Voting.{correct_replica}
use Rattle.protocol.proofs.Agreement.States.{history_append, once_append}
use Rattle.protocol.proofs.Points.Levels.{reached_history, reached_grows, number_reached}
use Rattle.protocol.proofs.Points.Reading.{asking, correct_client, replying}
use Rattle.protocol.proofs.Points.Running.{Run, state_by}
use Rattle.protocol.proofs.Points.Invoking.{run_part, asked_op, one_invocation, invokes_le}
use Rattle.protocol.proofs.Points.Accepting.{Replied, replied, read_replied}
use Rattle.progress.specs.Delivery.{HasEntry, AllDelivered}
use Rattle.progress.specs.Reading.{StaysAt, ReadsAreAccepted}
use Rattle.progress.proofs.Events.{Reacted, reacted}
use Rattle.progress.proofs.Clients.{Accepting}
use Rattle.progress.proofs.Replies.{run_of}
use Rattle.progress.proofs.Keeping.{later_reached}
use Rattle.progress.proofs.Answering.{in_trace, accepted_or_not, safe_behind, Asked, Voted, hears_request, event, voted, not_all_alike}

-- ---- two ends of one list

-- the one begins before the other, or the other way round
data Ends (e : Entry) (past start : List Entry) : Type 0 where
  behind : (middle : List Entry) → past ≡ middle ++ start → Ends e past start
  before : (middle : List Entry) → start ≡ middle ++ e ∷ past → Ends e past start

abbrev tail_of : List Entry → List Entry
tail_of [] = []
tail_of (x ∷ xs) = xs

ends_of : (newer : List Entry) (e : Entry) (past later start : List Entry) → newer ++ e ∷ past ≡ later ++ start → Ends e past start
ends_of newer e past [] start is = before newer (sym is)
ends_of [] e past (x ∷ later) start is = behind later (ap tail_of is)
ends_of (y ∷ newer) e past (x ∷ later) start is = ends_of newer e past later start (ap tail_of is)

-- ---- the law

module _ (c : Configuration) (setting : IsConfiguration c) (k t n : ℕ) (op : Operation) (later start : List Entry) (is_run : IsRun c (later ++ Invoke k t op ∷ start))
    (goes : OnlyTheseStopped c [] (later ++ Invoke k t op ∷ start)) (unforged : Unforged c (later ++ Invoke k t op ∷ start)) (apart : NoCollision c (later ++ Invoke k t op ∷ start))
    (client : is_correct_client c (256 + k) ≡ true) (is_read : is_read_only op ≡ true) (all : AllDelivered c later) where
  abbrev me : ℕ
  me = 256 + k

  abbrev call : OpenCall
  call = record { timestamp = t; op = op }

  abbrev invoked : List Entry
  invoked = Invoke k t op ∷ start

  abbrev trace : List Entry
  trace = later ++ invoked

  run : Run c trace
  run = run_of c setting trace is_run unforged apart

  begins : history_of me invoked ≡ Invoke k t op ∷ history_of me start
  begins = ap (λ (b : Bool). cond b (Invoke k t op ∷ history_of me start) (history_of me start)) (eq-eqb me me refl)

  opened : open_call (history_of me invoked) ≡ Some call
  opened = ap open_call begins

  is_mine : history_of me trace ≡ history_of me later ++ Invoke k t op ∷ history_of me start
  is_mine = history_append me later invoked ∙ ap (λ (xs : List Entry). history_of me later ++ xs) begins

  safe : SafeClient c me (history_of me later ++ Invoke k t op ∷ history_of me start)
  safe = subst (SafeClient c me) is_mine (run.runs.clients me client)

  safe_before : SafeClient c me (history_of me start)
  safe_before = (safe_behind c me (history_of me later) (Invoke k t op ∷ history_of me start) safe).1

  -- the request goes read-only
  asked : Asked c me modes.ReadOnly call later
  asked = go r.outs asks_it r.among
    where
      r : Reacted c me (Invoke k t op) [] (history_of me later ++ Invoke k t op ∷ []) (history_of me start)
      r = reacted c me (Invoke k t op) refl [] (history_of me later ++ Invoke k t op ∷ []) (history_of me start)
          (subst (λ (xs : List Entry). Reacts c me 0 (reaction c me) [] xs) (is_mine ∙ sym (append_assoc (history_of me later) (Invoke k t op ∷ []) (history_of me start))) (goes.clients me client refl))
          (has_right (λ x. x ≡ Invoke k t op) (history_of me later) (Invoke k t op ∷ []) (inl refl))

      asks_it : IsReaction c me (asks modes.ReadOnly call) r.outs
      asks_it = subst (λ (x : Reaction). IsReaction c me x r.outs) (ap (λ (b : Bool). asks (cond b modes.ReadOnly modes.Ordered) call) is_read) r.reacts

      in_later : (bytes : List ℕ) → HasEntry (Sent me bytes) (history_of me later) ⊎ HasEntry (Sent me bytes) (Invoke k t op ∷ []) → HasEntry (Sent me bytes) later
      in_later bytes (inl h) = in_trace me (Sent me bytes) later h
      in_later bytes (inr (inl same)) = absurd cc
      in_later bytes (inr (inr h)) = absurd h

      there : (bytes : List ℕ) → HasEntry (Sent me bytes) [] ⊎ HasEntry (Sent me bytes) (history_of me later ++ Invoke k t op ∷ []) → HasEntry (Sent me bytes) later
      there bytes (inl h) = absurd h
      there bytes (inr h) = in_later bytes (has_either (λ x. x ≡ Sent me bytes) (history_of me later) (Invoke k t op ∷ []) h)

      go : (outs : List Entry) → IsReaction c me (asks modes.ReadOnly call) outs
          → ((x : Entry) → HasEntry x outs → HasEntry x [] ⊎ HasEntry x (history_of me later ++ Invoke k t op ∷ [])) → Asked c me modes.ReadOnly call later
      go outs is among = record {
        bytes = is.0;
        is_sent = there is.0 (among (Sent me is.0) (subst (λ (ys : List Entry). HasEntry (Sent me is.0) ys) (sym is.1) (inl refl)));
        is_outgoing = is.2;
      }

  -- ---- a replica that stays at the number

  module _ (r : ℕ) (correct : is_correct_replica c r ≡ true) (stays : StaysAt n later invoked r) (number : ℕ) (answer : Outcome)
      (says : Once (Speaks (replying r me t modes.ReadOnly number answer)) (history_of r trace)) where
    it : Replied c trace r me t modes.ReadOnly number answer
    it = replied c trace r me t modes.ReadOnly number answer run correct says

    abbrev may : MayReplyRead c r it.past it.point me t number answer
    may = it.may

    -- it received the request after the invocation
    not_heard : Once (Receives c r (asking me t modes.ReadOnly may.op)) (history_of r invoked) → ⊥
    not_heard h =
        let part = run_part c later invoked run in
        let said' = heard_was_said c invoked r (asking me t modes.ReadOnly may.op) part.runs.unforged (correct_replica c r correct) (correct_client c me client) h in
        go (subst (λ (xs : List Entry). Once (Speaks (asking me t modes.ReadOnly may.op)) xs) begins said')
      where
        go : Once (Speaks (asking me t modes.ReadOnly may.op)) (Invoke k t op ∷ history_of me start) → ⊥
        go (inl h) = h
        go (inr h) =
            let l = invokes_le c me t may.op (history_of me start) safe_before (asked_op c me t modes.ReadOnly may.op (history_of me start) safe_before h) in
            let new = ((safe_behind c me (history_of me later) (Invoke k t op ∷ history_of me start) safe).0.1.0) in
            omega arith

    at_number : number ≡ n
    at_number = go (ends_of it.later it.entry it.past (history_of r later) (history_of r invoked) (sym it.is ∙ history_append r later invoked))
      where
        go : Ends it.entry it.past (history_of r invoked) → number ≡ n
        go (behind middle is) =
            let a = number_reached c r it.past it.point it.leaves in
            let b = may.number_is in
            let low : reached (history_of r invoked) r ≤ reached it.past r = subst (λ (xs : List Entry). reached (history_of r invoked) r ≤ reached xs r) (sym is) (later_reached r middle (history_of r invoked)) in
            let high : reached (it.entry ∷ it.past) r ≤ reached (history_of r trace) r = subst (λ (xs : List Entry). reached (it.entry ∷ it.past) r ≤ reached xs r) (sym it.is) (later_reached r it.later (it.entry ∷ it.past)) in
            let step = reached_grows it.entry it.past r in
            let first = reached_history r invoked in
            let last = reached_history r trace in
            let x = stays.0 in
            let y = stays.1 in
            omega arith
        go (before middle is) =
            absurd (not_heard (subst (λ (xs : List Entry). Once (Receives c r (asking me t modes.ReadOnly may.op)) xs) (sym is)
            (once_append (Receives c r (asking me t modes.ReadOnly may.op)) middle (it.entry ∷ it.past) (inr may.authentic))))

    invokes : Once (Invokes me t op) (history_of me trace)
    invokes = subst (λ (xs : List Entry). Once (Invokes me t op) xs) (sym is_mine) (once_append (Invokes me t op) (history_of me later) (Invoke k t op ∷ history_of me start) (inl (refl, refl, refl)))

    answers_it : answer ≡ outcome (tuples (state_by c trace opening 1 n)) (me - 256) op
    answers_it =
        let s = read_replied c trace r me t number answer run correct client it in
        let same = one_invocation c me t s.op op (history_of me trace) (run.runs.clients me client) s.invoked invokes in
        s.answer_is ∙ ap (λ (m : ℕ). outcome (tuples (state_by c trace opening 1 m)) (me - 256) s.op) at_number ∙ ap (outcome (tuples (state_by c trace opening 1 n)) (me - 256)) same

  contradiction : (Accepting k t (history_of me later) → ⊥) → (answers : ℕ → Bool) → 2 * c.faults + 1 ≤ count_below answers (replicas c)
      → ((r : ℕ) → answers r ≡ true → (is_correct_replica c r ≡ true) × StaysAt n later invoked r) → ⊥
  contradiction none answers enough each =
      not_all_alike c setting later invoked is_run goes unforged apart k call client opened all none modes.ReadOnly n (outcome (tuples (state_by c trace opening 1 n)) (me - 256) op) answers enough by same
    where
      by : (r : ℕ) → answers r ≡ true → Voted c trace (history_of me later ++ history_of me invoked) me t modes.ReadOnly r
      by r h =
          let correct = (each r h).0 in
          let e = event c setting later invoked is_run goes unforged apart k call client opened all none modes.ReadOnly asked r correct in
          voted c setting later invoked is_run goes unforged apart k call client opened all none modes.ReadOnly asked r correct e.old.state.number (outcome (tuples e.old.state) (me - 256) op)
          (e.owes.reads me t op (hears_request c setting later invoked is_run goes unforged apart k call client opened all none modes.ReadOnly asked r correct).receives is_read)

      same : (r : ℕ) (h : answers r ≡ true) → ((by r h).vote.number ≡ n) × ((by r h).vote.answer ≡ outcome (tuples (state_by c trace opening 1 n)) (me - 256) op)
      same r h =
          let v = by r h in (
            at_number r (each r h).0 (each r h).1 v.vote.number v.vote.answer v.says,
            answers_it r (each r h).0 (each r h).1 v.vote.number v.vote.answer v.says,
          )

pub reads_are_accepted : ReadsAreAccepted
reads_are_accepted c setting k t n op later start run goes unforged apart client is_read answers enough each all = go (accepted_or_not k t (history_of (256 + k) later))
  where
    go : Accepting k t (history_of (256 + k) later) ⊎ (Accepting k t (history_of (256 + k) later) → ⊥) → (answer : Outcome) × HasEntry (Accepted k t answer) later
    go (inl a) = (a.0, in_trace (256 + k) (Accepted k t a.0) later a.1)
    go (inr none) = absurd (contradiction c setting k t n op later start run goes unforged apart client is_read all none answers enough each)
