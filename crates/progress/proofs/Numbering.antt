-- An active primary numbers an open call that its client asks again, while a number is free.
use Rattle.std.proofs.Common.{◌≡◌, ℕ, ◌+◌, ◌≤◌, ◌⊎◌, inl, inr, true, List, [], ◌∷◌, ◌++◌, Some, refl, sym, ap, ◌∙◌, subst}
use Rattle.tuple_codec.specs.Operations.{Outcome}
use Rattle.terms.specs.declared.order.Mode.TheVariants as modes
use Rattle.protocol.specs.System.Configuration.{Configuration, IsConfiguration, primary, is_correct_replica, is_correct_client}
use Rattle.protocol.specs.System.Trace.{Entry, history_of, Has, Unforged}
use Rattle.protocol.specs.System.Trace.Entry.{Got, Tick, Accepted}
use Rattle.protocol.specs.System.Texts.{NoCollision}
use Rattle.protocol.specs.System.Run.{IsRun, OnlyTheseStopped}
use Rattle.protocol.specs.Replica.State.{Call, last_time}
use Rattle.protocol.specs.Replica.Certificates.{is_active_in}
use Rattle.protocol.specs.Replica.RightReplica.{Point, HistoryReaches, IsFree}
use Rattle.protocol.specs.Replica.Owed.{HistoryIsPrompt}
use Rattle.protocol.specs.Client.RightClient.{OpenCall, open_call}
use Rattle.protocol.proofs.Words.Reacting.{proceeds_leaves}
use Rattle.protocol.proofs.Agreement.States.{history_append}
use Rattle.protocol.proofs.Points.Levels.{number_reached, reached_history}
use Rattle.protocol.proofs.Points.Running.{Run}
use Rattle.progress.specs.Delivery.{HasEntry, AllDelivered}
use Rattle.progress.specs.Waiting.{StandsAtPrimary, OpenCallsAreNumbered}
use Rattle.progress.proofs.Clients.{Accepting}
use Rattle.progress.proofs.Replies.{run_of}
use Rattle.progress.proofs.Keeping.{keeps_reply}
use Rattle.progress.proofs.Answering.{in_history, in_trace, accepted_or_not, Asked, asked, still_open, hears_request, gets_request}
use Rattle.progress.proofs.Committing.{Stands, stands}
use Rattle.progress.proofs.Waiting.{all_numbered, waits_since}

module _ (c : Configuration) (setting : IsConfiguration c) (later start : List Entry) (is_run : IsRun c (later ++ start)) (goes : OnlyTheseStopped c [] (later ++ start))
    (unforged : Unforged c (later ++ start)) (apart : NoCollision c (later ++ start)) (k : ℕ) (call : OpenCall) (client : is_correct_client c (256 + k) ≡ true)
    (opened : open_call (history_of (256 + k) start) ≡ Some call) (tick : HasEntry (Tick (256 + k)) later) (all : AllDelivered c later)
    (v : ℕ) (correct : is_correct_replica c (primary c v) ≡ true) (active : is_active_in c (history_of (primary c v) (later ++ start)) v ≡ true)
    (none : Accepting k call.timestamp (history_of (256 + k) later) → ⊥) where
  abbrev p0 : ℕ
  p0 = primary c v

  abbrev trace : List Entry
  trace = later ++ start

  abbrev whole : List Entry
  whole = history_of p0 (later ++ start)

  run : Run c trace
  run = run_of c setting trace is_run unforged apart

  still : open_call (history_of (256 + k) trace) ≡ Some call
  still = ap open_call (history_append (256 + k) later start) ∙ still_open c setting later start is_run goes unforged apart k call client opened all none

  request : Asked c (256 + k) modes.Ordered call later
  request = asked c setting later start is_run goes unforged apart k call client opened all none tick

  at : Stands (Got p0 request.bytes) (history_of p0 later) (history_of p0 start)
  at = stands (Got p0 request.bytes) (history_of p0 later) (history_of p0 start)
      (in_history p0 (Got p0 request.bytes) later refl (gets_request c setting later start is_run goes unforged apart k call client opened all none modes.Ordered request p0 correct))

  splits : whole ≡ at.newer ++ Got p0 request.bytes ∷ (at.middle ++ history_of p0 start)
  splits = history_append p0 later start ∙ at.whole

  point : Point
  point = (goes.replicas p0 correct refl).0

  proceeds : HistoryIsPrompt c p0 whole [] point point
  unfolding point
  proceeds = (goes.replicas p0 correct refl).1

  leaves : HistoryReaches c p0 whole point
  leaves = proceeds_leaves c p0 whole [] point point proceeds

  waits : Has (λ x. x ≡ (let y : Call = record { client = k; timestamp = call.timestamp; op = call.op } in y)) point.waiting ⊎ (call.timestamp ≤ last_time point.state k)
  waits =
      waits_since c trace run k client call still p0 correct request.bytes (hears_request c setting later start is_run goes unforged apart k call client opened all none modes.Ordered request p0 correct).receives
      [] at.newer (at.middle ++ history_of p0 start) point splits (subst (λ (xs : List Entry). HistoryReaches c p0 xs point) splits leaves)

  stands_at : StandsAtPrimary c v k call.timestamp trace
  stands_at = go waits
    where
      go : Has (λ x. x ≡ (let y : Call = record { client = k; timestamp = call.timestamp; op = call.op } in y)) point.waiting ⊎ (call.timestamp ≤ last_time point.state k) → StandsAtPrimary c v k call.timestamp trace
      go (inr l) = inl (keeps_reply c trace run k client call still p0 [] whole point correct refl leaves l)
      go (inl w) = inr (λ n free. all_numbered c p0 v n (record { client = k; timestamp = call.timestamp; op = call.op }) refl whole [] point point (λ e. refl) proceeds active w
          (subst (λ (m : ℕ). IsFree c p0 whole m v n) (sym (number_reached c p0 whole point leaves ∙ reached_history p0 trace)) free))

pub open_calls_are_numbered : OpenCallsAreNumbered
open_calls_are_numbered c setting later start run goes unforged apart k call client opened tick all v correct active = go (accepted_or_not k call.timestamp (history_of (256 + k) later))
  where
    go : Accepting k call.timestamp (history_of (256 + k) later) ⊎ (Accepting k call.timestamp (history_of (256 + k) later) → ⊥)
        → ((answer : Outcome) × HasEntry (Accepted k call.timestamp answer) later) ⊎ StandsAtPrimary c v k call.timestamp (later ++ start)
    go (inl a) = inl (a.0, in_trace (256 + k) (Accepted k call.timestamp a.0) later a.1)
    go (inr none) = inr (stands_at c setting later start run goes unforged apart k call client opened tick all v correct active none)
