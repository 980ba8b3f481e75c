-- What private functions say of groups.
use Rattle.std.proofs.Common.{◌≡◌, ℕ, ◌+◌, ◌<◌, ◌≤◌, ◌^◌, Bool, false, nat_eq, List, [], ◌∷◌, ◌++◌, length, refl, sym, ◌∙◌, ap, arith, append_assoc, length-append, inl, inr}
use Rattle.std.proofs.lemmas.Bool.{cases_lt, eqb-false}
use Rattle.std.proofs.lemmas.List.{append-nil, length_push}
use Rattle.event_log.specs.Events.{event_bytes, events_bytes, HasNoEvent, IsFirstEvent}
use Rattle.event_log.specs.Groups.{AreEvents, AreEventsBefore, AreNoEvents}
use Rattle.event_log.proofs.Framing.{one_event, event_len, head_short, tail_short, events_push}

-- ---- counting

pub none_yet : (bytes : List ℕ) → AreEventsBefore bytes bytes 0
none_yet bytes = record { events = []; counted = refl; whole = refl }

pub one_more : (bytes event rest behind : List ℕ) (count : ℕ) → AreEventsBefore bytes rest count → IsFirstEvent rest event behind → AreEventsBefore bytes behind (count + 1)
one_more bytes event rest behind count before first =
    record {
      events = before.events ++ event ∷ [];
      counted = omega (arith, before.counted, length_push before.events event);
      whole = before.whole ∙ ap (λ (l : List ℕ). events_bytes before.events ++ l) first.whole
          ∙ sym (append_assoc (events_bytes before.events) (event_bytes event) behind)
          ∙ ap (λ (l : List ℕ). l ++ behind) (sym (events_push before.events event));
    }

-- each event has bytes
few_events : (events : List (List ℕ)) → length events ≤ length (events_bytes events)
few_events [] = omega arith
few_events (event ∷ events) = omega (arith, few_events events, event_len event, length-append (event_bytes event) (events_bytes events))

pub count_fits : (bytes rest : List ℕ) (count : ℕ) → AreEventsBefore bytes rest count → count ≤ length bytes
count_fits bytes rest count before =
    omega (arith, before.counted, few_events before.events, ap length before.whole, length-append (events_bytes before.events) rest)

pub all_counted : (bytes rest : List ℕ) (count : ℕ) → AreEventsBefore bytes rest count → rest ≡ [] → AreEvents bytes count
all_counted bytes rest count before nothing =
    record {
      events = before.events;
      counted = before.counted;
      whole = before.whole ∙ ap (λ (l : List ℕ). events_bytes before.events ++ l) nothing ∙ append-nil (events_bytes before.events);
    }

pub split_events : (done events : List (List ℕ)) (rest : List ℕ) → length (events_bytes events) < 2 ^ 32 → events_bytes done ++ rest ≡ events_bytes events → HasNoEvent rest → rest ≡ []
split_events [] [] rest short e none = e
split_events [] (event ∷ events) rest short e none =
    absurd (none event (events_bytes events) (record { short = head_short event events (2 ^ 32) short; whole = e }))
split_events (d ∷ done) [] rest short e none =
    absurd (omega (arith, ap length e, length-append (event_bytes d ++ events_bytes done) rest, length-append (event_bytes d) (events_bytes done), event_len d))
split_events (d ∷ done) (event ∷ events) rest short e none =
    let long = length-append (event_bytes d ++ events_bytes done) rest in
    let fits : length d < 2 ^ 32 =
    omega (arith, short, ap length e, length-append (event_bytes d ++ events_bytes done) rest, length-append (event_bytes d) (events_bytes done), event_len d) in
    let s = one_event d event (events_bytes done ++ rest) (events_bytes events) fits (head_short event events (2 ^ 32) short)
    (sym (append_assoc (event_bytes d) (events_bytes done) rest) ∙ e) in
    split_events done events rest (tail_short event events (2 ^ 32) short) s.1 none

pub rest_are_none : (bytes rest : List ℕ) (count : ℕ) → AreEventsBefore bytes rest count → HasNoEvent rest → 0 < length rest → AreNoEvents bytes
rest_are_none bytes rest count before none some events short e =
    omega (arith, some, ap length (split_events before.events events rest short (sym before.whole ∙ e) none))

-- A test for nothing left, which failed.
pub some_left : (n : ℕ) (none : Bool) → none ≡ nat_eq n 0 → none ≡ false → 0 < n
some_left n none told not_none = elim (cases_lt 0 n) [
  | inl some ↦ some
  | inr nothing ↦ absurd (eqb-false n 0 (sym told ∙ not_none) (omega (arith, nothing)))
]
