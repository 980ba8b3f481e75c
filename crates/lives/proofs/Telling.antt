-- An event is told by its bytes in a log, and what a log keeps is kept of all lives.
use Rattle.std.proofs.Common.{◌≡◌, ℕ, ◌<◌, ◌^◌, List, [], ◌∷◌, ◌++◌, length, get_or, drop, map, refl, ◌∙◌, ap, arith, append_assoc, length-append}
use Rattle.event_log.specs.Events.{event_bytes}
use Rattle.event_log.specs.Logs.{Keeps, Reads, Extends}
use Rattle.event_log.specs.declared.owner.Owner.{Owner}
use Rattle.event_log.proofs.Framing.{one_event, event_len}
use Rattle.event_log.proofs.Logs.{AreShort, begins_short, keeps_reads, log_long}
use Rattle.lives.specs.Events.{Event, logged}
use Rattle.lives.specs.Lives.{HasAll, Lives}
use Rattle.lives.specs.Lives.BeginsOn.{played, made}
use Rattle.lives.specs.Lives.Lives.{none, life}

input_short : (event : Event) → length (logged event) < 2 ^ 32 → length event.0 < 2 ^ 32
input_short event short = omega (arith, short, length-append (event_bytes event.0) event.1, event_len event.0)

pub logged_one : (a b : Event) → length (logged a) < 2 ^ 32 → length (logged b) < 2 ^ 32 → logged a ≡ logged b → a ≡ b
logged_one a b short short_b same =
    let s = one_event a.0 b.0 a.1 b.1 (input_short a short) (input_short b short_b) same in
    λ i. (s.0 i, s.1 i)

-- What holds of what a log has holds of the events.
pub extends_events : (first all : List Event) → AreShort (map logged first) → AreShort (map logged all) → Extends (map logged first) (map logged all) → Extends first all
extends_events [] all short short_all e = record { more = all; is = refl }
extends_events (a ∷ first) [] short short_all e = absurd (omega (arith, ap length e.is))
extends_events (a ∷ first) (b ∷ all) short short_all e =
    let heads : logged b ≡ logged a = ap (λ (l : List (List ℕ)). get_or l 0 []) e.is in
    let tails : map logged all ≡ map logged first ++ e.more = ap (λ (l : List (List ℕ)). drop 1 l) e.is in
    let behind = extends_events first all short.1 short_all.1 (record { more = e.more; is = tails }) in
    let same = logged_one b a short_all.0 short.0 heads in
    record { more = behind.more; is = λ i. same i ∷ behind.is i }

extends_trans : (one two three : List Event) → Extends one two → Extends two three → Extends one three
extends_trans one two three a b =
    record {
      more = a.more ++ b.more;
      is = b.is ∙ ap (λ (l : List Event). l ++ b.more) a.is ∙ append_assoc one a.more b.more;
    }

all_longer : (lives : List (List Event)) (history longer : List Event) → HasAll lives history → Extends history longer → HasAll lives longer
all_longer [] history longer all e = tt
all_longer (synced ∷ lives) history longer all e = (extends_trans synced history longer all.0 e, all_longer lives history longer all.1 e)

pub kept_is_told : (owner : Owner) (synced history : List Event) (file : List ℕ) → Keeps owner (map logged synced) file → Reads owner file (map logged history) → Extends synced history
kept_is_told owner synced history file keeps reads =
    extends_events synced history
    (begins_short owner (map logged synced) file keeps.tail keeps.begins)
    (begins_short owner (map logged history) file reads.tail reads.begins)
    (keeps_reads owner (map logged synced) (map logged history) file keeps reads)

-- An empty file has no life behind it.
no_life : (owner : Owner) (file : List ℕ) (lives : List (List Event)) (history : List Event) → Lives owner file lives → file ≡ [] → HasAll lives history
no_life owner file lives history (none start) empty = tt
no_life owner file lives history (life before next earlier said synced rest begun more keeps) empty =
    absurd (omega (arith, ap length empty, log_long owner (map logged synced) next keeps.tail keeps.begins))

pub lives_last : (owner : Owner) (file : List ℕ) (lives : List (List Event)) (history : List Event) → Lives owner file lives → Reads owner file (map logged history) → HasAll lives history
lives_last owner file lives history (none start) reads = tt
lives_last owner file lives history (life before next earlier said synced rest (played at is read) more keeps) reads =
    let longer = kept_is_told owner synced history next keeps reads in
    (longer, all_longer earlier said history (lives_last owner before earlier said rest read) (extends_trans said synced history more longer))
lives_last owner file lives history (life before next earlier said synced rest made more keeps) reads =
    let longer = kept_is_told owner synced history next keeps reads in
    (longer, all_longer earlier [] history (no_life owner before earlier [] rest refl) (extends_trans [] synced history more longer))
