-- What a machine does again, event by event and group by group.
use Rattle.std.proofs.Common.{◌≡◌, ℕ, ◌<◌, ◌^◌, Bool, true, MatchBool, List, [], ◌∷◌, ◌++◌, length, map, refl, sym, ◌∙◌, ap, subst, append_assoc}
use Rattle.std.proofs.lemmas.List.{append-nil, map-append}
use Rattle.event_log.specs.Events.{event_bytes, events_bytes, HasNoEvent, IsFirstEvent}
use Rattle.event_log.specs.Groups.{group_bytes, HasNoGroup, IsGroup}
use Rattle.event_log.specs.Logs.{BeginsWith, IsLast, no_group, behind, Reads, ReadsLast}
use Rattle.event_log.specs.Standing.{IsAt, ReadsGroup, ReadsNone}
use Rattle.event_log.specs.declared.owner.Owner.{Owner}
use Rattle.event_log.specs.declared.reading.Reading.{Reading}
use Rattle.event_log.proofs.Framing.{events_push, events_one}
use Rattle.event_log.proofs.Counting.{split_events}
use Rattle.lives.specs.Events.{Event, logged, outputs_of}
use Rattle.lives.specs.Steps.{Steps}
use Rattle.lives.specs.Repeats.{Repeats, RepeatsText, RepeatsBefore, PlaysUpTo}

pub outputs_append : (ls bs : List Event) → outputs_of (ls ++ bs) ≡ outputs_of ls ++ outputs_of bs
outputs_append [] bs = refl
outputs_append (a ∷ ls) bs = ap (λ (l : List ℕ). a.1 ++ l) (outputs_append ls bs) ∙ sym (append_assoc a.1 (outputs_of ls) (outputs_of bs))

module _ {M : Type 0} (fits : M → List Event → Type 0) where
  pub repeats_nothing : (m : M) (given : List ℕ) → Repeats fits m m [] given given
  repeats_nothing m given history fit =
      record {
        again = [];
        told = refl;
        fitted = subst (λ (h : List Event). fits m h) (sym (append-nil history)) fit;
        given = sym (append-nil given);
      }

  pub repeats_more : (m k n : M) (ts us : List (List ℕ)) (a b c : List ℕ) → Repeats fits m k ts a b → Repeats fits k n us b c → Repeats fits m n (ts ++ us) a c
  repeats_more m k n ts us a b c first second history fit =
      let one = first history fit in
      let two = second (history ++ one.again) one.fitted in
      record {
        again = one.again ++ two.again;
        told = map-append logged one.again two.again ∙ ap (λ (l : List (List ℕ)). l ++ map logged two.again) one.told ∙ ap (λ (l : List (List ℕ)). ts ++ l) two.told;
        fitted = subst (λ (h : List Event). fits n h) (append_assoc history one.again two.again) two.fitted;
        given = two.given ∙ ap (λ (l : List ℕ). l ++ outputs_of two.again) one.given
            ∙ append_assoc a (outputs_of one.again) (outputs_of two.again)
            ∙ ap (λ (l : List ℕ). a ++ l) (sym (outputs_append one.again two.again));
      }

  -- A step that gave what an event says.
  pub repeats_event : (m n : M) (event input outputs given before after : List ℕ) (moved : Bool) → Steps fits m n input [] given moved → moved ≡ true
      → given ≡ outputs → event ≡ event_bytes input ++ outputs → after ≡ before ++ outputs → Repeats fits m n (event ∷ []) before after
  repeats_event m n event input outputs given before after moved steps moves same says appends history fit =
      let led = subst (λ (b : Bool). MatchBool b (fits n (history ++ (input, steps.outputs) ∷ [])) ((steps.outputs ≡ []) × fits n history)) moves (steps.leads history fit) in
      let is : steps.outputs ≡ outputs = sym steps.given ∙ same in
      record {
        again = (input, outputs) ∷ [];
        told = ap (λ (l : List ℕ). l ∷ []) (sym says);
        fitted = subst (λ (l : List ℕ). fits n (history ++ (input, l) ∷ [])) is led;
        given = appends ∙ ap (λ (l : List ℕ). before ++ l) (sym (append-nil outputs));
      }

  pub none_repeated : (m : M) (text given : List ℕ) → RepeatsBefore fits m m text text given given
  none_repeated m text given = record { texts = []; whole = refl; repeats = repeats_nothing m given }

  pub one_repeated : (m k n : M) (text event rest left a b c : List ℕ) → RepeatsBefore fits m k text rest a b → IsFirstEvent rest event left
      → Repeats fits k n (event ∷ []) b c → RepeatsBefore fits m n text left a c
  one_repeated m k n text event rest left a b c before first repeats =
      record {
        texts = before.texts ++ event ∷ [];
        whole = before.whole ∙ ap (λ (l : List ℕ). events_bytes before.texts ++ l) first.whole
            ∙ sym (append_assoc (events_bytes before.texts) (event_bytes event) left)
            ∙ ap (λ (l : List ℕ). l ++ left) (sym (events_push before.texts event));
        repeats = repeats_more m k n before.texts (event ∷ []) a b c before.repeats repeats;
      }

  pub all_repeated : (m n : M) (text rest a b : List ℕ) → RepeatsBefore fits m n text rest a b → HasNoEvent rest → RepeatsText fits m n text a b
  all_repeated m n text rest a b before none texts short is =
      let nothing : rest ≡ [] = split_events before.texts texts rest short (sym before.whole ∙ is) none in
      let whole : text ≡ events_bytes before.texts = before.whole ∙ ap (λ (l : List ℕ). events_bytes before.texts ++ l) nothing ∙ append-nil (events_bytes before.texts) in
      let same : events_bytes before.texts ≡ events_bytes texts = sym whole ∙ is in
      let fits_too : length (events_bytes before.texts) < 2 ^ 32 = subst (λ (l : List ℕ). length l < 2 ^ 32) (sym same) short in
      subst (λ (ts : List (List ℕ)). Repeats fits m n ts a b) (events_one before.texts texts fits_too short same) before.repeats

  -- Nothing was played yet.
  pub nothing_played : (owner : Owner) (m : M) (reading : Reading) (file given : List ℕ) → fits m [] → IsAt owner reading file [] → given ≡ [] → PlaysUpTo fits owner m reading file given
  nothing_played owner m reading file given fit at none = record { front = []; last = []; fitted = fit; at = at; group = no_group; is_given = none }

  -- One group more was played.
  pub group_played : (owner : Owner) (m n : M) (old new : Reading) (file given after : List ℕ)
      → (up_to : PlaysUpTo fits owner m old file given) → (read : ReadsGroup owner new file (map logged (up_to.front ++ up_to.last)))
      → Repeats fits m n read.group [] after → PlaysUpTo fits owner n new file after
  group_played owner m n old new file given after up_to read repeats =
      let history = up_to.front ++ up_to.last in
      let r = repeats history up_to.fitted in
      let whole : map logged history ++ read.group ≡ map logged (history ++ r.again) =
      ap (λ (l : List (List ℕ)). map logged history ++ l) (sym r.told) ∙ sym (map-append logged history r.again) in
      record {
        front = history;
        last = r.again;
        fitted = r.fitted;
        at = record {
          owner_is = read.at.owner_is;
          tail = read.at.tail;
          begins = subst (λ (l : List (List ℕ)). BeginsWith owner l file read.at.tail) whole read.at.begins;
          place_is = read.at.place_is;
          len_is = read.at.len_is;
          number_is = read.at.number_is ∙ ap length whole;
        };
        group = behind (map logged history) (map logged r.again)
            (subst (λ (l : List (List ℕ)). IsGroup (length (map logged history)) l) (sym r.told) read.is_group)
            (subst (λ (l : List (List ℕ)). BeginsWith owner (map logged history) file (group_bytes owner (length (map logged history)) l ++ read.at.tail)) (sym r.told) read.stood);
        is_given = r.given;
      }

  -- All was played: the last group stands before the tail.
  pub last_read : (owner : Owner) (m : M) (old new : Reading) (file given : List ℕ) → (up_to : PlaysUpTo fits owner m old file given)
      → (ends : ReadsNone owner new file (map logged (up_to.front ++ up_to.last)) up_to.at.tail) → HasNoGroup owner ends.at.tail
      → Reads owner file (map logged (up_to.front ++ up_to.last)) × ReadsLast owner file (map logged up_to.front) (map logged up_to.last)
  last_read owner m old new file given up_to ends torn = (
    record { tail = ends.at.tail; begins = ends.at.begins; torn = torn },
    record {
      tail = ends.at.tail;
      begins = subst (λ (l : List (List ℕ)). BeginsWith owner l file ends.at.tail) (map-append logged up_to.front up_to.last) ends.at.begins;
      is_last = subst (λ (l : List ℕ). IsLast owner file l (map logged up_to.front) (map logged up_to.last)) (sym ends.tail_is) up_to.group;
      torn = torn;
    },
  )
