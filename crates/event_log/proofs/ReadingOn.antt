-- A log that is read, one group on and at its end.
use Rattle.std.proofs.Common.{◌≡◌, false, true, ℕ, ◌+◌, ◌≤◌, List, [], ◌++◌, length, take, drop, refl, sym, ◌∙◌, ap, subst, arith, length-append}
use Rattle.std.proofs.lemmas.List.{append-nil, take-append-drop, length-drop, drop_at, drop-drop}
use Rattle.sqlite_disk.specs.Disk.{Cut, Follows, Only}
use Rattle.event_log.specs.Events.{events_bytes}
use Rattle.event_log.specs.Groups.{group_bytes, IsGroup, BeginsWithGroup, HasNoGroup}
use Rattle.event_log.specs.Logs.{header_bytes, log_bytes, BeginsWith, IsDamaged, Keeps, Reads}
use Rattle.event_log.specs.Finding.{FindsGroup, NoGroupFrom}
use Rattle.event_log.specs.Standing.{IsAt, ReadsGroup, ReadsNone, Stands}
use Rattle.event_log.specs.declared.owner.Owner.{Owner}
use Rattle.event_log.specs.declared.log.Log.{Log}
use Rattle.event_log.specs.declared.reading.Reading.{Reading}
use Rattle.event_log.proofs.Framing.{text_fits, one_group}
use Rattle.event_log.proofs.Logs.{begins_more, reads_one, reads_keeps, no_group_no_next, damage_shows}
use Rattle.event_log.proofs.Finds.{text_in_group}
use Rattle.event_log.proofs.Appending.{cut_begins, cut_keeps}

-- ---- the header

pub header_begins : (owner : Owner) (file head : List ℕ) → head ≡ take 32 (drop 0 file) → head ≡ header_bytes owner → BeginsWith owner [] file (drop 32 file)
header_begins owner file head read is =
    record {
      groups = [];
      are_groups = tt;
      told = refl;
      whole = sym (take-append-drop 32 file) ∙ ap (λ (l : List ℕ). l ++ drop 32 file) (sym read ∙ is ∙ sym (append-nil (header_bytes owner)));
    }

pub opened_at : (owner : Owner) (reading : Reading) (file head : List ℕ) → head ≡ take 32 (drop 0 file) → head ≡ header_bytes owner → 32 ≤ length file
    → reading.owner ≡ owner → reading.place ≡ 32 → reading.len ≡ length file → reading.number ≡ 0 → IsAt owner reading file []
opened_at owner reading file head read is long owner_is place_is len_is number_is =
    record {
      owner_is = owner_is;
      tail = drop 32 file;
      begins = header_begins owner file head read is;
      place_is = omega (arith, place_is, long, length-drop 32 file);
      len_is = len_is;
      number_is = number_is;
    }

-- ---- groups

-- what is behind the groups that were read
pub tail_is : (owner : Owner) (reading : Reading) (file : List ℕ) (events : List (List ℕ)) (at : IsAt owner reading file events) → drop reading.place file ≡ at.tail
tail_is owner reading file events at =
    let front = log_bytes owner at.begins.groups in
    let place : length front ≡ reading.place = omega (arith, at.place_is, ap length at.begins.whole, length-append front at.tail) in
    ap (λ (l : List ℕ). drop reading.place l) at.begins.whole ∙ drop_at front at.tail reading.place place

-- no group there at all
pub none_read : (owner : Owner) (old new : Reading) (file : List ℕ) (events : List (List ℕ)) (at : IsAt owner old file events)
    → (BeginsWithGroup old.owner (drop old.place file) → ⊥)
    → new.owner ≡ old.owner → new.place ≡ old.place → new.len ≡ old.len → new.number ≡ old.number → ReadsNone owner new file events at.tail
none_read owner old new file events at none owner_is place_is len_is number_is =
    record {
      at = record {
        owner_is = owner_is ∙ at.owner_is;
        tail = at.tail;
        begins = at.begins;
        place_is = omega (arith, place_is, at.place_is);
        len_is = len_is ∙ at.len_is;
        number_is = number_is ∙ at.number_is;
      };
      tail_is = refl;
      none = no_group_no_next owner (length events) at.tail (λ begins. none
          (subst (λ (o : Owner). BeginsWithGroup o (drop old.place file)) (sym at.owner_is)
          (subst (λ (l : List ℕ). BeginsWithGroup owner l) (sym (tail_is owner old file events at)) begins)));
    }

-- a group of another number there
pub other_read : (owner : Owner) (old new : Reading) (file group : List ℕ) (events : List (List ℕ)) (number count : ℕ) (at : IsAt owner old file events)
    → FindsGroup old.owner (drop old.place file) group number count → (number ≡ old.number → ⊥)
    → new.owner ≡ old.owner → new.place ≡ old.place → new.len ≡ old.len → new.number ≡ old.number → ReadsNone owner new file events at.tail
other_read owner old new file group events number count at finds other owner_is place_is len_is number_is =
    record {
      at = record {
        owner_is = owner_is ∙ at.owner_is;
        tail = at.tail;
        begins = at.begins;
        place_is = omega (arith, place_is, at.place_is);
        len_is = len_is ∙ at.len_is;
        number_is = number_is ∙ at.number_is;
      };
      tail_is = refl;
      none = λ next rest is e.
          let there : group_bytes owner number finds.is.events ++ finds.rest ≡ group_bytes owner (length events) next ++ rest =
          ap (λ (o : Owner). group_bytes o number finds.is.events ++ finds.rest) (sym at.owner_is)
          ∙ ap (λ (l : List ℕ). l ++ finds.rest) (sym finds.is.whole) ∙ sym finds.whole ∙ tail_is owner old file events at ∙ e in
          let same = one_group owner number (length events) finds.is.events next finds.rest rest finds.is.is_group is there in
          other (same.number ∙ sym at.number_is);
    }

pub group_read : (owner : Owner) (old new : Reading) (file : List ℕ) (events : List (List ℕ)) (number count : ℕ) → IsAt owner old file events
    → FindsGroup old.owner (drop old.place file) new.group.items number count → number ≡ old.number
    → new.owner ≡ old.owner → new.place ≡ old.place + length new.group.items → new.len ≡ old.len → new.number ≡ old.number + count
    → ReadsGroup owner new file events
group_read owner old new file events number count at finds numbered owner_is place_is len_is number_is =
    let group = finds.is.events in
    let is_number : number ≡ length events = numbered ∙ at.number_is in
    let text : new.group.items ≡ group_bytes owner (length events) group =
    finds.is.whole ∙ ap (λ (o : Owner). group_bytes o number group) at.owner_is ∙ ap (λ (n : ℕ). group_bytes owner n group) is_number in
    let split : at.tail ≡ new.group.items ++ finds.rest = sym (tail_is owner old file events at) ∙ finds.whole in
    record {
      group = group;
      short = text_fits number group finds.is.is_group;
      text = text_in_group owner new.group.items (length events) (events_bytes group) text;
      at = record {
        owner_is = owner_is ∙ at.owner_is;
        tail = finds.rest;
        begins = begins_more owner events file at.tail finds.rest group at.begins
            (subst (λ (n : ℕ). IsGroup n group) is_number finds.is.is_group)
            (split ∙ ap (λ (l : List ℕ). l ++ finds.rest) text);
        place_is = omega (arith, place_is, at.place_is, ap length split, length-append new.group.items finds.rest);
        len_is = len_is ∙ at.len_is;
        number_is = omega (arith, number_is, at.number_is, finds.is.counted, length-append events group);
      };
      is_group = subst (λ (n : ℕ). IsGroup n group) is_number finds.is.is_group;
      stood = record {
        groups = at.begins.groups;
        are_groups = at.begins.are_groups;
        told = at.begins.told;
        whole = at.begins.whole ∙ ap (λ (l : List ℕ). log_bytes owner at.begins.groups ++ l) (split ∙ ap (λ (l : List ℕ). l ++ finds.rest) text);
      };
    }

-- ---- the end

-- No sound group is behind what was read.
pub ended_torn : (owner : Owner) (reading : Reading) (file : List ℕ) (events : List (List ℕ)) (at : IsAt owner reading file events)
    → NoGroupFrom reading.owner file reading.place → HasNoGroup owner at.tail
ended_torn owner reading file events at none place begins =
    none (reading.place + place) (omega arith)
    (subst (λ (o : Owner). BeginsWithGroup o (drop (reading.place + place) file)) (sym at.owner_is)
    (subst (λ (l : List ℕ). BeginsWithGroup owner l)
    (ap (λ (l : List ℕ). drop place l) (sym (tail_is owner reading file events at)) ∙ drop-drop place reading.place file) begins))

pub ended_reads : (owner : Owner) (reading : Reading) (file : List ℕ) (events : List (List ℕ)) → IsAt owner reading file events
    → NoGroupFrom reading.owner file reading.place → Reads owner file events
ended_reads owner reading file events at none =
    record { tail = at.tail; begins = at.begins; torn = ended_torn owner reading file events at none }

-- So the file is not damaged.
pub ended_undamaged : (owner : Owner) (reading : Reading) (file : List ℕ) (events : List (List ℕ)) (tail : List ℕ) → ReadsNone owner reading file events tail
    → IsDamaged owner file → NoGroupFrom reading.owner file reading.place → ⊥
ended_undamaged owner reading file events tail read damaged none =
    damage_shows owner file read.at.tail events read.at.begins read.none damaged (ended_torn owner reading file events read.at none)

module _ {D : Type 0} (seen : D → List ℕ) (may_leave : D → List ℕ → Type 0) (owner : Owner) where
  pub ended_stands : (reading : Reading) (log : Log) (file : List ℕ) (disk : D) (events : List (List ℕ)) → IsAt owner reading file events
      → Cut reading.place file (seen disk) → length (seen disk) ≡ reading.place → Only (seen disk) (may_leave disk)
      → log.owner ≡ reading.owner → log.end ≡ reading.place → log.number ≡ reading.number → log.gathered.items ≡ [] → log.count ≡ 0 → log.is_resting ≡ false
      → Stands seen may_leave owner log disk events []
  ended_stands reading log file disk events at cut ends only owner_is end_is number_is gathered count_is restless =
      record {
        owner_is = owner_is ∙ at.owner_is;
        file = cut_begins owner events file at.tail (seen disk) reading.place at.begins at.place_is cut ends;
        lasting = only;
        end_is = end_is ∙ sym ends;
        number_is = number_is ∙ at.number_is;
        gathers = gathered;
        count_is = count_is;
        resting = λ is. absurd (let bad : false ≡ true = sym restless ∙ is in cc);
      }

-- A crash that leaves the file leaves all of it.
pub same_keeps : (owner : Owner) (all : List (List ℕ)) (file left : List ℕ) → Reads owner file all → left ≡ file → Keeps owner all left
same_keeps owner all file left reads same = subst (λ (f : List ℕ). Keeps owner all f) (sym same) (reads_keeps owner all file reads)

-- So does a crash in the midst of the cut.
pub cut_crash : (owner : Owner) (reading : Reading) (file left : List ℕ) (events all : List (List ℕ)) (old new : List ℕ → Type 0) → IsAt owner reading file events
    → NoGroupFrom reading.owner file reading.place → Reads owner file all → ((f : List ℕ) → old f → f ≡ file) → Follows (Cut reading.place) old new → new left → Keeps owner all left
cut_crash owner reading file left events all old new at none reads only follows is =
    let from = follows left is in
    let cut : Cut reading.place file left = subst (λ (d : List ℕ). Cut reading.place d left) (only from.0 from.1) from.2 in
    subst (λ (es : List (List ℕ)). Keeps owner es left) (reads_one owner events all file (ended_reads owner reading file events at none) reads)
    (cut_keeps owner events file at.tail left reading.place at.begins (omega (arith, at.place_is)) cut)
