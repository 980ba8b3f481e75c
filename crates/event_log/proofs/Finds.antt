-- Where a sound group begins, and where none does.
use Rattle.std.proofs.Common.{◌≡◌, ℕ, ◌+◌, ◌-◌, ◌<◌, ◌≤◌, Bool, true, false, Option, Some, None, MatchOption, List, [], ◌++◌, length, take, drop, get_or, refl, sym, ◌∙◌, ap, subst, arith, append_assoc, length-append, get_or-take}
use Rattle.std.proofs.Common.{inl, inr}
use Rattle.std.specs.Int.{w32, w64, to_be_bytes}
use Rattle.std.proofs.lemmas.List.{take_at, drop_at, take-append-drop, length-take-le, length-drop, get_or-drop, get_or_append_left, append_cancel_left, ext_get_or}
use Rattle.std.proofs.lemmas.Bool.{cases_lt}
use Rattle.memchr.specs.Find.{OccursAt, FindsNeedle, Nowhere}
use Rattle.sqlite_disk.specs.Disk.{Holds}
use Rattle.sqlite_disk.specs.Digest.{digest}
use Rattle.event_log.specs.Events.{events_bytes}
use Rattle.event_log.specs.Groups.{body_bytes, framed_bytes, group_bytes, BeginsWithGroup, IsGroupOf, IsNoGroup, SaysText, SaysNone}
use Rattle.event_log.specs.Finding.{FindsGroup, FindsNextGroup, FitsNextGroup, NoGroupIn, IsFirstGroup, FindsFirst, SearchesTo, JudgesPlace}
use Rattle.event_log.specs.declared.owner.Owner.{Owner}
use Rattle.event_log.proofs.Framing.{same_parts, four_split, frame_spread, frame_len}

-- what was read from a disk
pub holds_is : (file bytes : List ℕ) (at : ℕ) → Holds file at bytes → bytes ≡ take (length bytes) (drop at file)
holds_is file bytes at holds =
    let long : length bytes ≤ length (drop at file) = omega (arith, holds.within, length-drop at file) in
    ext_get_or 0 bytes (take (length bytes) (drop at file)) (sym (length-take-le (length bytes) (drop at file) long)) (λ i low.
    sym (get_or-take (length bytes) (drop at file) i 0 low ∙ get_or-drop at file i 0 ∙ holds.each i low))

-- ---- the group that begins at one place

-- the first 20 bytes of a group
pub head_is : (owner : Owner) (bytes : List ℕ) (b : BeginsWithGroup owner bytes)
    → take 20 bytes ≡ to_be_bytes w64 owner.mark ++ (to_be_bytes w64 b.number ++ to_be_bytes w32 (length (events_bytes b.events)))
head_is owner bytes b =
    let text = events_bytes b.events in
    let mark = to_be_bytes w64 owner.mark in
    let number = to_be_bytes w64 b.number in
    let count = to_be_bytes w32 (length text) in
    let behind = text ++ (to_be_bytes w64 (digest owner.key (body_bytes b.number text)) ++ b.rest) in
    let split : bytes ≡ (mark ++ (number ++ count)) ++ behind =
    b.whole ∙ frame_spread owner b.number text b.rest
    ∙ ap (λ (l : List ℕ). mark ++ l) (sym (append_assoc number count behind))
    ∙ sym (append_assoc mark (number ++ count) behind) in
    ap (λ (l : List ℕ). take 20 l) split ∙ take_at (mark ++ (number ++ count)) behind 20 refl

-- its length
pub group_long : (owner : Owner) (bytes : List ℕ) (b : BeginsWithGroup owner bytes) → length bytes ≡ length (events_bytes b.events) + 28 + length b.rest
group_long owner bytes b =
    omega (arith, ap length b.whole, length-append (group_bytes owner b.number b.events) b.rest, frame_len owner b.number (events_bytes b.events))

pub short_has_none : (owner : Owner) (bytes : List ℕ) → length bytes < 28 → BeginsWithGroup owner bytes → ⊥
short_has_none owner bytes few b = omega (arith, few, group_long owner bytes b)

pub head_has_none : (owner : Owner) (bytes : List ℕ) → SaysNone owner (take 20 bytes) → BeginsWithGroup owner bytes → ⊥
head_has_none owner bytes none b = none b.number (length (events_bytes b.events)) b.is_group.short (head_is owner bytes b)

pub text_is : (owner : Owner) (bytes : List ℕ) (count : ℕ) → SaysText owner (take 20 bytes) count → (b : BeginsWithGroup owner bytes) → count ≡ length (events_bytes b.events)
text_is owner bytes count says b =
    let size = length (events_bytes b.events) in
    let behind : says.number ++ to_be_bytes w32 count ≡ to_be_bytes w64 b.number ++ to_be_bytes w32 size =
    append_cancel_left (to_be_bytes w64 owner.mark) (says.number ++ to_be_bytes w32 count) (to_be_bytes w64 b.number ++ to_be_bytes w32 size) (sym says.whole ∙ head_is owner bytes b) in
    let lens = same_parts says.number (to_be_bytes w64 b.number) (to_be_bytes w32 count) (to_be_bytes w32 size) says.eight behind in
    let padded : to_be_bytes w32 count ++ [] ≡ to_be_bytes w32 size ++ [] = ap (λ (l : List ℕ). l ++ []) lens.1 in
    (four_split count size [] [] (omega (arith, says.few)) (omega (arith, b.is_group.short)) padded).0

pub far_has_none : (owner : Owner) (bytes : List ℕ) (count : ℕ) → SaysText owner (take 20 bytes) count → length bytes < 28 + count → BeginsWithGroup owner bytes → ⊥
far_has_none owner bytes count says few b = omega (arith, few, text_is owner bytes count says b, group_long owner bytes b)

pub whole_has_none : (owner : Owner) (bytes : List ℕ) (count : ℕ) → SaysText owner (take 20 bytes) count → IsNoGroup owner (take (28 + count) bytes) → BeginsWithGroup owner bytes → ⊥
whole_has_none owner bytes count says none b =
    let whole = group_bytes owner b.number b.events in
    let size : length whole ≡ 28 + count = omega (arith, frame_len owner b.number (events_bytes b.events), text_is owner bytes count says b) in
    none b.number b.events b.is_group (ap (λ (l : List ℕ). take (28 + count) l) b.whole ∙ take_at whole b.rest (28 + count) size)

pub finds_group : (owner : Owner) (bytes group : List ℕ) (size number count : ℕ) → group ≡ take size bytes → IsGroupOf owner group number count → FindsGroup owner bytes group number count
finds_group owner bytes group size number count e is =
    record {
      is = is;
      rest = drop size bytes;
      whole = sym (take-append-drop size bytes) ∙ ap (λ (l : List ℕ). l ++ drop size bytes) (sym e);
    }

pub finds_begins : (owner : Owner) (bytes group : List ℕ) (number count : ℕ) → FindsGroup owner bytes group number count → BeginsWithGroup owner bytes
finds_begins owner bytes group number count finds =
    record {
      number = number;
      events = finds.is.events;
      is_group = finds.is.is_group;
      rest = finds.rest;
      whole = finds.whole ∙ ap (λ (l : List ℕ). l ++ finds.rest) finds.is.whole;
    }

-- the events between a group's head and its check
pub text_in_group : (owner : Owner) (group : List ℕ) (number : ℕ) (text : List ℕ) → group ≡ framed_bytes owner number text → take (length group - 28) (drop 20 group) ≡ text
text_in_group owner group number text e =
    let mark = to_be_bytes w64 owner.mark in
    let num = to_be_bytes w64 number in
    let count = to_be_bytes w32 (length text) in
    let check = to_be_bytes w64 (digest owner.key (body_bytes number text)) in
    let split : group ≡ (mark ++ (num ++ count)) ++ (text ++ check) =
    e ∙ ap (λ (l : List ℕ). mark ++ l) (append_assoc num (count ++ text) check ∙ ap (λ (l : List ℕ). num ++ l) (append_assoc count text check) ∙ sym (append_assoc num count (text ++ check)))
    ∙ sym (append_assoc mark (num ++ count) (text ++ check)) in
    let size : length text ≡ length group - 28 = omega (arith, ap length e, frame_len owner number text) in
    ap (λ (l : List ℕ). take (length group - 28) l) (ap (λ (l : List ℕ). drop 20 l) split ∙ drop_at (mark ++ (num ++ count)) (text ++ check) 20 refl)
    ∙ take_at text check (length group - 28) size

-- ---- places without a group

-- a mark at a place of a file is one in the window over it
pub occurs : (file mark behind : List ℕ) (place size step : ℕ) → drop (place + step) file ≡ mark ++ behind → step + length mark ≤ size → size + place ≤ length file → OccursAt (take size (drop place file)) mark step
occurs file mark behind place size step e inside within =
    let window = take size (drop place file) in
    let long : length window ≡ size = length-take-le size (drop place file) (omega (arith, within, length-drop place file)) in
    record {
      fits = omega (arith, long, inside);
      reads = λ j low.
          get_or-take size (drop place file) (step + j) 0 (omega (arith, low, inside))
          ∙ get_or-drop place file (step + j) 0
          ∙ ap (λ (k : ℕ). get_or file k 0) (omega arith)
          ∙ sym (get_or-drop (place + step) file j 0)
          ∙ ap (λ (l : List ℕ). get_or l j 0) e
          ∙ get_or_append_left mark behind 0 j low;
    }

mark_at : (owner : Owner) (bytes : List ℕ) → BeginsWithGroup owner bytes → (behind : List ℕ) × (bytes ≡ to_be_bytes w64 owner.mark ++ behind)
mark_at owner bytes b =
    let text = events_bytes b.events in (
      to_be_bytes w64 b.number ++ (to_be_bytes w32 (length text) ++ (text ++ (to_be_bytes w64 (digest owner.key (body_bytes b.number text)) ++ b.rest))),
      b.whole ∙ frame_spread owner b.number text b.rest,
    )

-- No mark up to a step in the window: no group up to there.
pub none_up_to : (owner : Owner) (file : List ℕ) (place size step steps : ℕ) → size + place ≤ length file → step + 7 ≤ size → step ≤ steps
    → Nowhere (OccursAt (take size (drop place file)) (to_be_bytes w64 owner.mark)) 0 steps → NoGroupIn owner file place (place + step)
none_up_to owner file place size step steps within inside below none q low high b =
    let k = q - place in
    let at : q ≡ place + k = omega (arith, low) in
    let mark = mark_at owner (drop q file) b in
    let e : drop (place + k) file ≡ to_be_bytes w64 owner.mark ++ mark.0 = ap (λ (p : ℕ). drop p file) (sym at) ∙ mark.1 in
    none k (omega arith) (omega (arith, at, high, below)) (occurs file (to_be_bytes w64 owner.mark) mark.0 place size k e (omega (arith, at, high, inside)) within)

-- no room for a group from a place on
pub none_at_end : (owner : Owner) (file : List ℕ) (from until : ℕ) → length file < from + 28 → NoGroupIn owner file from until
none_at_end owner file from until few q low high b =
    short_has_none owner (drop q file) (omega (arith, few, low, length-drop q file)) b

pub none_joined : (owner : Owner) (file : List ℕ) (from middle until : ℕ) → NoGroupIn owner file from middle → NoGroupIn owner file middle until → NoGroupIn owner file from until
none_joined owner file from middle until first second q low high b = elim (cases_lt q middle) [
  | inl below ↦ first q low below b
  | inr above ↦ second q above high b
]

-- a window without a mark
pub none_in_window : (owner : Owner) (file : List ℕ) (place size step : ℕ) → size + place ≤ length file → (size < 28 → size + place ≡ length file)
    → (8 ≤ size → step + 7 ≡ size) → FindsNeedle (take size (drop place file)) (to_be_bytes w64 owner.mark) 0 None → NoGroupIn owner file place (place + step)
none_in_window owner file place size step within at_end many none = elim (cases_lt size 8) [
  | inl few ↦ none_at_end owner file place (place + step) (omega (arith, few, at_end (omega (arith, few))))
  | inr enough ↦
      let window = take size (drop place file) in
      let long : length window ≡ size = length-take-le size (drop place file) (omega (arith, within, length-drop place file)) in
      let fits : step + 7 ≡ size = many enough in
      none_up_to owner file place size step (length window + 1) within (omega (arith, fits)) (omega (arith, long, fits)) none
]

-- one place more without a group
pub none_one_more : (owner : Owner) (file : List ℕ) (from place : ℕ) → NoGroupIn owner file from place → (BeginsWithGroup owner (drop place file) → ⊥) → NoGroupIn owner file from (place + 1)
none_one_more owner file from place first here q low high b = elim (cases_lt q place) [
  | inl below ↦ first q low below b
  | inr above ↦
      let at : q ≡ place = omega (arith, above, high) in
      here (subst (λ (k : ℕ). BeginsWithGroup owner (drop k file)) at b)
]

-- ---- what the search does

pub found_of : (owner : Owner) (bytes group : List ℕ) (text : ℕ) (found : Option (ℕ × ℕ)) → SaysText owner (take 20 bytes) text → group ≡ take (28 + text) bytes
    → MatchOption found (IsNoGroup owner group) (λ r. IsGroupOf owner group r.0 r.1) → FindsNextGroup owner bytes group found
found_of owner bytes group text None says e none = λ b. whole_has_none owner bytes text says (subst (IsNoGroup owner) e none) b
found_of owner bytes group text (Some r) says e is = finds_group owner bytes group (28 + text) r.0 r.1 e is

pub fits_of : (owner : Owner) (more : ℕ) (group : List ℕ) (text : ℕ) (found : Option (ℕ × ℕ)) → length group ≡ 28 + text → text ≤ more
    → MatchOption found (IsNoGroup owner group) (λ r. IsGroupOf owner group r.0 r.1) → FitsNextGroup (more + 28) group found
fits_of owner more group text None size few none = tt
fits_of owner more group text (Some r) size few is =
    record { some = omega (arith, size); within = omega (arith, size, few); numbered = omega (arith, is.counted, is.is_group.numbered) }

pub judged_found : (owner : Owner) (file group : List ℕ) (place : ℕ) (r : ℕ × ℕ) → FindsNextGroup owner (drop place file) group (Some r) → JudgesPlace owner file place place true
judged_found owner file group place r finds = (refl, finds_begins owner (drop place file) group r.0 r.1 finds)

-- The search of a window in which a mark stands first at this step.
pub searched_mark : (owner : Owner) (file : List ℕ) (place size step next : ℕ) (is_found : Bool) → size + place ≤ length file
    → FindsNeedle (take size (drop place file)) (to_be_bytes w64 owner.mark) 0 (Some step) → JudgesPlace owner file (place + step) next is_found → SearchesTo owner file place next is_found
searched_mark owner file place size step next true within finds judged =
    let window = take size (drop place file) in
    let long : length window ≡ size = length-take-le size (drop place file) (omega (arith, within, length-drop place file)) in
    let none = none_up_to owner file place size step step within (omega (arith, long, finds.1.fits)) (omega arith) finds.0.before in
    subst (λ (k : ℕ). IsFirstGroup owner file place k) (sym judged.0)
    (record { behind = omega arith; none = none; sound = judged.1 })
searched_mark owner file place size step next false within finds judged =
    let window = take size (drop place file) in
    let long : length window ≡ size = length-take-le size (drop place file) (omega (arith, within, length-drop place file)) in
    let none = none_up_to owner file place size step step within (omega (arith, long, finds.1.fits)) (omega arith) finds.0.before in
    subst (λ (k : ℕ). NoGroupIn owner file place k) (sym judged.0)
    (none_one_more owner file place (place + step) none judged.1)

-- One window more.
pub searched_on : (owner : Owner) (file : List ℕ) (from place next : ℕ) → from ≤ place → NoGroupIn owner file from place → SearchesTo owner file place next false → NoGroupIn owner file from next
searched_on owner file from place next behind first second = none_joined owner file from place next first second

pub searched_found : (owner : Owner) (file : List ℕ) (from place next : ℕ) → from ≤ place → NoGroupIn owner file from place → SearchesTo owner file place next true → FindsFirst owner file from (Some next)
searched_found owner file from place next behind first found =
    record {
      behind = omega (arith, behind, found.behind);
      none = none_joined owner file from place next first found.none;
      sound = found.sound;
    }

pub searched_all : (owner : Owner) (file : List ℕ) (from place : ℕ) → NoGroupIn owner file from place → length file ≤ place → FindsFirst owner file from None
searched_all owner file from place none end q low b = elim (cases_lt q place) [
  | inl below ↦ none q low below b
  | inr above ↦ short_has_none owner (drop q file) (omega (arith, above, end, length-drop q file)) b
]
