-- Bytes as functions put them together and take them apart.
use lib.Pointwise.{pointwise}
use Rattle.std.proofs.Common.{◌≡◌, ℕ, ◌+◌, ◌-◌, ◌<◌, ◌≤◌, ◌^◌, Bool, true, false, nat_eq, List, [], ◌++◌, length, take, drop, get_or, Option, Some, None, MatchOption, refl, sym, ◌∙◌, ap, subst, arith, append_assoc, length-append, inl, inr}
use Rattle.std.proofs.lemmas.Bool.{cases_lt}
use Rattle.std.proofs.Math.Bool.{not, not-not}
use Rattle.std.specs.Int.{w32, w64, to_be_bytes, from_be_bytes}
use Rattle.std.proofs.lemmas.List.{drop_at, take-append-drop, length-drop, length-take-le, get_or-drop, take_all}
use Rattle.std.proofs.lemmas.Nat.{be_bytes_4, from_be_bytes-to_be_bytes_8}
use Rattle.std.specs.Cmp.Lexicographic.{same_text, other_text}
use Rattle.sqlite_disk.specs.Digest.{digest}
use Rattle.event_log.specs.Events.{events_bytes}
use Rattle.event_log.specs.Groups.{body_bytes, framed_bytes, group_bytes, IsGroupOf, IsNoGroup, IsBodyOf, IsNoBody, IsTextOf, SaysText}
use Rattle.event_log.specs.Logs.{header_text, header_bytes}
use Rattle.event_log.specs.declared.owner.Owner.{Owner}
use Rattle.event_log.specs.declared.groups.TheConstants.{MAX_GROUP}
use Rattle.event_log.proofs.Framing.{same_parts, four_split, events_one}

-- ---- made

-- three pieces, one after another
pub three_made : (a b c u v w x : List ℕ) → u ≡ [] → v ≡ u ++ a → w ≡ v ++ b → x ≡ w ++ c → x ≡ a ++ (b ++ c)
three_made a b c u v w x none first second third =
    third
    ∙ ap (λ (l : List ℕ). l ++ c) (second ∙ ap (λ (l : List ℕ). l ++ b) (first ∙ ap (λ (l : List ℕ). l ++ a) none))
    ∙ append_assoc a b c

-- a text, and the check of it under 0
pub header_made : (owner : Owner) (text shown header : List ℕ) (check : ℕ) → text ≡ header_text owner → check ≡ digest 0 shown → shown ≡ text
    → header ≡ text ++ to_be_bytes w64 check → header ≡ header_bytes owner
header_made owner text shown header check is checked same made =
    made
    ∙ ap (λ (l : List ℕ). l ++ to_be_bytes w64 check) is
    ∙ ap (λ (k : ℕ). header_text owner ++ to_be_bytes w64 k) (checked ∙ ap (digest 0) (same ∙ is))

-- a mark, a body, and the body's check
pub group_made : (owner : Owner) (number : ℕ) (events front all shown group : List ℕ) (check : ℕ)
    → front ≡ to_be_bytes w64 owner.mark ++ (to_be_bytes w64 number ++ to_be_bytes w32 (length events)) → all ≡ front ++ events
    → shown ≡ drop 8 all → check ≡ digest owner.key shown → group ≡ all ++ to_be_bytes w64 check → group ≡ framed_bytes owner number events
group_made owner number events front all shown group check head behind from checked made =
    let mark = to_be_bytes w64 owner.mark in
    let num = to_be_bytes w64 number in
    let count = to_be_bytes w32 (length events) in
    let body = body_bytes number events in
    let split : all ≡ mark ++ body =
    behind ∙ ap (λ (l : List ℕ). l ++ events) head ∙ append_assoc mark (num ++ count) events ∙ ap (λ (l : List ℕ). mark ++ l) (append_assoc num count events) in
    let is : shown ≡ body = from ∙ ap (λ (l : List ℕ). drop 8 l) split ∙ drop_at mark body 8 refl in
    made
    ∙ ap (λ (l : List ℕ). l ++ to_be_bytes w64 check) split
    ∙ ap (λ (k : ℕ). (mark ++ body) ++ to_be_bytes w64 k) (checked ∙ ap (digest owner.key) is)
    ∙ append_assoc mark body (to_be_bytes w64 (digest owner.key body))

-- ---- compared

pub compared_same : (a b : List ℕ) (is : Bool) → is ≡ not (pointwise nat_eq a b) → is ≡ false → a ≡ b
compared_same a b is told no_other =
    same_text a b (sym (sym (not-not (pointwise nat_eq a b)) ∙ ap not (sym told ∙ no_other)))

pub compared_other : (a b : List ℕ) (is : Bool) → is ≡ not (pointwise nat_eq a b) → is ≡ true → a ≡ b → ⊥
compared_other a b is told differ =
    other_text a b (sym (sym (not-not (pointwise nat_eq a b)) ∙ ap not (sym told ∙ differ)))

-- ---- taken apart

-- the head of a group: the mark, a number of eight bytes, and four bytes of a length
pub head_says : (owner : Owner) (head mark behind number four : List ℕ) (count : ℕ) → ((i : ℕ) → get_or head i 0 < 256) → length head ≡ 20
    → mark ≡ take 8 head → behind ≡ drop 8 head → number ≡ take 8 behind → four ≡ drop 8 behind
    → mark ≡ to_be_bytes w64 owner.mark → count ≡ from_be_bytes w32 four → count ≤ MAX_GROUP → SaysText owner head count
head_says owner head mark behind number four count bytes long front back second last same is few =
    let behind_long : length behind ≡ 12 = omega (arith, long, ap length back, length-drop 8 head) in
    let four_long : length four ≡ 4 = omega (arith, behind_long, ap length last, length-drop 8 behind) in
    let four_at : (i : ℕ) → get_or four i 0 ≡ get_or head (8 + (8 + i)) 0 =
    λ i. ap (λ (l : List ℕ). get_or l i 0) last ∙ get_or-drop 8 behind i 0 ∙ ap (λ (l : List ℕ). get_or l (8 + i) 0) back ∙ get_or-drop 8 head (8 + i) 0 in
    let fits : (i : ℕ) → get_or four i 0 < 256 = λ i. subst (λ (n : ℕ). n < 256) (sym (four_at i)) (bytes (8 + (8 + i))) in
    let split : behind ≡ number ++ four = sym (take-append-drop 8 behind) ∙ ap (λ (l : List ℕ). l ++ drop 8 behind) (sym second) ∙ ap (λ (l : List ℕ). number ++ l) (sym last) in
    record {
      number = number;
      eight = ap length second ∙ length-take-le 8 behind (omega (arith, behind_long));
      few = few;
      whole = sym (take-append-drop 8 head) ∙ ap (λ (l : List ℕ). l ++ drop 8 head) (sym front ∙ same)
          ∙ ap (λ (l : List ℕ). to_be_bytes w64 owner.mark ++ l) (sym back ∙ split ∙ ap (λ (l : List ℕ). number ++ l) (sym (be_bytes_4 four count four_long fits is)));
    }

-- ---- told

same_body : (owner : Owner) (number : ℕ) (events : List (List ℕ)) (bytes mark body check : List ℕ) → bytes ≡ mark ++ (body ++ check) → length mark ≡ 8 → length check ≡ 8
    → bytes ≡ group_bytes owner number events
    → (mark ≡ to_be_bytes w64 owner.mark) × (body ≡ body_bytes number (events_bytes events)) × (check ≡ to_be_bytes w64 (digest owner.key (body_bytes number (events_bytes events))))
same_body owner number events bytes mark body check split eight last e =
    let text = events_bytes events in
    let is = body_bytes number text in
    let digested = to_be_bytes w64 (digest owner.key is) in
    let behind = same_parts mark (to_be_bytes w64 owner.mark) (body ++ check) (is ++ digested) eight (sym split ∙ e) in
    let long : length body ≡ length is = omega (arith, last, ap length behind.1, length-append body check, length-append is digested) in
    let parts = same_parts body is check digested long behind.1 in
    (behind.0, parts.0, parts.1)

-- Another mark is that of no group of the owner.
pub no_mark : (owner : Owner) (bytes mark body check : List ℕ) → bytes ≡ mark ++ (body ++ check) → length mark ≡ 8 → length check ≡ 8
    → (mark ≡ to_be_bytes w64 owner.mark → ⊥) → IsNoGroup owner bytes
no_mark owner bytes mark body check split eight last other number events is e =
    other (same_body owner number events bytes mark body check split eight last e).0

-- So is another check.
pub no_check : (owner : Owner) (bytes mark body check : List ℕ) → bytes ≡ mark ++ (body ++ check) → length mark ≡ 8 → length check ≡ 8
    → (check ≡ to_be_bytes w64 (digest owner.key body) → ⊥) → IsNoGroup owner bytes
no_check owner bytes mark body check split eight last other number events is e =
    let same = same_body owner number events bytes mark body check split eight last e in
    other (same.2 ∙ ap (λ (l : List ℕ). to_be_bytes w64 (digest owner.key l)) (sym same.1))

-- Else they are a group if the body is one's.
pub group_by_body : (owner : Owner) (bytes mark body check : List ℕ) (r : Option (ℕ × ℕ)) → bytes ≡ mark ++ (body ++ check) → length mark ≡ 8 → length check ≡ 8
    → mark ≡ to_be_bytes w64 owner.mark → check ≡ to_be_bytes w64 (digest owner.key body)
    → MatchOption r (IsNoBody body) (λ r. IsBodyOf body r.0 r.1) → MatchOption r (IsNoGroup owner bytes) (λ r. IsGroupOf owner bytes r.0 r.1)
group_by_body owner bytes mark body check None split eight last marked checked none =
    λ number events is e. none number events is (same_body owner number events bytes mark body check split eight last e).1
group_by_body owner bytes mark body check (Some r) split eight last marked checked is =
    record {
      events = is.events;
      is_group = is.is_group;
      counted = is.counted;
      whole = split
          ∙ ap (λ (l : List ℕ). l ++ (body ++ check)) marked
          ∙ ap (λ (l : List ℕ). to_be_bytes w64 owner.mark ++ (body ++ l)) checked
          ∙ ap (λ (l : List ℕ). to_be_bytes w64 owner.mark ++ (l ++ to_be_bytes w64 (digest owner.key l))) is.whole;
    }

-- the parts of bytes that are split twice
pub split_twice : (bytes mark behind body check : List ℕ) (n : ℕ) → mark ≡ take 8 bytes → behind ≡ drop 8 bytes → body ≡ take n behind → check ≡ drop n behind
    → bytes ≡ mark ++ (body ++ check)
split_twice bytes mark behind body check n front back second last =
    sym (take-append-drop 8 bytes)
    ∙ ap (λ (l : List ℕ). l ++ drop 8 bytes) (sym front)
    ∙ ap (λ (l : List ℕ). mark ++ l) (sym back ∙ sym (take-append-drop n behind) ∙ ap (λ (l : List ℕ). l ++ drop n behind) (sym second) ∙ ap (λ (l : List ℕ). body ++ l) (sym last))

-- The number of the first event and the count of events don't fit.
pub numbers_overflow : (bytes text : List ℕ) (number count : ℕ) → number ≡ from_be_bytes w64 bytes → text ≡ drop 8 bytes
    → IsTextOf text count → 2 ^ 64 ≤ number + count → IsNoBody bytes
numbers_overflow bytes text number count from behind is over m events fits e =
    let size = to_be_bytes w32 (length (events_bytes events)) in
    let numbered : number ≡ m = from ∙ ap (from_be_bytes w64) e ∙ from_be_bytes-to_be_bytes_8 m (omega (arith, fits.numbered)) in
    let rest : text ≡ size ++ events_bytes events = behind ∙ ap (λ (l : List ℕ). drop 8 l) e ∙ drop_at (to_be_bytes w64 m) (size ++ events_bytes events) 8 refl in
    let lens = four_split (length (events_bytes is.events)) (length (events_bytes events)) (events_bytes is.events) (events_bytes events)
    (omega (arith, is.short)) (omega (arith, fits.short)) (sym is.whole ∙ rest) in
    let same = events_one is.events events (omega (arith, is.short)) (omega (arith, fits.short)) lens.1 in
    omega (arith, over, numbered, is.counted, ap length same, fits.numbered)

pub not_below : (n : ℕ) → (n < 2 ^ 64 → ⊥) → 2 ^ 64 ≤ n
not_below n over = elim (cases_lt n (2 ^ 64)) [
  | inl below ↦ absurd (over below)
  | inr above ↦ above
]

-- the rest of what is shown
pub rest_shown : (shown all : List ℕ) (n : ℕ) → shown ≡ all → take (length shown - n) (drop n shown) ≡ drop n all
rest_shown shown all n same =
    take_all (length shown - n) (drop n shown) (omega (arith, length-drop n shown)) ∙ ap (λ (l : List ℕ). drop n l) same
