-- Operations keep what a state is.
use Rattle.std.proofs.Common.{◌≡◌, ℕ, zero, suc, ◌+◌, ◌-◌, ◌%◌, ◌≤◌, ◌<◌, Bool, true, false, cond, List, [], ◌∷◌, ◌++◌}
use Rattle.std.proofs.Common.{length, map, take, drop, get_or, set, Option, Some, None, refl, sym, ap, subst, ◌∙◌}
use Rattle.std.proofs.Common.{arith, inl, inr, eq-eqb}
use Rattle.std.specs.Prelude.{◌==◌, All, position, is_some, nat_lt, remove}
use Rattle.std.proofs.lemmas.Bool.{cases_eq, ltb-true, ltb-false, eqb-true, ne_eqb}
use Rattle.std.proofs.lemmas.List.{length_push, length-map, map-append, get_or-set_same, get_or-set_other}
use Rattle.std.proofs.lemmas.List.Edits.{length-remove}
use Rattle.std.proofs.lemmas.List.Elements.{All-nil, All-push, All-append, All-take, All-drop, All-weaker, All-get_or}
use Rattle.std.proofs.lemmas.List.Quantifiers.{all_pairs_push, all_pairs_remove}
use Rattle.tuple_tree.specs.Items.{none}
use Rattle.tuple_tree.specs.Values.{TupleTree, TemplateTree, IsTuple}
use Rattle.tuple_codec.specs.Operations.{Operation, out, rdp, inp, cas, rd_all, in_all, upgrade, IsOperation}
use Rattle.tuple_codec.specs.Operations.{is_read_only}
use Rattle.template_match.specs.Tests.{is_match}
use Rattle.space.specs.Applying.{Contents, has_room, most_tuples, refuses, without_first, without_firsts, first_match}
use Rattle.space.specs.Applying.{with_newest, served_after, tuples_after}
use Rattle.space.specs.Births.{BornTuple, SpaceState, empty_in, tuples_of, page_count, has_page_room, first_passing}
use Rattle.space.specs.Births.{birth_of, with_birth, with_tuple, without_match, without_matches, upgraded, served_state}
use Rattle.space.specs.Births.{state_after, IsState, IsNextBirth}
use Rattle.space.specs.Counted.{PagesAreCounted}
use Rattle.space.specs.declared.version.Version.{Version}
use Rattle.space.specs.declared.version.Version.TheVariants as versions
use Rattle.space.proofs.Passing.{first_passing-least, first_passing-agree}
use Rattle.space.proofs.Listing.{removed_at, removed_none, position-first, without_first-map}
use Rattle.space.proofs.Paging as paging
use Rattle.space.proofs.Paging.{page_count_push, page_count-remove}

-- The pages hold 16,384 tuples, more than each version allows.
pub most_fit : (v : Version) → most_tuples v < 16384
most_fit versions.One = omega arith
most_fit versions.Two = omega arith

pub IsState-empty : (v : Version) → IsState (empty_in v)
IsState-empty v = record {
  rising = λ i j d l m. absurd (omega arith);
  below_next = All-nil _;
  pages = λ page. omega arith;
  count = omega arith;
  tuples = All-nil _;
}

pub IsNextBirth-birth_of : (s : SpaceState) → length s.entries < 16384 → IsNextBirth s (birth_of s)
IsNextBirth-birth_of s l =
    let h = paging.has_room s.entries 256 s.next (omega arith) (omega arith) in
    let not_below = h.not_below in
    let soon = h.soon in
    record {
      not_below = omega arith;
      soon = omega arith;
      room = h.room;
      least = λ n from below. ltb-false (page_count s.entries (n % 256)) 64 (first_passing-least (has_page_room s.entries) 256 s.next n from below);
    }

pub IsState-with_birth : (s : SpaceState) (t : TupleTree) → IsState s → IsTuple t → length s.entries < most_tuples s.version → IsState (with_birth s t)
IsState-with_birth s t h valid l =
    let b = birth_of s in
    let fit = most_fit s.version in
    let n = IsNextBirth-birth_of s (omega arith) in
    let above : s.next ≤ b = n.not_below in
    record {
      rising = all_pairs_push (λ e f. e.0 < f.0) s.entries (b, t) h.rising (λ k d m. let x = All-get_or (λ e. e.0 < s.next) s.entries k d m h.below_next in omega arith);
      below_next = All-push (λ e. e.0 < b + 1) s.entries (b, t) (All-weaker (λ e. e.0 < s.next) (λ e. e.0 < b + 1) (λ e m. omega arith) s.entries h.below_next) (omega arith);
      pages = λ page. rw (page_count_push s.entries (b, t) page) (on_page page);
      count = rw (length_push s.entries (b, t)) (omega arith);
      tuples = All-push (λ e. IsTuple e.1) s.entries (b, t) h.tuples valid;
    }
  where
    on_page : (page : ℕ) → page_count s.entries page + cond (birth_of s % 256 == page) 1 0 ≤ 64
    on_page page = go (birth_of s % 256 == page) refl
      where
        go : (b : Bool) → (birth_of s % 256 == page) ≡ b → page_count s.entries page + cond b 1 0 ≤ 64
        go true e =
            let same : birth_of s % 256 ≡ page = eqb-true (birth_of s % 256) page e in
            let fit = most_fit s.version in
            let room = subst (λ q. page_count s.entries q < 64) same (IsNextBirth-birth_of s (omega arith)).room in
            omega arith
        go false e = let most = h.pages page in omega arith

All-remove : {X : Type 0} (P : X → Type 0) (xs : List X) (i : ℕ) → All P xs → All P (remove xs i)
All-remove P xs i h = All-append P (take i xs) (drop (suc i) xs) (All-take P i xs h) (All-drop P (suc i) xs h)

pub IsState-remove : (s : SpaceState) (i : ℕ) → IsState s → i < length s.entries → IsState (record s { entries = remove s.entries i })
IsState-remove s i h l = record {
  rising = all_pairs_remove (λ e f. e.0 < f.0) s.entries i l h.rising;
  below_next = All-remove (λ e. e.0 < s.next) s.entries i h.below_next;
  pages = λ page. let most = h.pages page in omega (arith, page_count-remove s.entries i (get_or s.entries i (0, none)) page l);
  count = let most = h.count in omega (arith, length-remove s.entries i l);
  tuples = All-remove (λ e. IsTuple e.1) s.entries i h.tuples;
}

pub IsState-without_match : (s : SpaceState) (p : TemplateTree) → IsState s → IsState (without_match s p)
IsState-without_match s p h = go (position (λ e. is_match p e.1) s.entries) refl
  where
    go : (o : Option ℕ) → position (λ e. is_match p e.1) s.entries ≡ o → IsState (without_match s p)
    go None e = subst (λ es. IsState (record s { entries = es })) (sym (removed_none (λ e. is_match p e.1) s.entries e)) h
    go (Some i) e =
        subst (λ es. IsState (record s { entries = es })) (sym (removed_at (λ e. is_match p e.1) s.entries i e))
        (IsState-remove s i h (position-first (λ e. is_match p e.1) s.entries i e).1)

pub IsState-without_matches : (n : ℕ) (s : SpaceState) (p : TemplateTree) → IsState s → IsState (without_matches s n p)
IsState-without_matches zero s p h = h
IsState-without_matches (suc n) s p h = IsState-without_matches n (without_match s p) p (IsState-without_match s p h)

-- Version 2 allows as many tuples as each version, and more.
most_rises : (v : Version) → most_tuples v ≤ 12288
most_rises versions.One = omega arith
most_rises versions.Two = omega arith

pub IsState-upgraded : (s : SpaceState) → IsState s → IsState (upgraded s)
IsState-upgraded s h = record {
  rising = h.rising;
  below_next = h.below_next;
  pages = h.pages;
  count = let few = h.count in omega (arith, few, most_rises s.version);
  tuples = h.tuples;
}

length-tuples_of : (s : SpaceState) → length (tuples_of s).tuples ≡ length s.entries
length-tuples_of s = length-map s.entries (λ e. e.1)

IsState-with_tuple : (s : SpaceState) (t : TupleTree) → IsState s → IsTuple t → IsState (with_tuple s t)
IsState-with_tuple s t h valid = go (has_room (tuples_of s)) refl
  where
    go : (b : Bool) → has_room (tuples_of s) ≡ b → IsState (cond b (with_birth s t) s)
    go true e = let l = ltb-true (length (tuples_of s).tuples) (most_tuples s.version) e in IsState-with_birth s t h valid (omega (arith, length-tuples_of s))
    go false e = h

IsState-served_state : (s : SpaceState) (o : Operation) → IsState s → IsOperation o → IsState (served_state s o)
IsState-served_state s (out t) h valid = IsState-with_tuple s t h valid
IsState-served_state s (rdp p) h valid = h
IsState-served_state s (inp p) h valid = IsState-without_match s p h
IsState-served_state s (cas p t) h valid = go (is_some (first_match p (tuples_of s)))
  where
    go : (b : Bool) → IsState (cond b s (with_tuple s t))
    go true = h
    go false = IsState-with_tuple s t h valid.1
IsState-served_state s (rd_all n p) h valid = h
IsState-served_state s (in_all n p) h valid = IsState-without_matches n s p h
IsState-served_state s upgrade h valid = IsState-upgraded s h

pub IsState-state_after : (s : SpaceState) (client : ℕ) (o : Operation) → IsState s → IsOperation o → IsState (state_after s client o)
IsState-state_after s client o h valid = go (refuses s.version client o)
  where
    go : (b : Bool) → IsState (cond b s (served_state s o))
    go true = h
    go false = IsState-served_state s o h valid

tuples_of-with_tuple : (s : SpaceState) (t : TupleTree) → tuples_of (with_tuple s t) ≡ with_newest (tuples_of s) t
tuples_of-with_tuple s t = go (has_room (tuples_of s))
  where
    go : (b : Bool) → tuples_of (cond b (with_birth s t) s) ≡ cond b (record (tuples_of s) { tuples = (tuples_of s).tuples ++ t ∷ [] }) (tuples_of s)
    go true = ap (λ ts. record (tuples_of s) { tuples = ts }) (map-append (λ e. e.1) s.entries ((birth_of s, t) ∷ []))
    go false = refl

without_firsts-map : (n : ℕ) (p : TemplateTree) (es : List BornTuple) → map (λ e. e.1) (without_firsts n (λ (e : BornTuple). is_match p e.1) es) ≡ without_firsts n (is_match p) (map (λ e. e.1) es)
without_firsts-map zero p es = refl
without_firsts-map (suc n) p es = without_firsts-map n p (without_first (λ e. is_match p e.1) es) ∙ ap (without_firsts n (is_match p)) (without_first-map (λ (e : BornTuple). e.1) (is_match p) es)

tuples_of-served_state : (s : SpaceState) (o : Operation) → tuples_of (served_state s o) ≡ served_after (tuples_of s) o
tuples_of-served_state s (out t) = tuples_of-with_tuple s t
tuples_of-served_state s (rdp p) = refl
tuples_of-served_state s (inp p) = ap (λ ts. record (tuples_of s) { tuples = ts }) (without_first-map (λ e. e.1) (is_match p) s.entries)
tuples_of-served_state s (cas p t) = go (is_some (first_match p (tuples_of s)))
  where
    go : (b : Bool) → tuples_of (cond b s (with_tuple s t)) ≡ cond b (tuples_of s) (with_newest (tuples_of s) t)
    go true = refl
    go false = tuples_of-with_tuple s t
tuples_of-served_state s (rd_all n p) = refl
tuples_of-served_state s (in_all n p) = ap (λ ts. record (tuples_of s) { tuples = ts }) (without_firsts-map n p s.entries)
tuples_of-served_state s upgrade = refl

pub tuples_of-state_after : (s : SpaceState) (client : ℕ) (o : Operation) → tuples_of (state_after s client o) ≡ tuples_after (tuples_of s) client o
tuples_of-state_after s client o = go (refuses s.version client o)
  where
    go : (b : Bool) → tuples_of (cond b s (served_state s o)) ≡ cond b (tuples_of s) (served_after (tuples_of s) o)
    go true = refl
    go false = tuples_of-served_state s o

-- What only reads leaves the tuples as they are.
pub read_same : (ts : Contents) (client : ℕ) (o : Operation) → is_read_only o ≡ true → tuples_after ts client o ≡ ts
read_same ts client o h = go (refuses ts.version client o)
  where
    served : (o : Operation) → is_read_only o ≡ true → served_after ts o ≡ ts
    served (out t) h = absurd cc
    served (rdp p) h = refl
    served (inp p) h = absurd cc
    served (cas p t) h = absurd cc
    served (rd_all n p) h = refl
    served (in_all n p) h = absurd cc
    served upgrade h = absurd cc

    go : (b : Bool) → cond b ts (served_after ts o) ≡ ts
    go true = refl
    go false = served o h

-- The table of how many tuples lie on each page.
module _ (version : Version) (es : List BornTuple) (next : ℕ) (counts : List ℕ) (h : PagesAreCounted version es next counts) where
  pub birth_by_counts : (s : SpaceState) → s ≡ record { version = version; entries = es; next = next } → first_passing (λ birth. nat_lt (get_or counts (birth % 256) 0) 64) 256 next ≡ birth_of s
  birth_by_counts s e =
      first_passing-agree (λ birth. nat_lt (get_or counts (birth % 256) 0) 64) (has_page_room es) (λ birth. ap (λ n. nat_lt n 64) (h.counted (birth % 256) (omega arith))) 256 next
      ∙ ap birth_of (sym e)

  pub counted_push : (b : ℕ) (t : TupleTree) (new : List ℕ) → length counts ≡ 256 → new ≡ set counts (b % 256) (get_or counts (b % 256) 0 + 1)
      → (page : ℕ) → page < 256 → get_or new page 0 ≡ page_count (es ++ (b, t) ∷ []) page
  counted_push b t new long e page l =
      let q : ℕ = b % 256 in
      let old = h.counted page l in
      let pushed : page_count (es ++ (b, t) ∷ []) page ≡ page_count es page + cond {A = ℕ} (q == page) 1 0 = page_count_push es (b, t) page in
      elim (cases_eq page q) [
        | inl same ↦
            let w : get_or new page 0 ≡ get_or counts q 0 + 1 = rw (e, same) (get_or-set_same counts q (get_or counts q 0 + 1) 0 (omega arith)) in
            let one : cond {A = ℕ} (q == page) 1 0 ≡ 1 = ap (λ (x : Bool). cond {A = ℕ} x 1 0) (eq-eqb q page (sym same)) in
            let there : get_or counts q 0 ≡ page_count es page = subst (λ j. get_or counts j 0 ≡ page_count es page) same old in
            omega arith
        | inr other ↦
            let w : get_or new page 0 ≡ get_or counts page 0 = rw e (get_or-set_other counts q page (get_or counts q 0 + 1) 0 other) in
            let zero : cond {A = ℕ} (q == page) 1 0 ≡ 0 = ap (λ (x : Bool). cond {A = ℕ} x 1 0) (ne_eqb q page (λ f. other (sym f))) in
            omega arith
      ]

  removed_count : (i b : ℕ) (t : TupleTree) (page : ℕ) → i < length es → (b, t) ≡ get_or es i (b, t)
      → page_count (remove es i) page + cond {A = ℕ} (b % 256 == page) 1 0 ≡ page_count es page
  removed_count i b t page within is =
      subst (λ (x : BornTuple). page_count (remove es i) page + cond {A = ℕ} (x.0 % 256 == page) 1 0 ≡ page_count es page) (sym is) (page_count-remove es i (b, t) page within)

  pub counted_remove : (i : ℕ) (b : ℕ) (t : TupleTree) (new : List ℕ) → length counts ≡ 256 → i < length es → (b, t) ≡ get_or es i (b, t)
      → new ≡ set counts (b % 256) (get_or counts (b % 256) 0 - 1)
      → (page : ℕ) → page < 256 → get_or new page 0 ≡ page_count (remove es i) page
  counted_remove i b t new long within is e page l =
      let q : ℕ = b % 256 in
      let old = h.counted page l in
      let removed : page_count (remove es i) page + cond {A = ℕ} (q == page) 1 0 ≡ page_count es page = removed_count i b t page within is in
      elim (cases_eq page q) [
        | inl same ↦
            let w : get_or new page 0 ≡ get_or counts q 0 - 1 = rw (e, same) (get_or-set_same counts q (get_or counts q 0 - 1) 0 (omega arith)) in
            let one : cond {A = ℕ} (q == page) 1 0 ≡ 1 = ap (λ (x : Bool). cond {A = ℕ} x 1 0) (eq-eqb q page (sym same)) in
            let there : get_or counts q 0 ≡ page_count es page = subst (λ j. get_or counts j 0 ≡ page_count es page) same old in
            omega arith
        | inr other ↦
            let w : get_or new page 0 ≡ get_or counts page 0 = rw e (get_or-set_other counts q page (get_or counts q 0 - 1) 0 other) in
            let zero : cond {A = ℕ} (q == page) 1 0 ≡ 0 = ap (λ (x : Bool). cond {A = ℕ} x 1 0) (ne_eqb q page (λ f. other (sym f))) in
            omega arith
      ]

  -- the removed one was counted
  pub counted_one : (i : ℕ) (b : ℕ) (t : TupleTree) → i < length es → (b, t) ≡ get_or es i (b, t) → 1 ≤ get_or counts (b % 256) 0
  counted_one i b t within is =
      let old = h.counted (b % 256) (omega arith) in
      let removed : page_count (remove es i) (b % 256) + cond {A = ℕ} (b % 256 == b % 256) 1 0 ≡ page_count es (b % 256) = removed_count i b t (b % 256) within is in
      let one : cond {A = ℕ} (b % 256 == b % 256) 1 0 ≡ 1 = ap (λ (x : Bool). cond {A = ℕ} x 1 0) (eq-eqb (b % 256) (b % 256) refl) in
      omega arith

  pub birth_soon : (b : ℕ) → b ≡ first_passing (λ birth. nat_lt (get_or counts (birth % 256) 0) 64) 256 next → length es < most_tuples version → b < next + 256
  birth_soon b e l =
      let s : SpaceState = record { version = version; entries = es; next = next } in
      subst (λ n. n < next + 256) (sym (e ∙ birth_by_counts s refl)) (IsNextBirth-birth_of s (let fit = most_fit version in omega arith)).soon

  pub birth_from : (b : ℕ) → b ≡ first_passing (λ birth. nat_lt (get_or counts (birth % 256) 0) 64) 256 next → length es < most_tuples version → next ≤ b
  birth_from b e l =
      let s : SpaceState = record { version = version; entries = es; next = next } in
      subst (λ n. next ≤ n) (sym (e ∙ birth_by_counts s refl)) (IsNextBirth-birth_of s (let fit = most_fit version in omega arith)).not_below

  pub IsCounted-push : (b : ℕ) (t : TupleTree) (items : List BornTuple) → length counts ≡ 256 → IsTuple t → length es < most_tuples version
      → b ≡ first_passing (λ birth. nat_lt (get_or counts (birth % 256) 0) 64) 256 next → items ≡ es ++ (b, t) ∷ []
      → PagesAreCounted version items (b + 1) (set counts (b % 256) (get_or counts (b % 256) 0 + 1))
  IsCounted-push b t items long valid l e is =
      let s : SpaceState = record { version = version; entries = es; next = next } in
      let kept = subst (λ n. IsState (record { version = version; entries = es ++ (n, t) ∷ []; next = n + 1 })) (sym (e ∙ birth_by_counts s refl)) (IsState-with_birth s t h.state valid l) in
      subst (λ xs. PagesAreCounted version xs (b + 1) (set counts (b % 256) (get_or counts (b % 256) 0 + 1))) (sym is)
      (record { state = kept; counted = counted_push b t (set counts (b % 256) (get_or counts (b % 256) 0 + 1)) long refl })

  pub IsCounted-remove : (i b : ℕ) (t : TupleTree) (items : List BornTuple) → length counts ≡ 256 → i < length es → (b, t) ≡ get_or es i (b, t) → items ≡ remove es i
      → PagesAreCounted version items next (set counts (b % 256) (get_or counts (b % 256) 0 - 1))
  IsCounted-remove i b t items long within is removed =
      let s : SpaceState = record { version = version; entries = es; next = next } in
      subst (λ xs. PagesAreCounted version xs next (set counts (b % 256) (get_or counts (b % 256) 0 - 1))) (sym removed)
      (record { state = IsState-remove s i h.state within; counted = counted_remove i b t (set counts (b % 256) (get_or counts (b % 256) 0 - 1)) long within is refl })
