-- An operation changes no page but those of the tuples that it may add or take.
use Rattle.std.proofs.Common.{◌≡◌, ◌≢◌, ◌⊎◌, inl, inr, ℕ, ◌+◌, ◌%◌, ◌≤◌, ◌<◌, arith, Bool, true, false, not, cond, List}
use Rattle.std.proofs.Common.{[], ◌∷◌, ◌++◌, length, take, get_or, Result, Ok, Err, refl, sym, ap, subst, ◌∙◌, eq-eqb}
use Rattle.std.proofs.Common.{eqb-true, append-nil}
use Rattle.std.specs.Prelude.{All, Contains, OnOk, OnErr, map, is_some, ◌==◌}
use Rattle.std.proofs.lemmas.Bool.{or_parts, or_from, not_from_true}
use Rattle.std.proofs.lemmas.List.{length-append, take-append-le}
use Rattle.std.proofs.lemmas.List.Elements.{All-head}
use Rattle.tuple_tree.specs.Values.{TupleTree}
use Rattle.tuple_codec.specs.Operations.{Operation, out, rdp, inp, cas, rd_all, in_all, upgrade}
use Rattle.space.specs.Applying.{refuses, has_room, first_match}
use Rattle.space.specs.Births.{BornTuple, SpaceState, birth_of, page_count, tuples_of, with_birth, with_tuple}
use Rattle.space.specs.Births.{served_state, state_after}
use Rattle.space.specs.Pages.{entries_text, on_page, tuple_page_text, text_of_oldest}
use Rattle.space.specs.Marking.{MarksChanged}
use Rattle.space.specs.Watching.{WatchedState, is_changed, written_on, is_touched, written_text, served_births}
use Rattle.space.specs.Watching.{touched_births, served_changes, changed_births, IsWatched, KeepsWritten, MayChange}
use Rattle.space.specs.Watching.{TouchesChanges, TouchesOnly}
use Rattle.space.proofs.Changing.{page_with_tuple, page_swapped, one_of_all, on_or_off, unmarked, marked}
use Rattle.space.proofs.Taking.{page_kept}
use Rattle.space.proofs.Texts.{on_page-append, length-on_page, oldest_are_all}

-- ---- pages that keep their tuples

served_page : (s : SpaceState) (o : Operation) (page : ℕ) → All (λ b. b % 256 ≢ page) (served_births s o) → on_page page (served_state s o).entries ≡ on_page page s.entries
served_page s (out t) page h = page_with_tuple s page (All-head (λ b. b % 256 ≢ page) (birth_of s) [] h) t
served_page s (rdp p) page h = refl
served_page s (inp p) page h = page_kept p page 1 s h
served_page s (cas p t) page h = page_swapped s page (All-head (λ b. b % 256 ≢ page) (birth_of s) [] h) p t
served_page s (rd_all n p) page h = refl
served_page s (in_all n p) page h = page_kept p page n s h
served_page s upgrade page h = refl

page_same : (s : SpaceState) (client : ℕ) (o : Operation) (page : ℕ) → All (λ b. b % 256 ≢ page) (touched_births s client o) → on_page page (state_after s client o).entries ≡ on_page page s.entries
page_same s client o page h = go (refuses s.version client o) h
  where
    go : (b : Bool) → All (λ b. b % 256 ≢ page) (cond b [] (served_births s o)) → on_page page (cond b s (served_state s o)).entries ≡ on_page page s.entries
    go true h = refl
    go false h = served_page s o page h

-- ---- pages that get new tuples behind the others

record IsGrown (page : ℕ) (s s' : SpaceState) : Type 0 where
  pub version : s'.version ≡ s.version
  pub more : List BornTuple
  pub all : on_page page s'.entries ≡ on_page page s.entries ++ more

not_grown : (page : ℕ) (s s' : SpaceState) → s'.version ≡ s.version → on_page page s'.entries ≡ on_page page s.entries → IsGrown page s s'
not_grown page s s' version same = record { version = version; more = []; all = same ∙ sym (append-nil (on_page page s.entries)) }

grown_by_one : (s : SpaceState) (t : TupleTree) (page : ℕ) → IsGrown page s (with_tuple s t)
grown_by_one s t page = go (has_room (tuples_of s))
  where
    go : (b : Bool) → IsGrown page s (cond b (with_birth s t) s)
    go true = record { version = refl; more = on_page page ((birth_of s, t) ∷ []); all = on_page-append page s.entries ((birth_of s, t) ∷ []) }
    go false = not_grown page s s refl refl

served_grown : (s : SpaceState) (o : Operation) (page : ℕ) → page < 256 → All (λ b. b % 256 ≢ page) (served_changes s o) → IsGrown page s (served_state s o)
served_grown s (out t) page l h = grown_by_one s t page
served_grown s (rdp p) page l h = not_grown page s s refl refl
served_grown s (inp p) page l h = not_grown page s (served_state s (inp p)) refl (page_kept p page 1 s h)
served_grown s (cas p t) page l h = go (is_some (first_match p (tuples_of s)))
  where
    go : (b : Bool) → IsGrown page s (cond b s (with_tuple s t))
    go true = not_grown page s s refl refl
    go false = grown_by_one s t page
served_grown s (rd_all n p) page l h = not_grown page s s refl refl
served_grown s (in_all n p) page l h = not_grown page s (served_state s (in_all n p)) refl (page_kept p page n s h)
served_grown s upgrade page l h = absurd (one_of_all page 256 l (omega arith) h)

grown : (s : SpaceState) (client : ℕ) (o : Operation) (page : ℕ) → page < 256 → All (λ b. b % 256 ≢ page) (changed_births s client o) → IsGrown page s (state_after s client o)
grown s client o page l h = go (refuses s.version client o) h
  where
    go : (b : Bool) → All (λ b. b % 256 ≢ page) (cond b [] (served_changes s o)) → IsGrown page s (cond b s (served_state s o))
    go true h = not_grown page s s refl refl
    go false h = served_grown s o page l h

-- ---- marked pages

-- A refused operation changes none, and another changes the page that it names.
module _ (s : SpaceState) (client : ℕ) (o : Operation) where
  pub refused_births : refuses s.version client o ≡ true → [] ≡ changed_births s client o
  refused_births e = sym (ap (λ b. cond b [] (served_changes s o)) e)

  pub births_served : refuses s.version client o ≡ false → served_changes s o ≡ changed_births s client o
  births_served e = sym (ap (λ b. cond b [] (served_changes s o)) e)

no_page : (page : ℕ) (X : Type 0) → Contains [] page → X
no_page page X h = let l = h.1 in absurd (omega arith)

served_among : (s : SpaceState) (o : Operation) (page : ℕ) → Contains (map (λ b. b % 256) (served_changes s o)) page → Contains (map (λ b. b % 256) (served_births s o)) page
served_among s (out t) page h = no_page page _ h
served_among s (rdp p) page h = h
served_among s (inp p) page h = h
served_among s (cas p t) page h = no_page page _ h
served_among s (rd_all n p) page h = h
served_among s (in_all n p) page h = h
served_among s upgrade page h = h

-- The pages of changes are among those that are touched.
among_touched : (s : SpaceState) (client : ℕ) (o : Operation) (page : ℕ) → Contains (map (λ b. b % 256) (changed_births s client o)) page → MayChange s client o page
among_touched s client o page h = go (refuses s.version client o) h
  where
    go : (b : Bool) → Contains (map (λ b. b % 256) (cond b [] (served_changes s o))) page → Contains (map (λ b. b % 256) (cond b [] (served_births s o))) page
    go true h = h
    go false h = served_among s o page h

-- ---- touched pages

-- A page that isn't touched isn't changed, and has as many tuples as when it was written.
untouched : (w : WatchedState) (page : ℕ) → is_touched w page ≡ false → (is_changed w page ≡ false) × (written_on w page ≡ page_count w.state.entries page)
untouched w page h =
    let parts = or_parts (is_changed w page) (not (written_on w page == page_count w.state.entries page)) h in
    (parts.0, eqb-true (written_on w page) (page_count w.state.entries page) (go (written_on w page == page_count w.state.entries page) parts.1))
  where
    go : (b : Bool) → not b ≡ false → b ≡ true
    go true h = refl
    go false h = absurd (let bad : true ≡ false = h in cc)

pub is_untouched : (w : WatchedState) (page : ℕ) → is_changed w page ≡ false → written_on w page ≡ page_count w.state.entries page → is_touched w page ≡ false
is_untouched w page h e =
    or_from (is_changed w page) (not (written_on w page == page_count w.state.entries page)) h
    (not_from_true (written_on w page == page_count w.state.entries page) (eq-eqb (written_on w page) (page_count w.state.entries page) e))

-- The text of an untouched page is the one that was written.
pub written_whole : (w : WatchedState) (page : ℕ) → is_touched w page ≡ false → (is_changed w page ≡ false) × (written_text w page ≡ tuple_page_text w.state page)
written_whole w page h = let u = untouched w page h in (u.0, oldest_are_all w.state page (written_on w page) u.1)

module _
    (old new : WatchedState) (client : ℕ) (o : Operation) (marks : MarksChanged old.state client o old.changed new.changed)
    (same : new.written ≡ old.written) (long : length old.changed ≡ 256) (was : IsWatched old)
  where
    as_written : (page : ℕ) → written_on new page ≡ written_on old page
    as_written page = ap (λ (xs : List ℕ). get_or xs page 0) same

    after : {T E : Type 0} (r : Result T E) → OnOk r (new.state ≡ state_after old.state client o) → OnErr r (new.state ≡ old.state) → (page : ℕ) → page < 256 → is_changed new page ≡ false
        → (is_changed old page ≡ false) × IsGrown page old.state new.state
    after (Ok x) ok err page l none =
        let h = unmarked (changed_births old.state client o) old.changed page long l (ap (λ (xs : List Bool). get_or xs page false) (sym marks) ∙ none) in
        (h.0, subst (λ (s : SpaceState). IsGrown page old.state s) (sym ok) (grown old.state client o page l h.1))
    after (Err e) ok err page l none =
        let h = unmarked (changed_births old.state client o) old.changed page long l (ap (λ (xs : List Bool). get_or xs page false) (sym marks) ∙ none) in
        (h.0, subst (λ (s : SpaceState). IsGrown page old.state s) (sym err) (not_grown page old.state old.state refl refl))

    count_after : (page : ℕ) (g : IsGrown page old.state new.state) → page_count new.state.entries page ≡ page_count old.state.entries page + length g.more
    count_after page g =
        sym (length-on_page page new.state.entries) ∙ ap length g.all ∙ length-append (on_page page old.state.entries) g.more
        ∙ ap (λ n. n + length g.more) (length-on_page page old.state.entries)

    pub stays_watched : {T E : Type 0} (r : Result T E) → OnOk r (new.state ≡ state_after old.state client o) → OnErr r (new.state ≡ old.state) → IsWatched new
    stays_watched r ok err page l none =
        let a = after r ok err page l none in
        omega (arith, as_written page, was page l a.0, count_after page a.1)

    pub keeps_written : {T E : Type 0} (r : Result T E) → OnOk r (new.state ≡ state_after old.state client o) → OnErr r (new.state ≡ old.state) → KeepsWritten old new
    keeps_written r ok err page l none =
        let a = after r ok err page l none in
        let xs : List BornTuple = on_page page old.state.entries in
        let n : ℕ = written_on old page in
        let few : n ≤ length xs = omega (arith, was page l a.0, length-on_page page old.state.entries) in (
          a.0,
          ap (λ (k : ℕ). text_of_oldest new.state page k) (as_written page)
              ∙ ap (λ (ys : List BornTuple). entries_text new.state.version (take n ys)) a.1.all
              ∙ ap (entries_text new.state.version) (take-append-le n xs a.1.more few)
              ∙ ap (λ v. entries_text v (take n xs)) a.1.version,
        )

    no_more : (more : List BornTuple) → length more ≡ 0 → more ≡ []
    no_more [] e = refl
    no_more (x ∷ xs) e = absurd (omega (arith, e))

    pub touches_changes : {T E : Type 0} (r : Result T E) → OnOk r (new.state ≡ state_after old.state client o) → OnErr r (new.state ≡ old.state) → TouchesChanges old new
    touches_changes r ok err page l none =
        let u = untouched new page none in
        let a = after r ok err page l u.0 in
        let counted = count_after page a.1 in
        let few = was page l a.0 in
        let all : written_on old page ≡ page_count old.state.entries page = omega (arith, as_written page, u.1, counted, few) in
        let none_more : length a.1.more ≡ 0 = omega (arith, as_written page, u.1, counted, few) in (
          is_untouched old page a.0 all,
          ap (λ (ys : List BornTuple). entries_text new.state.version ys) (a.1.all ∙ ap (λ (ys : List BornTuple). on_page page old.state.entries ++ ys) (no_more a.1.more none_more) ∙ append-nil (on_page page old.state.entries))
              ∙ ap (λ v. entries_text v (on_page page old.state.entries)) a.1.version,
        )

    same_count : {T E : Type 0} (r : Result T E) → OnOk r (new.state ≡ state_after old.state client o) → OnErr r (new.state ≡ old.state) → (page : ℕ)
        → All (λ b. b % 256 ≢ page) (touched_births old.state client o) → page_count new.state.entries page ≡ page_count old.state.entries page
    same_count (Ok x) ok err page h =
        sym (length-on_page page new.state.entries) ∙ ap (λ (s : SpaceState). length (on_page page s.entries)) ok
        ∙ ap length (page_same old.state client o page h) ∙ length-on_page page old.state.entries
    same_count (Err e) ok err page h = ap (λ (s : SpaceState). page_count s.entries page) err

    pub touches_only : {T E : Type 0} (r : Result T E) → OnOk r (new.state ≡ state_after old.state client o) → OnErr r (new.state ≡ old.state) → TouchesOnly old new client o
    touches_only r ok err page l now before = go (on_or_off (touched_births old.state client o) page) (is_changed new page) refl
      where
        go : Contains (map (λ b. b % 256) (touched_births old.state client o)) page ⊎ All (λ b. b % 256 ≢ page) (touched_births old.state client o) → (b : Bool) → is_changed new page ≡ b
            → MayChange old.state client o page
        go (inl on) b e = on
        go (inr off) true e =
            let u = untouched old page before in
            among_touched old.state client o page (marked (changed_births old.state client o) old.changed page (ap (λ (xs : List Bool). get_or xs page false) (sym marks) ∙ e) u.0)
        go (inr off) false e =
            let u = untouched old page before in
            let none : is_touched new page ≡ false = is_untouched new page e (as_written page ∙ u.1 ∙ sym (same_count r ok err page off)) in
            absurd (let bad : true ≡ false = sym now ∙ none in cc)
