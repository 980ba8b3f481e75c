-- The tables and the index follow the tuples.
use Rattle.std.proofs.Common.{◌≡◌, ℕ, suc, ◌+◌, ◌-◌, ◌%◌, ◌≤◌, ◌<◌, Bool, true, false, cond, List, [], ◌∷◌, ◌++◌}
use Rattle.std.proofs.Common.{length, map, take, drop, get_or, set, Some, refl, sym, ap, subst, ◌∙◌, arith, inl, inr}
use Rattle.std.proofs.Common.{append-nil}
use Rattle.std.specs.Prelude.{◌==◌, All, AllPairs, filter, find, remove, nat_lt}
use Rattle.std.specs.Ordering.{nat_cmp, is_eq}
use Rattle.std.specs.Map.{lookup, remove_entry}
use Rattle.std.specs.BTreeMap.{is_at, insert_entry}
use Rattle.std.proofs.lemmas.Bool.{cases_eq}
use Rattle.std.proofs.Math.Seq.{get_or-append_seam}
use Rattle.std.proofs.lemmas.List.{length-map, length_push, drop-map}
use Rattle.std.proofs.lemmas.List.Edits.{remove-append_right}
use Rattle.std.proofs.lemmas.List.Quantifiers.{all_pairs_push}
use Rattle.std.proofs.lemmas.List.Elements.{All-weaker, All-filter, All-drop}
use Rattle.tuple_tree.specs.Values.{TupleTree, TemplateTree, IsTuple}
use Rattle.template_match.specs.Tests.{is_match}
use Rattle.space.specs.Applying.{most_tuples, without_first}
use Rattle.space.specs.Births.{BornTuple, SpaceState, IsState, page_count, tuples_of, first_passing, birth_of}
use Rattle.space.specs.Births.{oldest_births, with_birth}
use Rattle.space.specs.Candidates.{is_candidate, candidates_of}
use Rattle.space.specs.Counted.{IsIndexed}
use Rattle.space.specs.Filing.{births_on, IsIndexOf}
use Rattle.space.specs.Found.{entries_at}
use Rattle.space.specs.Pages.{on_page, entries_text, tuple_page_text, text_of_oldest}
use Rattle.space.specs.declared.index.Index.{Index}
use Rattle.space.specs.declared.version.Version.{Version}
use Rattle.space.proofs.Filing.{entries_of_births, entries_listed, find-filter, each_found, at_other, at_same}
use Rattle.space.proofs.Texts.{length-on_page, others_behind}
use Rattle.space.proofs.Keying.{match_is_candidate}
use Rattle.space.proofs.Trees.{IsTaken, first_taken, removed_by_place, inserted_last}
use Rattle.space.proofs.Keeping.{IsCounted-push, IsCounted-remove, counted_one, birth_by_counts}

-- ---- what births lead to

module _ (s : SpaceState) (h : IsState s) where
  -- the oldest match is one of the candidates
  pub found_among : (p : TemplateTree) → find (λ e. is_match p e.1) (entries_at s.entries (candidates_of p s)) ≡ find (λ e. is_match p e.1) s.entries
  found_among p =
      ap (find (λ e. is_match p e.1)) (entries_of_births (λ e. is_candidate p e.1) s.entries h.rising)
      ∙ find-filter (λ (e : BornTuple). is_match p e.1) (λ e. is_candidate p e.1) (λ e. match_is_candidate p e.1) s.entries

  pub matches_among : (p : TemplateTree) → filter (is_match p) (map (λ e. e.1) (entries_at s.entries (candidates_of p s))) ≡ filter (is_match p) (tuples_of s).tuples
  matches_among p =
      ap (λ (es : List BornTuple). filter (is_match p) (map (λ e. e.1) es)) (entries_of_births (λ e. is_candidate p e.1) s.entries h.rising)
      ∙ mapped s.entries
    where
      go : (xs ys : List BornTuple) (e : BornTuple) (b : Bool) → (is_match p e.1 ≡ true → b ≡ true)
          → filter (is_match p) (map (λ (x : BornTuple). x.1) xs) ≡ filter (is_match p) (map (λ (x : BornTuple). x.1) ys)
          → filter (is_match p) (map (λ (x : BornTuple). x.1) (cond b (e ∷ xs) xs)) ≡ filter (is_match p) (e.1 ∷ map (λ (x : BornTuple). x.1) ys)
      go xs ys e true k rest = ap (λ zs. cond (is_match p e.1) (e.1 ∷ zs) zs) rest
      go xs ys e false k rest = last (is_match p e.1) k ∙ ap (λ zs. cond (is_match p e.1) (e.1 ∷ zs) zs) rest
        where
          last : (a : Bool) → (a ≡ true → false ≡ true) → filter (is_match p) (map (λ (x : BornTuple). x.1) xs) ≡ cond a (e.1 ∷ filter (is_match p) (map (λ (x : BornTuple). x.1) xs)) (filter (is_match p) (map (λ (x : BornTuple). x.1) xs))
          last true f = absurd (let g : false ≡ true = f refl in cc)
          last false f = refl

      mapped : (es : List BornTuple) → filter (is_match p) (map (λ e. e.1) (filter (λ (e : BornTuple). is_candidate p e.1) es)) ≡ filter (is_match p) (map (λ e. e.1) es)
      mapped [] = refl
      mapped (e ∷ es) = go (filter (λ (x : BornTuple). is_candidate p x.1) es) es e (is_candidate p e.1) (match_is_candidate p e.1) (mapped es)

  -- the births of the oldest matches are among the candidates
  pub births_among : (p : TemplateTree) (n : ℕ) → oldest_births n p (entries_at s.entries (candidates_of p s)) ≡ oldest_births n p s.entries
  births_among p n =
      ap (λ (es : List BornTuple). oldest_births n p es) (entries_of_births (λ e. is_candidate p e.1) s.entries h.rising)
      ∙ ap (λ (es : List BornTuple). take n (map (λ e. e.0) es)) (passing s.entries)
    where
      go : (e : BornTuple) (xs : List BornTuple) (b : Bool) → (is_match p e.1 ≡ true → b ≡ true)
          → filter (λ (x : BornTuple). is_match p x.1) (cond b (e ∷ xs) xs) ≡ cond (is_match p e.1) (e ∷ filter (λ (x : BornTuple). is_match p x.1) xs) (filter (λ (x : BornTuple). is_match p x.1) xs)
      go e xs true k = refl
      go e xs false k = last (is_match p e.1) k
        where
          last : (a : Bool) → (a ≡ true → false ≡ true) → filter (λ (x : BornTuple). is_match p x.1) xs ≡ cond a (e ∷ filter (λ (x : BornTuple). is_match p x.1) xs) (filter (λ (x : BornTuple). is_match p x.1) xs)
          last true f = absurd (let g : false ≡ true = f refl in cc)
          last false f = refl

      passing : (es : List BornTuple) → filter (λ (e : BornTuple). is_match p e.1) (filter (λ (e : BornTuple). is_candidate p e.1) es) ≡ filter (λ (e : BornTuple). is_match p e.1) es
      passing [] = refl
      passing (e ∷ es) =
          go e (filter (λ (x : BornTuple). is_candidate p x.1) es) (is_candidate p e.1) (match_is_candidate p e.1)
          ∙ ap (λ (xs : List BornTuple). cond (is_match p e.1) (e ∷ xs) xs) (passing es)

  -- so do those from any of them on
  page_from : (page count : ℕ) → entries_at s.entries (drop count (births_on page s.entries)) ≡ drop count (on_page page s.entries)
  unfolding on_page
  page_from page count =
      let xs : List BornTuple = filter (λ e. e.0 % 256 == page) s.entries in
      let found : All (λ e. lookup (is_at (nat_cmp e.0)) s.entries ≡ Some e.1) xs =
      All-filter (λ (e : BornTuple). e.0 % 256 == page) (λ e. lookup (is_at (nat_cmp e.0)) s.entries ≡ Some e.1) s.entries (each_found s.entries h.rising) in
      ap (entries_at s.entries) (drop-map (λ (e : BornTuple). e.0) count xs)
      ∙ entries_listed s.entries (drop count xs) (All-drop (λ e. lookup (is_at (nat_cmp e.0)) s.entries ≡ Some e.1) count xs found)

  -- their text stands behind that of the others
  pub page_behind : (page count : ℕ) → text_of_oldest s page count ++ entries_text s.version (entries_at s.entries (drop count (births_on page s.entries))) ≡ tuple_page_text s page
  page_behind page count =
      ap (λ (xs : List BornTuple). text_of_oldest s page count ++ entries_text s.version xs) (page_from page count) ∙ others_behind s page count

pub length-births_on : (page : ℕ) (es : List BornTuple) → length (births_on page es) ≡ page_count es page
unfolding on_page
length-births_on page es = length-map (filter (λ e. e.0 % 256 == page) es) (λ e. e.0) ∙ length-on_page page es

-- ---- the oldest match is taken

lookup_place : (es : List BornTuple) (b : ℕ) (t : TupleTree) → lookup (is_at (nat_cmp b)) es ≡ Some t → (i : ℕ) × IsTaken es (remove es i) (b, t) i
lookup_place [] b t h = absurd (let g : ⊥ = cc in g)
lookup_place (x ∷ xs) b t h = elim (cases_eq b x.0) [
  | inl same ↦
      let here : lookup (is_at (nat_cmp b)) (x ∷ xs) ≡ Some x.1 = ap (λ k. cond (is_eq (nat_cmp b k)) (Some x.1) (lookup (is_at (nat_cmp b)) xs)) (sym same) ∙ ap (λ a. cond a (Some x.1) (lookup (is_at (nat_cmp b)) xs)) (at_same b) in
      let is : t ≡ x.1 = cc in
      (0, record { within = omega arith; here = rw (same, is) refl; left = refl })
  | inr other ↦
      let rest : lookup (is_at (nat_cmp b)) xs ≡ Some t = sym (ap (λ a. cond a (Some x.1) (lookup (is_at (nat_cmp b)) xs)) (at_other b x.0 other)) ∙ h in
      let p = lookup_place xs b t rest in
      let within = p.1.within in
      (suc p.0, record { within = omega arith; here = p.1.here; left = refl })
]

pub record IsOldest (es rest : List BornTuple) (b : ℕ) (t : TupleTree) : Type 0 where
  pub stored : lookup (is_at (nat_cmp b)) es ≡ Some t
  pub left : remove_entry (is_at (nat_cmp b)) es ≡ rest

pub oldest_taken : (test : BornTuple → Bool) (es : List BornTuple) (b : ℕ) (t : TupleTree) → AllPairs (λ e f. e.0 < f.0) es → find test es ≡ Some (b, t) → IsOldest es (without_first test es) b t
oldest_taken test es b t h f =
    let p = first_taken test es (b, t) f in
    let i : ℕ = p.0 in
    let here : (b, t) ≡ get_or es i (b, t) = p.1.here in
    record {
      stored =
          let l = each_found es h i (b, t) p.1.within in
          subst (λ (e : BornTuple). lookup (is_at (nat_cmp e.0)) es ≡ Some e.1) (sym here) l;
      left = removed_by_place es i b (b, t) h p.1.within (ap (λ (e : BornTuple). e.0) (sym here)) ∙ sym p.1.left;
    }

module _ (version : Version) (es : List BornTuple) (next : ℕ) (counts : List ℕ) (index : Index) (h : IsIndexed version es next counts index) (b : ℕ) (t : TupleTree) (stored : lookup (is_at (nat_cmp b)) es ≡ Some t) where
  pub taken_counted : 1 ≤ get_or counts (b % 256) 0
  taken_counted = let p = lookup_place es b t stored in counted_one version es next counts h.counts p.0 b t p.1.within p.1.here

  pub IsIndexed-taken : (items : List BornTuple) (new : Index) → length counts ≡ 256 → items ≡ remove_entry (is_at (nat_cmp b)) es
      → ((fs : List BornTuple) (i : ℕ) → AllPairs (λ e f. e.0 < f.0) fs → i < length fs → (b, t) ≡ get_or fs i (b, t) → IsIndexOf index fs → IsIndexOf new (remove fs i))
      → IsIndexed version items next (set counts (b % 256) (get_or counts (b % 256) 0 - 1)) new
  IsIndexed-taken items new long is moved =
      let p = lookup_place es b t stored in
      let rising = h.counts.state.rising in
      let left : items ≡ remove es p.0 = is ∙ removed_by_place es p.0 b (b, t) rising p.1.within (ap (λ (e : BornTuple). e.0) (sym p.1.here)) in
      record {
        counts = IsCounted-remove version es next counts h.counts p.0 b t items long p.1.within p.1.here left;
        indexed = subst (IsIndexOf new) (sym left) (moved es p.0 rising p.1.within p.1.here h.indexed);
      }

-- ---- a tuple is added

module _ (version : Version) (es : List BornTuple) (next : ℕ) (counts : List ℕ) (index : Index) (h : IsIndexed version es next counts index) (b : ℕ) (newest : next ≤ b) where
  all_older : All (λ e. e.0 < b) es
  all_older = All-weaker (λ e. e.0 < next) (λ e. e.0 < b) (λ e l. omega arith) es h.counts.state.below_next

  pub IsIndexed-added : (t : TupleTree) (items : List BornTuple) (new : Index) → length counts ≡ 256 → IsTuple t → length es < most_tuples version
      → b ≡ first_passing (λ birth. nat_lt (get_or counts (birth % 256) 0) 64) 256 next → items ≡ insert_entry nat_cmp es b t
      → ((fs : List BornTuple) → IsIndexOf index fs → IsIndexOf new (fs ++ (b, t) ∷ []))
      → IsIndexed version items (b + 1) (set counts (b % 256) (get_or counts (b % 256) 0 + 1)) new
  IsIndexed-added t items new long valid room is put moved =
      let last : items ≡ es ++ (b, t) ∷ [] = put ∙ inserted_last es b t all_older in
      record {
        counts = IsCounted-push version es next counts h.counts b t items long valid room is last;
        indexed = subst (IsIndexOf new) (sym last) (moved es h.indexed);
      }

  -- the index stays that of the entries if the tuple is added to it and taken again
  pub IsIndexed-undone : (t : TupleTree) (more new : Index) → ((fs : List BornTuple) → IsIndexOf index fs → IsIndexOf more (fs ++ (b, t) ∷ []))
      → ((fs : List BornTuple) (i : ℕ) → AllPairs (λ e f. e.0 < f.0) fs → i < length fs → (b, t) ≡ get_or fs i (b, t) → IsIndexOf more fs → IsIndexOf new (remove fs i))
      → IsIndexed version es next counts new
  IsIndexed-undone t more new added taken =
      let e : BornTuple = (b, t) in
      let rising = all_pairs_push (λ (e f : BornTuple). e.0 < f.0) es e h.counts.state.rising (λ k d l. all_older k d l) in
      let within : length es < length (es ++ e ∷ []) = omega (arith, length_push es e) in
      let left : remove (es ++ e ∷ []) (length es) ≡ es = remove-append_right es (e ∷ []) (length es) (length es) refl (omega arith) ∙ ap (λ n. es ++ remove (e ∷ []) n) zero_left ∙ append-nil es in
      record {
        counts = h.counts;
        indexed = subst (IsIndexOf new) left (taken (es ++ e ∷ []) (length es) rising within (sym (get_or-append_seam es e [] e)) (added es h.indexed));
      }
    where
      zero_left : length es - length es ≡ 0
      zero_left = omega arith

  pub added_state : (t : TupleTree) (items : List BornTuple) → b ≡ first_passing (λ birth. nat_lt (get_or counts (birth % 256) 0) 64) 256 next → items ≡ insert_entry nat_cmp es b t
      → record { version = version; entries = items; next = b + 1 } ≡ with_birth (record { version = version; entries = es; next = next }) t
  added_state t items is put =
      let s : SpaceState = record { version = version; entries = es; next = next } in
      let same : b ≡ birth_of s = is ∙ birth_by_counts version es next counts h.counts s refl in
      ap (λ (xs : List BornTuple). record { version = version; entries = xs; next = b + 1 }) (put ∙ inserted_last es b t all_older)
      ∙ ap (λ (n : ℕ). record { version = version; entries = es ++ (n, t) ∷ []; next = n + 1 }) same
