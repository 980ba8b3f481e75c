-- A page is read entry by entry.
use Rattle.std.proofs.Common.{◌≡◌, ◌≢◌, ℕ, ◌+◌, ◌%◌, ◌^◌, ◌≤◌, ◌<◌, Bool, true, false, cond, List, [], ◌∷◌, ◌++◌}
use Rattle.std.proofs.Common.{length, get_or, refl, sym, ap, subst, ◌∙◌, arith, eq-eqb, append_assoc, length-append}
use Rattle.std.specs.Prelude.{◌==◌, All, filter}
use Rattle.std.proofs.lemmas.Bool.{ne_eqb}
use Rattle.std.proofs.lemmas.List.{append-nil, length_push, get_or_push, get_or_append_left, get_or_at, get_or_default}
use Rattle.std.proofs.lemmas.List.Elements.{All-head, All-tail, All-cons, All-push, All-weaker}
use Rattle.std.proofs.lemmas.List.Quantifiers.{all_pairs_push}
use Rattle.tuple_tree.specs.Values.{IsTuple}
use Rattle.space.specs.Births.{BornTuple}
use Rattle.space.specs.Pages.{entry_text, entries_text, on_page}
use Rattle.space.specs.Reading.{IsEntry, IsEntryOf, IsPage, TupleIsAdded, IsFrontRead}
use Rattle.space.specs.declared.version.Version.{Version}
use Rattle.space.proofs.Determining.{entry_split, entries_none}
use Rattle.space.proofs.Texts.{entries_text_push}

pub on_page-all : (P : BornTuple → Type 0) (page : ℕ) (es : List BornTuple) → All P (on_page page es) → All (λ x. x.0 % 256 ≡ page → P x) es
unfolding on_page
on_page-all P page [] h = λ k d l. absurd (omega arith)
on_page-all P page (e ∷ es) h = go (e.0 % 256 == page) refl h (on_page-all P page es)
  where
    go : (b : Bool) → (e.0 % 256 == page) ≡ b → All P (cond b (e ∷ filter (λ (x : BornTuple). x.0 % 256 == page) es) (filter (λ (x : BornTuple). x.0 % 256 == page) es))
        → (All P (filter (λ (x : BornTuple). x.0 % 256 == page) es) → All (λ x. x.0 % 256 ≡ page → P x) es) → All (λ x. x.0 % 256 ≡ page → P x) (e ∷ es)
    go true t a rest = All-cons (λ x. x.0 % 256 ≡ page → P x) e es (λ s. All-head P e (filter (λ (x : BornTuple). x.0 % 256 == page) es) a) (rest (All-tail P e (filter (λ (x : BornTuple). x.0 % 256 == page) es) a))
    go false t a rest = All-cons (λ x. x.0 % 256 ≡ page → P x) e es (λ s. absurd (let bad : true ≡ false = sym (eq-eqb (e.0 % 256) page s) ∙ t in cc)) (rest a)

one_here : (page : ℕ) (e : BornTuple) → e.0 % 256 ≡ page → on_page page (e ∷ []) ≡ e ∷ []
unfolding on_page
one_here page e h = ap (λ b. cond b (e ∷ []) []) (eq-eqb (e.0 % 256) page h)

none_here : (page : ℕ) (e : BornTuple) → e.0 % 256 ≢ page → on_page page (e ∷ []) ≡ []
unfolding on_page
none_here page e h = ap (λ b. cond b (e ∷ []) []) (ne_eqb (e.0 % 256) page h)

pub IsPage-fits : (page next : ℕ) (es : List BornTuple) → next < 2 ^ 64 → IsPage page next es → All IsEntry es
IsPage-fits page next es l h k d m = let b = h.below_next k d m in record { fits = omega arith; tuple = h.tuples k d m }

module _ (v : Version) (page next : ℕ) (text : List ℕ) (old es : List BornTuple) (rest : List ℕ) (count least : ℕ) (h : IsFrontRead v page next text old es rest count least) where
  -- tuples on the page already come before those that may follow
  pub latest : (e : BornTuple) → IsEntryOf page least next e → All (λ x. x.0 % 256 ≡ e.0 % 256 → x.0 < e.0) es
  latest e of =
      let above = All-weaker (λ x. x.0 < least) (λ x. x.0 < e.0) (λ x l. let m = of.not_below in omega arith) (on_page page es) h.above in
      subst (λ p. All (λ x. x.0 % 256 ≡ p → x.0 < e.0) es) (sym of.here) (on_page-all (λ x. x.0 < e.0) page es above)

  pub IsFrontRead-more : (e : BornTuple) (after : List ℕ) (new : List BornTuple) → IsEntryOf page least next e → rest ≡ entry_text v e ++ after → count < 64 → TupleIsAdded es new e → IsFrontRead v page next text old new after (count + 1) (e.0 + 1)
  IsFrontRead-more e after new of front few added =
      let xs : List BornTuple = on_page page es in
      let now : on_page page new ≡ xs ++ e ∷ [] = added.pages page ∙ ap (λ ys. xs ++ ys) (one_here page e of.here) in
      let below : All (λ x. x.0 < e.0) xs = All-weaker (λ x. x.0 < least) (λ x. x.0 < e.0) (λ x l. let m = of.not_below in omega arith) xs h.above in
      let more : IsPage page next (xs ++ e ∷ []) = record {
        rising = all_pairs_push (λ x y. x.0 < y.0) xs e h.valid.rising below;
        below_next = All-push (λ x. x.0 < next) xs e h.valid.below_next of.below;
        here = All-push (λ x. x.0 % 256 ≡ page) xs e h.valid.here of.here;
        few = omega (arith, length_push xs e, h.counted);
        tuples = All-push (λ x. IsTuple x.1) xs e h.valid.tuples of.tuple;
      } in
      record {
        rising = added.rising;
        valid = subst (IsPage page next) (sym now) more;
        spelled = h.spelled ∙ ap (λ bs. entries_text v xs ++ bs) front ∙ sym (append_assoc (entries_text v xs) (entry_text v e) after)
            ∙ ap (λ bs. bs ++ after) (sym (entries_text_push v xs e)) ∙ ap (λ ys. entries_text v ys ++ after) (sym now);
        others = λ p other. added.pages p ∙ ap (λ ys. on_page p es ++ ys) (none_here p e (λ same. other (sym same ∙ of.here))) ∙ append-nil (on_page p es) ∙ h.others p other;
        counted = omega (arith, h.counted, length_push xs e, ap length now);
        above = subst (All (λ x. x.0 < e.0 + 1)) (sym now) (All-push (λ x. x.0 < e.0 + 1) xs e (All-weaker (λ x. x.0 < e.0) (λ x. x.0 < e.0 + 1) (λ x l. omega arith) xs below) (omega arith));
        tight = λ n a.
            let b : All (λ x. x.0 < n) (xs ++ e ∷ []) = subst (All (λ x. x.0 < n)) now a in
            let c : (get_or (xs ++ e ∷ []) (length xs) e).0 < n = b (length xs) e (omega (arith, length_push xs e)) in
            let d : e.0 < n = subst (λ x. x.0 < n) (get_or_push xs e e (length xs) refl) c in
            omega arith;
      }

-- Texts where one goes on as the other: so do the entries.
prefix : (w : Version) (es fs : List BornTuple) (rest : List ℕ) → All IsEntry es → All IsEntry fs → entries_text w es ≡ entries_text w fs ++ rest → (more : List BornTuple) × (es ≡ fs ++ more) × (rest ≡ entries_text w more)
prefix w es [] rest a b t = (es, refl, sym t)
prefix w [] (f ∷ fs) rest a b t = absurd (entries_none w f (entries_text w fs ++ rest) (sym (t ∙ append_assoc (entry_text w f) (entries_text w fs) rest)))
prefix w (e ∷ es) (f ∷ fs) rest a b t =
    let s = entry_split w e f (entries_text w es) (entries_text w fs ++ rest) (All-head IsEntry e es a) (All-head IsEntry f fs b) (t ∙ append_assoc (entry_text w f) (entries_text w fs) rest) in
    let r = prefix w es fs rest (All-tail IsEntry e es a) (All-tail IsEntry f fs b) s.1 in
    (r.0, ap (λ x. x ∷ es) s.0 ∙ ap (λ xs. f ∷ xs) r.1, r.2)

-- What a page that is spelled so goes on with.
module _ (v : Version) (page next : ℕ) (text : List ℕ) (old es : List BornTuple) (rest : List ℕ) (count least : ℕ) (h : IsFrontRead v page next text old es rest count least) (l : next < 2 ^ 64)
    (all : List BornTuple) (valid : IsPage page next all) (spelled : text ≡ entries_text v all) where
  left : (more : List BornTuple) × (all ≡ on_page page es ++ more) × (rest ≡ entries_text v more)
  left = prefix v all (on_page page es) rest (IsPage-fits page next all l valid) (IsPage-fits page next (on_page page es) l h.valid) (sym spelled ∙ h.spelled)

  pub no_more : 64 ≤ count → rest ≡ []
  no_more many = go left.0 left.1 left.2
    where
      go : (more : List BornTuple) → all ≡ on_page page es ++ more → rest ≡ entries_text v more → rest ≡ []
      go [] is r = r
      go (m ∷ ms) is r = absurd (omega (arith, ap length is, length-append (on_page page es) (m ∷ ms), h.counted, valid.few))

  next_of : (m : BornTuple) (ms : List BornTuple) → all ≡ on_page page es ++ m ∷ ms → IsEntryOf page least next m
  next_of m ms is =
      let xs : List BornTuple = on_page page es in
      let p : IsPage page next (xs ++ m ∷ ms) = subst (IsPage page next) is valid in
      let long : length xs < length (xs ++ m ∷ ms) = omega (arith, length-append xs (m ∷ ms)) in
      let at : get_or (xs ++ m ∷ ms) (length xs) m ≡ m = get_or_at xs m ms m (length xs) refl in
      let before : All (λ x. x.0 < m.0) xs = λ k d n.
      let q : (get_or (xs ++ m ∷ ms) k m).0 < (get_or (xs ++ m ∷ ms) (length xs) m).0 = p.rising k (length xs) m n long in
      subst (λ x. x.0 < m.0) (get_or_append_left xs (m ∷ ms) m k n ∙ same xs k m d n) (subst (λ x. (get_or (xs ++ m ∷ ms) k m).0 < x.0) at q) in
      record {
        here = subst (λ x. x.0 % 256 ≡ page) at (p.here (length xs) m long);
        not_below = h.tight m.0 before;
        below = subst (λ x. x.0 < next) at (p.below_next (length xs) m long);
        tuple = subst (λ x. IsTuple x.1) at (p.tuples (length xs) m long);
      }
    where
      same : (xs : List BornTuple) (k : ℕ) (d e : BornTuple) → k < length xs → get_or xs k d ≡ get_or xs k e
      same xs k d e n = get_or_default xs k d e n

  pub next_there : rest ≢ [] → (m : BornTuple) × (after : List ℕ) × IsEntryOf page least next m × (rest ≡ entry_text v m ++ after)
  next_there some = go left.0 left.1 left.2
    where
      go : (more : List BornTuple) → all ≡ on_page page es ++ more → rest ≡ entries_text v more → (m : BornTuple) × (after : List ℕ) × IsEntryOf page least next m × (rest ≡ entry_text v m ++ after)
      go [] is r = absurd (some r)
      go (m ∷ ms) is r = (m, entries_text v ms, next_of m ms is, r)

pub not_empty : (xs : List ℕ) → false ≡ (length xs == 0) → xs ≢ []
not_empty xs t e = absurd (let bad : false ≡ true = t ∙ eq-eqb (length xs) 0 (ap length e) in let g : ⊥ = cc in g)
