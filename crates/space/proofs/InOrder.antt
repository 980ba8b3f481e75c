-- Entries in the order of births are what each birth leads to.
use Rattle.std.proofs.Common.{◌≡◌, ◌≢◌, ℕ, suc, ◌≤◌, ◌<◌, Bool, true, false, cond, List, [], ◌∷◌, ◌++◌, length, get_or}
use Rattle.std.proofs.Common.{append_assoc, length-append, Option, Some, None, refl, sym, ap, subst, ◌∙◌, arith, inl}
use Rattle.std.proofs.Common.{inr, eq-eqb}
use Rattle.std.specs.Prelude.{◌==◌, All, AllPairs}
use Rattle.std.specs.List.{IsDistinct, AllByRecursion}
use Rattle.std.specs.Ordering.{nat_cmp}
use Rattle.std.specs.declared.cmp.Ordering.TheVariants.{Less, Equal, Greater}
use Rattle.std.specs.Map.{keys_of, lookup, remove_entry}
use Rattle.std.specs.BTreeMap.{is_at, insert_entry}
use Rattle.std.proofs.lemmas.Bool.{cases_lt, cases_eq, ne_eqb, eqb-true, le-ltb}
use Rattle.std.proofs.lemmas.List.{get_or_append_left, get_or_at}
use Rattle.tuple_tree.specs.Values.{TupleTree}
use Rattle.space.specs.Births.{BornTuple}
use Rattle.space.specs.Stored.{in_order, AreApart}
use Rattle.space.proofs.Determining.{Rises}
use Rattle.space.proofs.Filing.{at_same, at_other}
use Rattle.space.proofs.Trees.{greater, less, inserted_last}

abbrev is_birth : ℕ → ℕ → Bool
is_birth b = is_at (nat_cmp b)

same : (a b : ℕ) → is_birth a b ≡ (a == b)
same a b = elim (cases_eq a b) [
  | inl is ↦ subst (λ n. is_birth a n ≡ (a == n)) is (at_same a ∙ sym (eq-eqb a a refl))
  | inr other ↦ at_other a b other ∙ sym (ne_eqb a b other)
]

equal : (a b : ℕ) → a ≡ b → nat_cmp a b ≡ Equal
equal a b e =
    ap (λ t. cond t Less (cond (a == b) Equal Greater)) (le-ltb a b (omega arith))
    ∙ ap (λ t. cond t Equal Greater) (eq-eqb a b e)

-- ---- births that rise

below : (from : ℕ) (es : List BornTuple) (q : ℕ) → Rises from es → q < from → lookup (is_birth q) es ≡ None
below from [] q h l = refl
below from (e ∷ es) q h l =
    let above : from ≤ e.0 = h.0 in
    ap (λ t. cond t (Some e.1) (lookup (is_birth q) es)) (at_other q e.0 (λ is. omega arith)) ∙ below (suc e.0) es q h.1 (omega arith)

here : (e : BornTuple) (es : List BornTuple) → lookup (is_birth e.0) (e ∷ es) ≡ Some e.1
here e es = ap (λ t. cond t (Some e.1) (lookup (is_birth e.0) es)) (at_same e.0)

-- each birth leads to the same in both
abbrev Agree : List BornTuple → List BornTuple → Type 0
Agree es fs = (q : ℕ) → lookup (is_birth q) es ≡ lookup (is_birth q) fs

agree_tail : (e : BornTuple) (es fs : List BornTuple) → Rises (suc e.0) es → Rises (suc e.0) fs → Agree (e ∷ es) (e ∷ fs) → Agree es fs
agree_tail e es fs a b h q = elim (cases_eq q e.0) [
  | inl is ↦ below (suc e.0) es q a (omega arith) ∙ sym (below (suc e.0) fs q b (omega arith))
  | inr other ↦
      let past : (xs : List BornTuple) → lookup (is_birth q) (e ∷ xs) ≡ lookup (is_birth q) xs = λ xs. ap (λ t. cond t (Some e.1) (lookup (is_birth q) xs)) (at_other q e.0 other) in
      sym (past es) ∙ h q ∙ past fs
]

first_same : (e f : BornTuple) (es fs : List BornTuple) → Rises (suc e.0) es → Rises (suc f.0) fs → Agree (e ∷ es) (f ∷ fs) → e.0 ≡ f.0
first_same e f es fs a b h = elim (cases_lt e.0 f.0) [
  | inl l ↦
      let none : lookup (is_birth e.0) (f ∷ fs) ≡ None = below f.0 (f ∷ fs) e.0 (omega arith, b) l in
      let some : Some e.1 ≡ None = sym (here e es) ∙ h e.0 ∙ none in
      absurd (let g : ⊥ = cc in g)
  | inr m ↦ elim (cases_lt f.0 e.0) [
    | inl l ↦
        let none : lookup (is_birth f.0) (e ∷ es) ≡ None = below e.0 (e ∷ es) f.0 (omega arith, a) l in
        let some : Some f.1 ≡ None = sym (here f fs) ∙ sym (h f.0) ∙ none in
        absurd (let g : ⊥ = cc in g)
    | inr n ↦ omega arith
  ]
]

one : (from : ℕ) (es fs : List BornTuple) → Rises from es → Rises from fs → Agree es fs → es ≡ fs
one from [] [] a b h = refl
one from [] (f ∷ fs) a b h = let bad : None ≡ Some f.1 = h f.0 ∙ here f fs in absurd (let g : ⊥ = cc in g)
one from (e ∷ es) [] a b h = let bad : Some e.1 ≡ None = sym (here e es) ∙ h e.0 in absurd (let g : ⊥ = cc in g)
one from (e ∷ es) (f ∷ fs) a b h =
    let births : e.0 ≡ f.0 = first_same e f es fs a.1 b.1 h in
    let values : Some e.1 ≡ Some f.1 = sym (here e es) ∙ h e.0 ∙ ap (λ n. lookup (is_birth n) (f ∷ fs)) births ∙ here f fs in
    let tuples : e.1 ≡ f.1 = cc in
    let entry : e ≡ f = rw (births, tuples) refl in
    let b' : Rises (suc e.0) fs = subst (λ (n : ℕ). Rises (suc n) fs) (sym births) b.1 in
    let h' : Agree (e ∷ es) (e ∷ fs) = subst (λ (x : BornTuple). Agree (e ∷ es) (x ∷ fs)) (sym entry) h in
    rw (entry, one (suc e.0) es fs a.1 b' (agree_tail e es fs a.1 b' h')) refl

-- ---- a birth is put in

Rises-inserted : (from : ℕ) (es : List BornTuple) (b : ℕ) (t : TupleTree) → Rises from es → from ≤ b → Rises from (insert_entry nat_cmp es b t)
Rises-inserted from [] b t h l = (l, tt)
Rises-inserted from (e ∷ es) b t h l = elim (cases_lt b e.0) [
  | inl before ↦ rw (less b e.0 before) (l, (omega arith, h.1))
  | inr m ↦ elim (cases_eq b e.0) [
    | inl is ↦ rw (equal b e.0 is) (h.0, h.1)
    | inr other ↦ rw (greater b e.0 (omega arith)) (h.0, Rises-inserted (suc e.0) es b t h.1 (omega arith))
  ]
]

-- two tests that don't both pass are tried in any order
swap : {X : Type 0} (a b : Bool) (x y z : X) → (a ≡ true → b ≡ true → ⊥) → cond a x (cond b y z) ≡ cond b y (cond a x z)
swap true true x y z h = absurd (h refl refl)
swap true false x y z h = refl
swap false true x y z h = refl
swap false false x y z h = refl

not_both : (q a b : ℕ) → a ≢ b → is_birth q a ≡ true → is_birth q b ≡ true → ⊥
not_both q a b other h k = other (sym (eqb-true q a (sym (same q a) ∙ h)) ∙ eqb-true q b (sym (same q b) ∙ k))

lookup-inserted : (es : List BornTuple) (b : ℕ) (t : TupleTree) (q : ℕ) → lookup (is_birth q) (insert_entry nat_cmp es b t) ≡ cond (is_birth q b) (Some t) (lookup (is_birth q) es)
lookup-inserted [] b t q = refl
lookup-inserted (e ∷ es) b t q = elim (cases_lt b e.0) [
  | inl before ↦ rw (less b e.0 before) refl
  | inr m ↦ elim (cases_eq b e.0) [
    | inl is ↦ rw (equal b e.0 is) (ap (λ n. cond (is_birth q n) (Some t) (lookup (is_birth q) es)) (sym is) ∙ twice (is_birth q b) (is_birth q e.0) (ap (is_birth q) is))
    | inr other ↦
        rw (greater b e.0 (omega arith))
        (ap (λ o. cond (is_birth q e.0) (Some e.1) o) (lookup-inserted es b t q)
        ∙ swap (is_birth q e.0) (is_birth q b) (Some e.1) (Some t) (lookup (is_birth q) es) (not_both q e.0 b (λ is. other (sym is))))
  ]
]
  where
    twice : (a c : Bool) → a ≡ c → cond a (Some t) (lookup (is_birth q) es) ≡ cond a (Some t) (cond c (Some e.1) (lookup (is_birth q) es))
    twice true c h = refl
    twice false false h = refl
    twice false true h = absurd (let g : ⊥ = cc in g)

-- ---- a birth is taken out

Rises-weaker : (from least : ℕ) (es : List BornTuple) → Rises from es → least ≤ from → Rises least es
Rises-weaker from least [] h l = tt
Rises-weaker from least (e ∷ es) h l = let above : from ≤ e.0 = h.0 in (omega arith, h.1)

Rises-removed : (from : ℕ) (es : List BornTuple) (b : ℕ) → Rises from es → Rises from (remove_entry (is_birth b) es)
Rises-removed from [] b h = h
Rises-removed from (e ∷ es) b h = go (is_birth b e.0) (Rises-removed (suc e.0) es b h.1)
  where
    go : (a : Bool) → Rises (suc e.0) (remove_entry (is_birth b) es) → Rises from (cond a es (e ∷ remove_entry (is_birth b) es))
    go true rest = let above : from ≤ e.0 = h.0 in Rises-weaker (suc e.0) from es h.1 (omega arith)
    go false rest = (h.0, rest)

lookup-removed : (from : ℕ) (es : List BornTuple) (b q : ℕ) → Rises from es → lookup (is_birth q) (remove_entry (is_birth b) es) ≡ cond (is_birth q b) None (lookup (is_birth q) es)
lookup-removed from [] b q h = go (is_birth q b)
  where
    go : (a : Bool) → ◌≡◌ {A = Option TupleTree} None (cond a None None)
    go true = refl
    go false = refl
lookup-removed from (e ∷ es) b q h = elim (cases_eq b e.0) [
  | inl is ↦
      ap (λ a. lookup (is_birth q) (cond a es (e ∷ remove_entry (is_birth b) es))) (same b e.0 ∙ eq-eqb b e.0 is)
      ∙ elim (cases_eq q b) [
        | inl found ↦
            below (suc e.0) es q h.1 (omega arith)
            ∙ sym (ap (λ a. cond a None (lookup (is_birth q) (e ∷ es))) (same q b ∙ eq-eqb q b found))
        | inr other ↦
            sym (ap (λ a. cond a (Some e.1) (lookup (is_birth q) es)) (at_other q e.0 (λ found. other (found ∙ sym is))))
            ∙ sym (ap (λ a. cond a None (lookup (is_birth q) (e ∷ es))) (at_other q b other))
      ]
  | inr other ↦
      ap (λ a. lookup (is_birth q) (cond a es (e ∷ remove_entry (is_birth b) es))) (at_other b e.0 other)
      ∙ ap (λ o. cond (is_birth q e.0) (Some e.1) o) (lookup-removed (suc e.0) es b q h.1)
      ∙ swap (is_birth q e.0) (is_birth q b) (Some e.1) None (lookup (is_birth q) es) (not_both q e.0 b (λ is. other (sym is)))
]

-- ---- entries in any order

Rises-in_order : (es : List BornTuple) → Rises 0 (in_order es)
Rises-in_order [] = tt
Rises-in_order (e ∷ es) = Rises-inserted 0 (in_order es) e.0 e.1 (Rises-in_order es) (omega arith)

pub lookup-in_order : (es : List BornTuple) (q : ℕ) → lookup (is_birth q) (in_order es) ≡ lookup (λ k. q == k) es
lookup-in_order [] q = refl
lookup-in_order (e ∷ es) q =
    lookup-inserted (in_order es) e.0 e.1 q
    ∙ ap (λ a. cond a (Some e.1) (lookup (is_birth q) (in_order es))) (same q e.0)
    ∙ ap (λ o. cond (q == e.0) (Some e.1) o) (lookup-in_order es q)

turned : (q b : ℕ) → is_birth q b ≡ (b == q)
turned q b = elim (cases_eq q b) [
  | inl is ↦ same q b ∙ eq-eqb q b is ∙ sym (eq-eqb b q (sym is))
  | inr other ↦ at_other q b other ∙ sym (ne_eqb b q (λ is. other (sym is)))
]

-- what each birth leads to, but for w at this one
abbrev pub Puts : List BornTuple → List BornTuple → ℕ → Option TupleTree → Type 0
Puts old new b w = (q : ℕ) → lookup (λ k. q == k) new ≡ cond (b == q) w (lookup (λ k. q == k) old)

puts : (old new : List BornTuple) (b : ℕ) (w : Option TupleTree) → Puts old new b w → (q : ℕ) → lookup (is_birth q) (in_order new) ≡ cond (is_birth q b) w (lookup (is_birth q) (in_order old))
puts old new b w h q =
    lookup-in_order new q ∙ h q ∙ ap (λ a. cond a w (lookup (λ k. q == k) old)) (sym (turned q b))
    ∙ ap (λ o. cond (is_birth q b) w o) (sym (lookup-in_order old q))

pub inserted_in_order : (old new : List BornTuple) (b : ℕ) (t : TupleTree) → Puts old new b (Some t) → in_order new ≡ insert_entry nat_cmp (in_order old) b t
inserted_in_order old new b t h =
    one 0 (in_order new) (insert_entry nat_cmp (in_order old) b t) (Rises-in_order new) (Rises-inserted 0 (in_order old) b t (Rises-in_order old) (omega arith))
    (λ q. puts old new b (Some t) h q ∙ sym (lookup-inserted (in_order old) b t q))

pub removed_in_order : (old new : List BornTuple) (b : ℕ) → Puts old new b None → in_order new ≡ remove_entry (is_birth b) (in_order old)
removed_in_order old new b h =
    one 0 (in_order new) (remove_entry (is_birth b) (in_order old)) (Rises-in_order new) (Rises-removed 0 (in_order old) b (Rises-in_order old))
    (λ q. puts old new b None h q ∙ sym (lookup-removed 0 (in_order old) b q (Rises-in_order old)))

longer : (es : List BornTuple) (b : ℕ) (t : TupleTree) → lookup (is_birth b) es ≡ None → length (insert_entry nat_cmp es b t) ≡ suc (length es)
longer [] b t h = refl
longer (e ∷ es) b t h = elim (cases_lt b e.0) [
  | inl before ↦ rw (less b e.0 before) refl
  | inr m ↦ elim (cases_eq b e.0) [
    | inl is ↦
        let some : Some e.1 ≡ None = sym (ap (λ a. cond a (Some e.1) (lookup (is_birth b) es)) (same b e.0 ∙ eq-eqb b e.0 is)) ∙ h in
        absurd (let g : ⊥ = cc in g)
    | inr other ↦
        let rest : lookup (is_birth b) es ≡ None = sym (ap (λ a. cond a (Some e.1) (lookup (is_birth b) es)) (at_other b e.0 other)) ∙ h in
        rw (greater b e.0 (omega arith)) (ap suc (longer es b t rest))
  ]
]

pub absent : (b : ℕ) (es : List BornTuple) → AllByRecursion (λ k. (b == k) ≡ false) (keys_of es) → lookup (λ k. b == k) es ≡ None
absent b [] h = refl
absent b (e ∷ es) h = ap (λ a. cond a (Some e.1) (lookup (λ k. b == k) es)) h.0 ∙ absent b es h.1

pub none_apart : AreApart []
unfolding IsDistinct
none_apart = tt

pub length-in_order : (es : List BornTuple) → IsDistinct ◌==◌ (keys_of es) → length (in_order es) ≡ length es
unfolding IsDistinct
length-in_order [] h = refl
length-in_order (e ∷ es) h =
    longer (in_order es) e.0 e.1 (lookup-in_order es e.0 ∙ absent e.0 es h.0) ∙ ap suc (length-in_order es h.1)

-- entries that rise are put in one by one
newest : (es rest : List BornTuple) (e : BornTuple) → AllPairs (λ e f. e.0 < f.0) (es ++ e ∷ rest) → All (λ x. x.0 < e.0) es
newest es rest e h k d l =
    let long : length es < length (es ++ e ∷ rest) = omega (arith, length-append es (e ∷ rest)) in
    let p : (get_or (es ++ e ∷ rest) k d).0 < (get_or (es ++ e ∷ rest) (length es) d).0 = h k (length es) d l long in
    subst (λ x. x.0 < e.0) (get_or_append_left es (e ∷ rest) d k l) (subst (λ x. (get_or (es ++ e ∷ rest) k d).0 < x.0) (get_or_at es e rest d (length es) refl) p)

pub next_is_newest : (all es rest more : List BornTuple) (e : BornTuple) → AllPairs (λ e f. e.0 < f.0) all → es ++ rest ≡ all → rest ≡ e ∷ more → All (λ x. x.0 < e.0) es
next_is_newest all es rest more e h is next =
    let whole : es ++ e ∷ more ≡ all = ap (λ xs. es ++ xs) (sym next) ∙ is in
    newest es more e (subst (AllPairs (λ e f. e.0 < f.0)) (sym whole) h)

pub one_more : (all es new rest more : List BornTuple) (e : BornTuple) → AllPairs (λ e f. e.0 < f.0) all → es ++ rest ≡ all → rest ≡ e ∷ more → new ≡ insert_entry nat_cmp es e.0 e.1 → new ++ more ≡ all
one_more all es new rest more e h is next put =
    let whole : es ++ e ∷ more ≡ all = ap (λ xs. es ++ xs) (sym next) ∙ is in
    ap (λ xs. xs ++ more) (put ∙ inserted_last es e.0 e.1 (newest es more e (subst (AllPairs (λ e f. e.0 < f.0)) (sym whole) h)))
    ∙ append_assoc es (e ∷ []) more ∙ whole
