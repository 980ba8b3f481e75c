-- How items are dealt to hands, and taken back.
use Rattle.std.proofs.Common.{◌≡◌, ℕ, zero, suc, ◌+◌, ◌*◌, ◌/◌, ◌%◌, ◌<◌, ◌≤◌, inl, inr, List, [], ◌∷◌, ◌++◌, length, map, get_or, ◌-◌, refl, sym, ap, ◌∙◌, subst, arith}
use Rattle.std.specs.Prelude.{Some, None, slice_get, slice_set}
use Rattle.std.specs.Option.{option_and_then}
use Rattle.std.specs.List.{enumerate_from}
use Rattle.std.specs.declared.alloc.Global.{Global}
use Rattle.std.specs.declared.vec.Vec.{Vec}
use Rattle.std.proofs.Math.Nat.{add-mul-mod_self_right, mod-eq_of_lt}
use Rattle.std.proofs.lemmas.Nat.{div-add-mod', mod_below}
use lib.ListN.{length-set}
use Rattle.std.proofs.lemmas.List.{length_push}
use Rattle.std.proofs.lemmas.Option.{slice_get_past, slice_get_within, none-some}
use Rattle.std.proofs.lemmas.Bool.{cases_eq, cases_lt}
use Rattle.cluster_run.specs.Hands.{AreDealt, AreGathered, Hands, TakesItem, dealt_at}

-- ---- numbers

-- ---- elements by their places

pub got : {X : Type 0} (xs : List X) (j : ℕ) → j < length xs → (x : X) × (slice_get xs j ≡ Some x)
got [] j l = absurd (omega (arith, l))
got (x ∷ xs) zero l = (x, refl)
got (x ∷ xs) (suc j) l = got xs j (omega (arith, l))

pub get_pushed : {X : Type 0} (xs : List X) (x : X) → slice_get (xs ++ x ∷ []) (length xs) ≡ Some x
get_pushed [] x = refl
get_pushed (y ∷ xs) x = get_pushed xs x

pub get_before : {X : Type 0} (xs : List X) (x : X) (j : ℕ) → (j ≡ length xs → ⊥) → slice_get (xs ++ x ∷ []) j ≡ slice_get xs j
get_before [] x zero off = absurd (off refl)
get_before [] x (suc j) off = refl
get_before (y ∷ xs) x zero off = refl
get_before (y ∷ xs) x (suc j) off = get_before xs x j (λ e. off (ap suc e))

get_set : {X : Type 0} (xs : List X) (i : ℕ) (x : X) → i < length xs → slice_get (slice_set xs i x) i ≡ Some x
get_set [] i x l = absurd (omega (arith, l))
get_set (y ∷ xs) zero x l = refl
get_set (y ∷ xs) (suc i) x l = get_set xs i x (omega (arith, l))

get_beside : {X : Type 0} (xs : List X) (i j : ℕ) (x : X) → (j ≡ i → ⊥) → slice_get (slice_set xs i x) j ≡ slice_get xs j
get_beside [] i j x off = refl
get_beside (y ∷ xs) zero zero x off = absurd (off refl)
get_beside (y ∷ xs) zero (suc j) x off = refl
get_beside (y ∷ xs) (suc i) zero x off = refl
get_beside (y ∷ xs) (suc i) (suc j) x off = get_beside xs i j x (λ e. off (ap suc e))

-- ---- the items of a loop that counts them

pub turn_at : {X : Type 0} (n k : ℕ) (xs : List X) (p : ℕ × X) → k < length (enumerate_from n xs) → p ≡ get_or (enumerate_from n xs) k p → (p.0 ≡ n + k) × (slice_get xs k ≡ Some p.1)
turn_at n k [] p l e = absurd (omega (arith, l))
turn_at n zero (x ∷ xs) p l e = (ap (λ q. q.0) e ∙ omega arith, ap (λ q. Some q.1) (sym e))
turn_at n (suc k) (x ∷ xs) p l e = let h = turn_at (n + 1) k xs p (omega (arith, l)) e in (h.0 ∙ omega arith, h.1)

-- ---- places of hands

-- if the places in two hands are the same, the hands are the same, and the turns
same_hand : (h j r q n : ℕ) → h < n → r < n → h + j * n ≡ r + q * n → h ≡ r
same_hand h j r q n lh lr e =
    sym (mod-eq_of_lt lh) ∙ (sym (add-mul-mod_self_right h j n) ∙ (ap (λ (k : ℕ). k % n) e ∙ (add-mul-mod_self_right r q n ∙ mod-eq_of_lt lr)))

more_turns : (j q n : ℕ) → j < q → j * n + n ≤ q * n
more_turns zero (suc q) n l = omega arith
more_turns (suc j) (suc q) n l = let h = more_turns j q n (omega (arith, l)) in omega (arith, h)
more_turns j zero n l = absurd (omega (arith, l))

same_turn : (j q n : ℕ) → 0 < n → j * n ≡ q * n → j ≡ q
same_turn zero zero n l e = refl
same_turn zero (suc q) n l e = absurd (omega (arith, l, e))
same_turn (suc j) zero n l e = absurd (omega (arith, l, e))
same_turn (suc j) (suc q) n l e = ap suc (same_turn j q n l (omega (arith, e)))

-- ---- dealing

pub no_hands : {X : Type 0} (n : ℕ) (hands : Hands X) → length hands ≡ n → ((h j : ℕ) → dealt_at hands h j ≡ None) → AreDealt [] n hands
no_hands n hands count none = record { count_is = count; each = λ h j l. none h j }

pub empty_more : {X : Type 0} (hands more : Hands X) (hand : Vec X Global) → more ≡ hands ++ hand ∷ [] → hand.items ≡ [] → ((h j : ℕ) → dealt_at hands h j ≡ None)
    → (h j : ℕ) → dealt_at more h j ≡ None
empty_more [] more hand is empty none zero j = ap (λ hs. dealt_at hs zero j) is ∙ ap (λ xs. slice_get xs j) empty
empty_more [] more hand is empty none (suc h) j = ap (λ hs. dealt_at hs (suc h) j) is
empty_more (x ∷ hands) more hand is empty none zero j = ap (λ hs. dealt_at hs zero j) is ∙ none zero j
empty_more (x ∷ hands) more hand is empty none (suc h) j =
    ap (λ hs. dealt_at hs (suc h) j) is ∙ empty_more hands (hands ++ hand ∷ []) hand refl empty (λ k i. none (suc k) i) h j

pub dealt_in : {X : Type 0} (hands : Hands X) (h j : ℕ) (hand : Vec X Global) → slice_get hands h ≡ Some hand → dealt_at hands h j ≡ slice_get hand.items j
dealt_in hands h j hand is = ap (option_and_then (λ v. slice_get v.items j)) is

-- the hand whose turn it is has as many as there were turns
module _ {X : Type 0} (xs ys : List X) (r q n : ℕ) (some : 0 < n) (lies : r + q * n ≡ length xs) (at : (j : ℕ) → slice_get ys j ≡ slice_get xs (r + j * n)) where
  no_more : length ys ≤ q
  no_more = elim (cases_lt q (length ys)) [
    | inl l ↦ (let h = got ys q l in absurd (none-some h.0 (sym (at q ∙ (ap (slice_get xs) lies ∙ slice_get_past xs (length xs) (omega arith))) ∙ h.1)))
    | inr l ↦ l
  ]

  no_fewer : (p : ℕ) → q ≡ suc p → suc p ≤ length ys
  no_fewer p is =
      let before = more_turns p q n (omega (arith, is)) in
      let h = got xs (r + p * n) (omega (arith, before, lies, some)) in
      let l = slice_get_within ys p h.0 (at p ∙ h.1) in
      omega (arith, l)

  as_many : length ys ≡ q
  as_many = elim (cases_eq q 0) [
    | inl e ↦ (let l = no_more in omega (arith, l, e))
    | inr off ↦ (let l = no_more in let m = no_fewer (q - 1) (omega (arith, off)) in omega (arith, l, m, off))
  ]

  -- with one more
  pub turn_more : (x : X) (j : ℕ) → slice_get (ys ++ x ∷ []) j ≡ slice_get (xs ++ x ∷ []) (r + j * n)
  turn_more x j = elim (cases_eq j q) [
    | inl e ↦ (let here : j ≡ length ys = e ∙ sym as_many in
        let there : r + j * n ≡ length xs = ap (λ (k : ℕ). r + k * n) e ∙ lies in
        ap (slice_get (ys ++ x ∷ [])) here ∙ (get_pushed ys x ∙ sym (ap (slice_get (xs ++ x ∷ [])) there ∙ get_pushed xs x)))
    | inr off ↦ get_before ys x j (λ e. off (e ∙ as_many))
        ∙ (at j ∙ sym (get_before xs x (r + j * n) (λ e. off (same_turn j q n some (let k = lies in omega (arith, e, k))))))
  ]

-- and the others are left
pub others_more : {X : Type 0} (xs : List X) (x : X) (h j r q n : ℕ) → h < n → r < n → r + q * n ≡ length xs → (h ≡ r → ⊥) → slice_get (xs ++ x ∷ []) (h + j * n) ≡ slice_get xs (h + j * n)
others_more xs x h j r q n lh lr lies off = get_before xs x (h + j * n) (λ e. off (same_hand h j r q n lh lr (e ∙ sym lies)))

pub dealt_more : {X : Type 0} (xs : List X) (n i : ℕ) (hands more : Hands X) (hand later : Vec X Global) (x : X) → 0 < n → AreDealt xs n hands → i ≡ length xs
    → slice_get hands (i % n) ≡ Some hand → later.items ≡ hand.items ++ x ∷ [] → more ≡ slice_set hands (i % n) later → AreDealt (xs ++ x ∷ []) n more
dealt_more xs n i hands more hand later x some dealt at was is set =
    let r = i % n in
    let low : r < n = mod_below i n some in
    let whole = div-add-mod' i n in
    let lies : r + (i / n) * n ≡ length xs = omega (arith, whole, at) in
    record {
      count_is = ap length set ∙ (length-set hands r later ∙ dealt.count_is);
      each = λ h j l. ap (λ hs. dealt_at hs h j) set ∙ elim (cases_eq h r) [
        | inl e ↦ ap (λ k. dealt_at (slice_set hands r later) k j) e
            ∙ (dealt_in (slice_set hands r later) r j later (get_set hands r later (subst (λ k. r < k) (sym dealt.count_is) low))
            ∙ (ap (λ ys. slice_get ys j) is
            ∙ (turn_more xs hand.items r (i / n) n some lies (λ k. sym (dealt_in hands r k hand was) ∙ dealt.each r k low) x j
            ∙ ap (λ k. slice_get (xs ++ x ∷ []) (k + j * n)) (sym e))))
        | inr off ↦ ap (option_and_then (λ v. slice_get v.items j)) (get_beside hands r h later off)
            ∙ (dealt.each h j l ∙ sym (others_more xs x h j r (i / n) n l low lies off))
      ];
    }

-- ---- taking back

pub gathered_more : {X : Type 0} (all hands more : Hands X) (n i : ℕ) (xs ys : List X) (x : X) → AreGathered all n i xs
    → ((h j : ℕ) → i ≤ h + j * n → dealt_at hands h j ≡ dealt_at all h j) → TakesItem hands (i % n) (i / n) x more → ys ≡ xs ++ x ∷ []
    → AreGathered all n (i + 1) ys × ((h j : ℕ) → i + 1 ≤ h + j * n → dealt_at more h j ≡ dealt_at all h j)
gathered_more all hands more n i xs ys x so_far left takes is =
    let whole = div-add-mod' i n in (
      record {
        count_is = ap length is ∙ (length_push xs x ∙ ap (λ k. k + 1) so_far.count_is);
        each = λ k l. ap (λ zs. slice_get zs k) is ∙ elim (cases_eq k i) [
          | inl e ↦ ap (slice_get (xs ++ x ∷ [])) (e ∙ sym so_far.count_is) ∙ (get_pushed xs x
              ∙ (sym takes.taken ∙ (left (i % n) (i / n) (omega (arith, whole)) ∙ ap (λ m. dealt_at all (m % n) (m / n)) (sym e))))
          | inr off ↦ get_before xs x k (λ e. off (e ∙ so_far.count_is)) ∙ so_far.each k (omega (arith, l, off))
        ];
      },
      (λ h j l. takes.others h j (elim (cases_eq h (i % n)) [
        | inl e ↦ elim (cases_eq j (i / n)) [
          | inl f ↦ absurd (let g : h + j * n ≡ i = ap (λ k. k + j * n) e ∙ (ap (λ k. i % n + k * n) f ∙ omega (arith, whole)) in omega (arith, g, l))
          | inr off ↦ inr off
        ]
        | inr off ↦ inl off
      ]) ∙ left h j (omega (arith, l))),
    )

pub seconds_more : {X : Type 0} (ps : List (ℕ × X)) (i : ℕ) (x : X) → map (λ p. p.1) (ps ++ (i, x) ∷ []) ≡ map (λ p. p.1) ps ++ x ∷ []
seconds_more [] i x = refl
seconds_more (p ∷ ps) i x = ap (λ xs. p.1 ∷ xs) (seconds_more ps i x)
