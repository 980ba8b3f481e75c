-- MACs where they lie: the entries that a slice stands for are those that are read one by one.
use Rattle.std.proofs.Common.{◌≡◌, ℕ, zero, suc, ◌+◌, ◌*◌, ◌<◌, ◌≤◌, Bool, true, false, cond, ◌&&◌, List, [], ◌∷◌, ◌++◌, length, take, drop, slice_get, Option, Some, None, ap, sym, refl, ◌∙◌, arith, append_assoc, append-nil, length-drop}
use Rattle.std.proofs.lemmas.List.{drop-drop}
use Rattle.std.proofs.lemmas.Bool.{lt-ltb, le-ltb, le-leb, ltb-true, ltb-false}
use lib.Dec.{ltb, leb}
use Rattle.byteorder.specs.Endian.{big_number}
use Rattle.tuple_tree.specs.Reading.{byte_at, bytes_at, number_of}
use Rattle.wire_format.specs.Lists.{ascends}
use Rattle.wire_format.specs.Messages.{MacData}
use Rattle.wire_format.specs.Spelling.{mac_before}
use Rattle.wire.specs.Macs.{mac_in, macs_in}
use Rattle.wire_format.specs.Reading.{comes_after, more_at, digest_at, mac_at, macs_at}
use Rattle.wire_format.proofs.Forms.{ascends_grows}

pub macs_count : (n : ℕ) (bs : List ℕ) → length (macs_in n bs) ≡ n
macs_count zero bs = refl
macs_count (suc n) bs = ap suc (macs_count n (drop 34 bs))

next_entry : (i : ℕ) (bs : List ℕ) → drop (34 * i) (drop 34 bs) ≡ drop (34 * suc i) bs
next_entry i bs = let e : 34 + 34 * i ≡ 34 * suc i = omega arith in drop-drop (34 * i) 34 bs ∙ ap (λ k. drop k bs) e

-- the entry of an index
pub entry_there : (n i : ℕ) (bs : List ℕ) → i < n → slice_get (macs_in n bs) i ≡ Some (mac_in (drop (34 * i) bs))
entry_there zero i bs p = absurd (omega arith)
entry_there (suc n) zero bs p = refl
entry_there (suc n) (suc i) bs p = entry_there n i (drop 34 bs) (omega arith) ∙ ap (λ r. Some (mac_in r)) (next_entry i bs)

-- ---- a list by its indices

pub take_more : {A : Type 0} (xs : List A) (i : ℕ) (x : A) → slice_get xs i ≡ Some x → take (i + 1) xs ≡ take i xs ++ x ∷ []
take_more [] i x e = absurd (let g : ⊥ = cc in g)
take_more (y ∷ ys) zero x e = let q : y ≡ x = cc in ap (λ z. z ∷ []) q
take_more (y ∷ ys) (suc i) x e = let q : suc i + 1 ≡ suc (i + 1) = omega arith in rw q (ap (λ zs. y ∷ zs) (take_more ys i x e))

pub drop_more : {A : Type 0} (xs : List A) (i : ℕ) (x : A) → slice_get xs i ≡ Some x → drop i xs ≡ x ∷ drop (i + 1) xs
drop_more [] i x e = absurd (let g : ⊥ = cc in g)
drop_more (y ∷ ys) zero x e = let q : y ≡ x = cc in ap (λ z. z ∷ ys) q
drop_more (y ∷ ys) (suc i) x e = let q : suc i + 1 ≡ suc (i + 1) = omega arith in rw q (drop_more ys i x e)

-- ---- one by one

mac_there : (bs : List ℕ) → 34 ≤ length bs → mac_at bs ≡ Some (mac_in bs, drop 34 bs)
unfolding mac_at number_of digest_at bytes_at
mac_there bs l =
    let a : ltb (length bs) 2 ≡ false = le-ltb (length bs) 2 (omega arith) in
    let b : ltb (length (drop 2 bs)) 32 ≡ false = le-ltb (length (drop 2 bs)) 32 (omega (arith, length-drop 2 bs)) in
    rw (a, b) (ap (λ r. Some (mac_in bs, r)) (drop-drop 32 2 bs))

mac_missing : (bs : List ℕ) → length bs < 34 → mac_at bs ≡ None
unfolding mac_at number_of digest_at bytes_at
mac_missing bs l = cases (ltb (length bs) 2) refl
  where
    cases : (b : Bool) → ltb (length bs) 2 ≡ b → mac_at bs ≡ None
    cases true e = rw e refl
    cases false e = let b : ltb (length (drop 2 bs)) 32 ≡ true = lt-ltb (length (drop 2 bs)) 32 (omega (arith, length-drop 2 bs)) in rw (e, b) refl

front_ascends : (xs ys : List MacData) → ascends mac_before xs ≡ false → ascends mac_before (xs ++ ys) ≡ false
front_ascends [] ys e = absurd (let g : ⊥ = cc in g)
front_ascends (x ∷ []) ys e = absurd (let g : ⊥ = cc in g)
front_ascends (x ∷ y ∷ xs) ys e = both_fail (mac_before x y) (ascends mac_before (y ∷ xs)) (ascends mac_before ((y ∷ xs) ++ ys)) (front_ascends (y ∷ xs) ys) e
  where
    both_fail : (a b c : Bool) → (b ≡ false → c ≡ false) → a && b ≡ false → a && c ≡ false
    both_fail true b c h k = h k
    both_fail false b c h k = refl

-- so many entries, if they ascend after those before them
abbrev found : List MacData → ℕ → List ℕ → Option (List MacData × List ℕ)
found xs n bs = cond (ascends mac_before (xs ++ macs_in n bs)) (Some (xs ++ macs_in n bs, drop (34 * n) bs)) None

more_there : (n : ℕ) (xs : List MacData) (bs : List ℕ) → 34 * n ≤ length bs → ascends mac_before xs ≡ true → more_at mac_at (comes_after mac_before) n xs bs ≡ found xs n bs
more_there zero xs bs l a = rw (append-nil xs, a) refl
more_there (suc n) xs bs l a =
    rw (mac_there bs (omega arith)) (cases (comes_after mac_before xs (mac_in bs)) refl (more_there n (xs ++ mac_in bs ∷ []) (drop 34 bs) (omega (arith, length-drop 34 bs))))
  where
    seam : (xs ++ mac_in bs ∷ []) ++ macs_in n (drop 34 bs) ≡ xs ++ macs_in (suc n) bs
    seam = append_assoc xs (mac_in bs ∷ []) (macs_in n (drop 34 bs))

    more : Option (List MacData × List ℕ)
    more = more_at mac_at (comes_after mac_before) n (xs ++ mac_in bs ∷ []) (drop 34 bs)

    cases : (b : Bool) → comes_after mac_before xs (mac_in bs) ≡ b → (ascends mac_before (xs ++ mac_in bs ∷ []) ≡ true → more ≡ found (xs ++ mac_in bs ∷ []) n (drop 34 bs)) → cond b more None ≡ found xs (suc n) bs
    cases true f h =
        h (ascends_grows mac_before xs (mac_in bs) ∙ rw (a, f) refl)
        ∙ ap (λ ys. cond (ascends mac_before ys) (Some (ys, drop (34 * n) (drop 34 bs))) None) seam
        ∙ ap (λ r. cond (ascends mac_before (xs ++ macs_in (suc n) bs)) (Some (xs ++ macs_in (suc n) bs, r)) None) (next_entry n bs)
    cases false f h =
        let bad : ascends mac_before (xs ++ mac_in bs ∷ []) ≡ false = ascends_grows mac_before xs (mac_in bs) ∙ rw (a, f) refl in
        let none : ascends mac_before (xs ++ macs_in (suc n) bs) ≡ false = ap (ascends mac_before) (sym seam) ∙ front_ascends (xs ++ mac_in bs ∷ []) (macs_in n (drop 34 bs)) bad in
        sym (ap (λ b. cond b (Some (xs ++ macs_in (suc n) bs, drop (34 * suc n) bs)) None) none)

more_missing : (n : ℕ) (xs : List MacData) (bs : List ℕ) → length bs < 34 * n → more_at mac_at (comes_after mac_before) n xs bs ≡ None
more_missing zero xs bs l = absurd (omega arith)
more_missing (suc n) xs bs l = cases (ltb (length bs) 34) refl (λ k. more_missing n (xs ++ mac_in bs ∷ []) (drop 34 bs) (omega (arith, length-drop 34 bs)))
  where
    more : Option (List MacData × List ℕ)
    more = more_at mac_at (comes_after mac_before) n (xs ++ mac_in bs ∷ []) (drop 34 bs)

    neither : (b : Bool) → more ≡ None → cond b more None ≡ None
    neither true h = h
    neither false h = refl

    cases : (b : Bool) → ltb (length bs) 34 ≡ b → (34 ≤ length bs → more ≡ None) → more_at mac_at (comes_after mac_before) (suc n) xs bs ≡ None
    cases true e h = rw (mac_missing bs (ltb-true (length bs) 34 e)) refl
    cases false e h = let k : 34 ≤ length bs = ltb-false (length bs) 34 e in rw (mac_there bs k) (neither (comes_after mac_before xs (mac_in bs)) (h k))

-- ---- the list from its count

module _ (bs front : List ℕ) (n : ℕ) (e : byte_at bs ≡ Some (n, front)) (some : 1 ≤ n) (few : n ≤ 10) where
  from_count : macs_at bs ≡ more_at mac_at (comes_after mac_before) n [] front
  unfolding macs_at
  from_count =
      let k : leb 1 n ≡ true = le-leb 1 n some in
      let m : leb n 10 ≡ true = le-leb n 10 few in
      rw (e, k, m) refl

  pub macs_cut : length front < 34 * n → macs_at bs ≡ None
  macs_cut l = from_count ∙ more_missing n [] front l

  from_entries : 34 * n ≤ length front → macs_at bs ≡ found [] n front
  from_entries l = from_count ∙ more_there n [] front l refl

  pub macs_fall : 34 * n ≤ length front → ascends mac_before (macs_in n front) ≡ false → macs_at bs ≡ None
  macs_fall l a = from_entries l ∙ rw a refl

  pub macs_there : 34 * n ≤ length front → ascends mac_before (macs_in n front) ≡ true → macs_at bs ≡ Some (macs_in n front, drop (34 * n) front)
  macs_there l a = from_entries l ∙ rw a refl

-- ---- whether receivers ascend

pub next_ascends : (n m : ℕ) (bs : List ℕ) → n ≡ m + 1 → 1 ≤ m → big_number 2 bs < big_number 2 (drop 34 bs) → ascends mac_before (macs_in m (drop 34 bs)) ≡ ascends mac_before (macs_in n bs)
next_ascends n zero bs e p l = absurd (omega arith)
next_ascends n (suc m) bs e p l =
    let q : n ≡ suc (suc m) = omega arith in
    let b : ltb (big_number 2 bs) (big_number 2 (drop 34 bs)) ≡ true = lt-ltb _ _ l in
    rw q (sym (rw b refl))

pub next_falls : (n m : ℕ) (bs : List ℕ) → n ≡ m + 1 → 1 ≤ m → big_number 2 (drop 34 bs) ≤ big_number 2 bs → false ≡ ascends mac_before (macs_in n bs)
next_falls n zero bs e p l = absurd (omega arith)
next_falls n (suc m) bs e p l =
    let q : n ≡ suc (suc m) = omega arith in
    let b : ltb (big_number 2 bs) (big_number 2 (drop 34 bs)) ≡ false = le-ltb _ _ l in
    rw q (sym (rw b refl))
