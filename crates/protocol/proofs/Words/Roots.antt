-- Equal roots have equal pages, if no digests collide.
use Rattle.std.proofs.Common.{◌≡◌, ℕ, zero, suc, ◌+◌, ◌-◌, ◌*◌, ◌/◌, ◌≤◌, ◌<◌, ◌⊎◌, inl, inr, List, [], ◌∷◌, ◌++◌, length, map, take, drop, refl, sym, ap, ap₂, ◌∙◌, subst, arith}
use Rattle.std.specs.List.{concat, range_with_len}
use Rattle.std.proofs.lemmas.Bool.{cases_order}
use Rattle.std.proofs.lemmas.List.FromFn.{take-map-range_with_len}
use Rattle.sha2.specs.Sha256.{sha256}
use Rattle.sha2.proofs.Facts256.{length-sha256}
use Rattle.partition_tree.specs.Digests.{page_digests, inner_digests, root_of as root_of_pages}
use Rattle.protocol.specs.System.Configuration.{Configuration}
use Rattle.protocol.specs.System.Trace.{Entry}
use Rattle.protocol.specs.Replica.State.{all_pages}
use Rattle.protocol.specs.System.Texts.{IsText, NoCollision, IsUnder}
use Rattle.protocol.specs.System.Texts.IsUnder.{inner, top}

-- two lists that begin with equally many elements
pub split : (xs ys us vs : List ℕ) → length xs ≡ length ys → xs ++ us ≡ ys ++ vs → (xs ≡ ys) × (us ≡ vs)
split [] [] us vs n h = (refl, h)
split [] (y ∷ ys) us vs n h = absurd (omega arith)
split (x ∷ xs) [] us vs n h = absurd (omega arith)
split (x ∷ xs) (y ∷ ys) us vs n h =
    let m : length xs ≡ length ys = omega arith in
    let head : x ≡ y = cc in
    let tail : xs ++ us ≡ ys ++ vs = cc in
    let r = split xs ys us vs m tail in
    (ap₂ (λ (a : ℕ) (b : List ℕ). a ∷ b) head r.0, r.1)

-- digests written one after another are told apart
same_digests : (f g : ℕ → List ℕ) (first n : ℕ) → concat (map (λ j. sha256 (f j)) (range_with_len first n)) ≡ concat (map (λ j. sha256 (g j)) (range_with_len first n))
    → (j : ℕ) → first ≤ j → j < first + n → sha256 (f j) ≡ sha256 (g j)
same_digests f g first zero h j l m = absurd (omega arith)
same_digests f g first (suc n) h j l m = go (cases_order first j) (same_digests f g (first + 1) n s.1 j)
  where
    s : (sha256 (f first) ≡ sha256 (g first)) × (concat (map (λ j. sha256 (f j)) (range_with_len (first + 1) n)) ≡ concat (map (λ j. sha256 (g j)) (range_with_len (first + 1) n)))
    s = split (sha256 (f first)) (sha256 (g first)) (concat (map (λ j. sha256 (f j)) (range_with_len (first + 1) n))) (concat (map (λ j. sha256 (g j)) (range_with_len (first + 1) n)))
        (length-sha256 (f first) ∙ sym (length-sha256 (g first))) h

    go : (first ≡ j) ⊎ ((first < j) ⊎ (j < first)) → (first + 1 ≤ j → j < first + 1 + n → sha256 (f j) ≡ sha256 (g j)) → sha256 (f j) ≡ sha256 (g j)
    go (inl e) below = subst (λ k. sha256 (f k) ≡ sha256 (g k)) e s.0
    go (inr (inl k)) below = let a : first + 1 ≤ j = omega arith in let b : j < first + 1 + n = omega arith in below a b
    go (inr (inr k)) below = absurd (omega arith)

-- ---- the digests of a part's pages

map_twice : (g : ℕ → List ℕ) (xs : List ℕ) → map sha256 (map g xs) ≡ map (λ i. sha256 (g i)) xs
map_twice g [] = refl
map_twice g (x ∷ xs) = ap (λ t. sha256 (g x) ∷ t) (map_twice g xs)

dropped : (g : ℕ → List ℕ) (a n k : ℕ) → k ≤ n → drop k (map g (range_with_len a n)) ≡ map g (range_with_len (a + k) (n - k))
dropped g a n zero l = let e : a ≡ a + 0 = omega arith in let d : n ≡ n - 0 = omega arith in ap₂ (λ (x y : ℕ). map g (range_with_len x y)) e d
dropped g a zero (suc k) l = absurd (omega arith)
dropped g a (suc n) (suc k) l =
    let m : k ≤ n = omega arith in
    let e : a + 1 + k ≡ a + suc k = omega arith in
    let d : n - k ≡ suc n - suc k = omega arith in
    dropped g (a + 1) n k m ∙ ap₂ (λ (x y : ℕ). map g (range_with_len x y)) e d

part_at : (g : ℕ → List ℕ) (n k m : ℕ) → k + m ≤ n → map sha256 (take m (drop k (map g (range_with_len 0 n)))) ≡ map (λ i. sha256 (g i)) (range_with_len k m)
part_at g n k m l =
    let a : k ≤ n = omega arith in
    let b : m ≤ n - k = omega arith in
    let z : 0 + k ≡ k = omega arith in
    ap (λ (xs : List (List ℕ)). map sha256 (take m xs)) (dropped g 0 n k a)
    ∙ ap (map sha256) (take-map-range_with_len g (0 + k) (n - k) m b)
    ∙ map_twice g (range_with_len (0 + k) m)
    ∙ ap (λ (x : ℕ). map (λ i. sha256 (g i)) (range_with_len x m)) z

pub pages_part : (g : ℕ → List ℕ) (j : ℕ) → j < 32 → page_digests (all_pages g) j ≡ map (λ i. sha256 (g i)) (range_with_len (32 * j) 32)
unfolding page_digests all_pages
pages_part g j l = let m : 32 * j + 32 ≤ 1024 = omega arith in part_at g 1024 (32 * j) 32 m

pub inner_is : (pages : List (List ℕ)) → inner_digests pages ≡ map (λ j. sha256 (concat (page_digests pages j))) (range_with_len 0 32)
unfolding inner_digests
inner_is pages = refl

-- ---- equal roots

pub same_pages : (c : Configuration) (trace : List Entry) (g h : ℕ → List ℕ) → NoCollision c trace
    → ((text : List ℕ) → IsUnder g text → IsText c trace text) → ((text : List ℕ) → IsUnder h text → IsText c trace text)
    → ((i : ℕ) → i < 1024 → IsText c trace (g i)) → ((i : ℕ) → i < 1024 → IsText c trace (h i))
    → root_of_pages (all_pages g) ≡ root_of_pages (all_pages h) → (i : ℕ) → i < 1024 → g i ≡ h i
same_pages c trace g h apart under_g under_h text_g text_h same i l =
    let roots : concat (inner_digests (all_pages g)) ≡ concat (inner_digests (all_pages h)) =
    apart (concat (inner_digests (all_pages g))) (concat (inner_digests (all_pages h))) (under_g (concat (inner_digests (all_pages g))) top) (under_h (concat (inner_digests (all_pages h))) top) same in
    let zero_le : 0 ≤ i / 32 = omega arith in
    let inner_lt : i / 32 < 32 = omega arith in
    let inner_lt' : i / 32 < 0 + 32 = omega arith in
    let digest = same_digests (λ j. concat (page_digests (all_pages g) j)) (λ j. concat (page_digests (all_pages h) j)) 0 32
    (ap concat (sym (inner_is (all_pages g))) ∙ roots ∙ ap concat (inner_is (all_pages h))) (i / 32) zero_le inner_lt' in
    let parts : concat (page_digests (all_pages g) (i / 32)) ≡ concat (page_digests (all_pages h) (i / 32)) =
    apart (concat (page_digests (all_pages g) (i / 32))) (concat (page_digests (all_pages h) (i / 32)))
    (under_g (concat (page_digests (all_pages g) (i / 32))) (inner (i / 32) inner_lt)) (under_h (concat (page_digests (all_pages h) (i / 32))) (inner (i / 32) inner_lt)) digest in
    let low' : 32 * (i / 32) ≤ i = omega arith in
    let high : i < 32 * (i / 32) + 32 = omega arith in
    apart (g i) (h i) (text_g i l) (text_h i l)
    (same_digests g h (32 * (i / 32)) 32 (ap concat (sym (pages_part g (i / 32) inner_lt)) ∙ parts ∙ ap concat (pages_part h (i / 32) inner_lt)) i low' high)
