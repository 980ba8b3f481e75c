-- Equal roots have equal pages, if no digests collide.
use Rattle.std.proofs.Common.{◌≡◌, ℕ, zero, suc, ◌+◌, ◌*◌, ◌/◌, ◌%◌, ◌≤◌, ◌<◌, ◌⊎◌, inl, inr, List, [], ◌∷◌, ◌++◌, length, map, take, drop, get_or, refl, sym, ap, ap₂, ◌∙◌, subst, arith}
use Rattle.std.specs.List.{concat, range_with_len}
use Rattle.std.proofs.lemmas.Bool.{cases_order}
use Rattle.std.proofs.lemmas.List.{same_lists, get_or_default, length-take, length-drop, get_or-take, get_or-drop}
use Rattle.sha2.specs.Sha256.{sha256}
use Rattle.sha2.proofs.Facts256.{length-sha256}
use Rattle.partition_tree.specs.Digests.{page_digests, inner_digests, root_of}
use Rattle.state_transfer.specs.Determining.{DoNotCollide}
use Rattle.state_transfer.specs.Determining.IsHashed.{page, inner, top}

-- two lists that begin with equally many elements
split : (xs ys us vs : List ℕ) → length xs ≡ length ys → xs ++ us ≡ ys ++ vs → (xs ≡ ys) × (us ≡ vs)
split [] [] us vs n h = (refl, h)
split [] (y ∷ ys) us vs n h = absurd (omega arith)
split (x ∷ xs) [] us vs n h = absurd (omega arith)
split (x ∷ xs) (y ∷ ys) us vs n h =
    let m : length xs ≡ length ys = omega arith in
    let head : x ≡ y = cc in
    let tail : xs ++ us ≡ ys ++ vs = cc in
    let r = split xs ys us vs m tail in
    (ap₂ (λ (a : ℕ) (b : List ℕ). a ∷ b) head r.0, r.1)

-- two digests, each with what stands behind it
behind : (x y us vs : List ℕ) → sha256 x ++ us ≡ sha256 y ++ vs → (sha256 x ≡ sha256 y) × (us ≡ vs)
behind x y us vs h = split (sha256 x) (sha256 y) us vs (length-sha256 x ∙ sym (length-sha256 y)) h

-- digests of a run of texts, written one after another, are told apart
run_digests : (f g : ℕ → List ℕ) (first n : ℕ) → concat (map (λ j. sha256 (f j)) (range_with_len first n)) ≡ concat (map (λ j. sha256 (g j)) (range_with_len first n))
    → (j : ℕ) → first ≤ j → j < first + n → sha256 (f j) ≡ sha256 (g j)
run_digests f g first zero h j l m = absurd (omega arith)
run_digests f g first (suc n) h j l m = go (cases_order first j) (run_digests f g (first + 1) n s.1 j)
  where
    s : (sha256 (f first) ≡ sha256 (g first)) × (concat (map (λ j. sha256 (f j)) (range_with_len (first + 1) n)) ≡ concat (map (λ j. sha256 (g j)) (range_with_len (first + 1) n)))
    s = behind (f first) (g first) (concat (map (λ j. sha256 (f j)) (range_with_len (first + 1) n))) (concat (map (λ j. sha256 (g j)) (range_with_len (first + 1) n))) h

    go : (first ≡ j) ⊎ ((first < j) ⊎ (j < first)) → (first + 1 ≤ j → j < first + 1 + n → sha256 (f j) ≡ sha256 (g j)) → sha256 (f j) ≡ sha256 (g j)
    go (inl e) below = subst (λ k. sha256 (f k) ≡ sha256 (g k)) e s.0
    go (inr (inl k)) below = let a : first + 1 ≤ j = omega arith in let b : j < first + 1 + n = omega arith in below a b
    go (inr (inr k)) below = absurd (omega arith)

-- the same of a list of texts
list_digests : (xs ys : List (List ℕ)) → length xs ≡ length ys → concat (map sha256 xs) ≡ concat (map sha256 ys) → (r : ℕ) → sha256 (get_or xs r []) ≡ sha256 (get_or ys r [])
list_digests [] [] n h r = refl
list_digests [] (y ∷ ys) n h r = absurd (omega arith)
list_digests (x ∷ xs) [] n h r = absurd (omega arith)
list_digests (x ∷ xs) (y ∷ ys) n h zero = (behind x y (concat (map sha256 xs)) (concat (map sha256 ys)) h).0
list_digests (x ∷ xs) (y ∷ ys) n h (suc r) =
    let m : length xs ≡ length ys = omega arith in
    list_digests xs ys m (behind x y (concat (map sha256 xs)) (concat (map sha256 ys)) h).1 r

-- ---- the tree

inner_is : (pages : List (List ℕ)) → inner_digests pages ≡ map (λ j. sha256 (concat (page_digests pages j))) (range_with_len 0 32)
unfolding inner_digests
inner_is pages = refl

part_is : (pages : List (List ℕ)) (j : ℕ) → page_digests pages j ≡ map sha256 (take 32 (drop (32 * j) pages))
unfolding page_digests
part_is pages j = refl

length_part : (pages others : List (List ℕ)) (j : ℕ) → length pages ≡ length others → length (take 32 (drop (32 * j) pages)) ≡ length (take 32 (drop (32 * j) others))
length_part pages others j n =
    let a = length-take 32 (drop (32 * j) pages) in
    let b = length-take 32 (drop (32 * j) others) in
    let c = length-drop (32 * j) pages in
    let d = length-drop (32 * j) others in
    omega (arith, a, b, c, d, n)

page_of_part : (pages : List (List ℕ)) (j r : ℕ) → r < 32 → get_or (take 32 (drop (32 * j) pages)) r [] ≡ get_or pages (32 * j + r) []
page_of_part pages j r l = get_or-take 32 (drop (32 * j) pages) r [] l ∙ get_or-drop (32 * j) pages r []

module _ (pages others : List (List ℕ)) (all : length pages ≡ 1024) (alike : length others ≡ 1024) (same : root_of pages ≡ root_of others) (apart : DoNotCollide pages others) where
  same_inner : concat (inner_digests pages) ≡ concat (inner_digests others)
  same_inner = apart (concat (inner_digests pages)) (concat (inner_digests others)) top top same

  same_part : (j : ℕ) → j < 32 → concat (page_digests pages j) ≡ concat (page_digests others j)
  same_part j l =
      let low : 0 ≤ j = omega arith in
      let high : j < 0 + 32 = omega arith in
      apart (concat (page_digests pages j)) (concat (page_digests others j)) (inner j l) (inner j l)
      (run_digests (λ j. concat (page_digests pages j)) (λ j. concat (page_digests others j)) 0 32 (ap concat (sym (inner_is pages)) ∙ same_inner ∙ ap concat (inner_is others)) j low high)

  same_in_part : (j r : ℕ) → j < 32 → r < 32 → get_or pages (32 * j + r) [] ≡ get_or others (32 * j + r) []
  same_in_part j r l m =
      let n : length pages ≡ length others = all ∙ sym alike in
      let i : 32 * j + r < 1024 = omega arith in
      let digests = list_digests (take 32 (drop (32 * j) pages)) (take 32 (drop (32 * j) others)) (length_part pages others j n)
      (ap concat (sym (part_is pages j)) ∙ same_part j l ∙ ap concat (part_is others j)) r in
      apart (get_or pages (32 * j + r) []) (get_or others (32 * j + r) []) (page (32 * j + r) i) (page (32 * j + r) i)
      (ap sha256 (sym (page_of_part pages j r m)) ∙ digests ∙ ap sha256 (page_of_part others j r m))

  same_page : (i : ℕ) → i < 1024 → get_or pages i [] ≡ get_or others i []
  same_page i l =
      let j : i / 32 < 32 = omega arith in
      let r : i % 32 < 32 = omega arith in
      let is : 32 * (i / 32) + i % 32 ≡ i = omega arith in
      subst (λ k. get_or pages k [] ≡ get_or others k []) is (same_in_part (i / 32) (i % 32) j r)

  pub same_pages : pages ≡ others
  same_pages =
      let n : length pages ≡ length others = all ∙ sym alike in
      same_lists pages others n
      (λ k d l. let i : k < 1024 = omega arith in let m : k < length others = omega arith in
      get_or_default pages k d [] l ∙ same_page k i ∙ get_or_default others k [] d m)
