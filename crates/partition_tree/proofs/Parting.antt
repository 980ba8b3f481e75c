-- Pages as parts of 32, and the digests of both.
use Rattle.std.proofs.Common.{◌≡◌, ℕ, zero, suc, ◌+◌, ◌*◌, ◌-◌, ◌<◌, List, [], ◌∷◌, ◌++◌, length, map, take, drop, set, get_or, replicate, refl, ap, ◌∙◌, sym, arith}
use Rattle.std.proofs.lemmas.List.{length-append, length-map, take_at, drop_at, drop-drop, set-append_left, set-append_right, get_or_append_left, get_or-append_right, get_or-map, replicate-append-replicate}
use Rattle.std.proofs.lemmas.List.Elements.{All-head, All-tail}
use Rattle.std.proofs.lemmas.List.FromFn.{fill_by_all}
use Rattle.sha2.specs.Sha256.{sha256}
use Rattle.partition_tree.specs.Digests.{digest_of_children, page_digests, inner_digest, inner_digests, empty_pages}
use Rattle.partition_tree.specs.Parts.{pages_in, part_digest, AreFull}

length-first : {A : Type 0} (p : List A) (ps : List (List A)) → AreFull (p ∷ ps) → length p ≡ 32
length-first p ps h = All-head (λ q. length q ≡ 32) p ps h

rest_full : {A : Type 0} (p : List A) (ps : List (List A)) → AreFull (p ∷ ps) → AreFull ps
rest_full p ps h = All-tail (λ q. length q ≡ 32) p ps h

pub length-pages_in : {A : Type 0} (ps : List (List A)) → AreFull ps → length (pages_in ps) ≡ 32 * length ps
length-pages_in [] h = refl
length-pages_in (p ∷ ps) h =
    let first = length-first p ps h in
    let rest = length-pages_in ps (rest_full p ps h) in
    omega (arith, length-append p (pages_in ps))

pub page_at : {A : Type 0} (ps : List (List A)) (j r : ℕ) (d : A) → AreFull ps → j < length ps → r < 32 → get_or (pages_in ps) (32 * j + r) d ≡ get_or (get_or ps j []) r d
page_at [] j r d h p q = absurd (omega arith)
page_at (x ∷ xs) zero r d h p q =
    let first = length-first x xs h in
    let at : 32 * 0 + r ≡ r = omega arith in
    ap (λ k. get_or (x ++ pages_in xs) k d) at ∙ get_or_append_left x (pages_in xs) d r (omega arith)
page_at (x ∷ xs) (suc j) r d h p q =
    let at : 32 * suc j + r - 32 ≡ 32 * j + r = omega arith in
    get_or-append_right x (pages_in xs) 32 (32 * suc j + r) d (length-first x xs h) (omega arith)
    ∙ ap (λ k. get_or (pages_in xs) k d) at
    ∙ page_at xs j r d (rest_full x xs h) (omega arith) q

pub page_set : {A : Type 0} (ps : List (List A)) (j r : ℕ) (y : A) → AreFull ps → j < length ps → r < 32
    → pages_in (set ps j (set (get_or ps j []) r y)) ≡ set (pages_in ps) (32 * j + r) y
page_set [] j r y h p q = absurd (omega arith)
page_set (x ∷ xs) zero r y h p q =
    let first = length-first x xs h in
    let at : r ≡ 32 * 0 + r = omega arith in
    sym (set-append_left x (pages_in xs) r y (omega arith)) ∙ ap (λ k. set (x ++ pages_in xs) k y) at
page_set (x ∷ xs) (suc j) r y h p q =
    let at : 32 * j + r ≡ 32 * suc j + r - 32 = omega arith in
    ap (λ ys. x ++ ys) (page_set xs j r y (rest_full x xs h) (omega arith) q ∙ ap (λ k. set (pages_in xs) k y) at)
    ∙ sym (set-append_right x (pages_in xs) 32 (32 * suc j + r) y (length-first x xs h) (omega arith))

pub part_at : {A : Type 0} (ps : List (List A)) (j : ℕ) → AreFull ps → j < length ps → take 32 (drop (32 * j) (pages_in ps)) ≡ get_or ps j []
part_at [] j h p = absurd (omega arith)
part_at (x ∷ xs) zero h p = take_at x (pages_in xs) 32 (length-first x xs h)
part_at (x ∷ xs) (suc j) h p =
    let at : 32 * suc j ≡ 32 + 32 * j = omega arith in
    ap (λ k. take 32 (drop k (x ++ pages_in xs))) at
    ∙ ap (take 32) (sym (drop-drop (32 * j) 32 (x ++ pages_in xs)))
    ∙ ap (λ ys. take 32 (drop (32 * j) ys)) (drop_at x (pages_in xs) 32 (length-first x xs h))
    ∙ part_at xs j (rest_full x xs h) (omega arith)

pages_alike : {A : Type 0} (n : ℕ) (x : A) → pages_in (replicate n (replicate 32 x)) ≡ replicate (32 * n) x
pages_alike zero x = refl
pages_alike (suc n) x =
    let at : 32 + 32 * n ≡ 32 * suc n = omega arith in
    ap (λ ys. replicate 32 x ++ ys) (pages_alike n x) ∙ replicate-append-replicate 32 (32 * n) x ∙ ap (λ k. replicate k x) at

-- the parts of a new tree
pub parts_of_empty : pages_in (replicate 32 (replicate 32 [])) ≡ empty_pages
unfolding empty_pages
parts_of_empty = pages_alike 32 []

-- The digests, computed from the parts.
module _ (parts : List (List (List ℕ))) (full : AreFull parts) (count : length parts ≡ 32) where
  pub page_digests_of_part : (j : ℕ) → j < 32 → map sha256 (get_or parts j []) ≡ page_digests (pages_in parts) j
  unfolding page_digests
  page_digests_of_part j h = ap (map sha256) (sym (part_at parts j full (omega arith)))

  pub inner_of_parts : map part_digest parts ≡ inner_digests (pages_in parts)
  unfolding inner_digests
  inner_of_parts =
      fill_by_all (inner_digest (pages_in parts)) (map part_digest parts) 32 [] (length-map parts part_digest ∙ count)
      (λ j h. get_or-map part_digest parts j [] [] (omega arith) ∙ ap digest_of_children (page_digests_of_part j h))
