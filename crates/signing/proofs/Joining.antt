-- Lists written one after another: one more of them, their length, and each found again.
use Rattle.std.proofs.Common.{◌≡◌, ℕ, zero, suc, ◌+◌, ◌-◌, ◌*◌, ◌<◌, ◌≤◌, List, [], ◌++◌, ◌∙◌, length, take, drop, refl, ap, sym, inl, inr, arith, add-one, length-append}
use Rattle.std.proofs.lemmas.Bool.{cases_lt}
use Rattle.std.proofs.lemmas.Nat.{row_fits}
use Rattle.std.proofs.lemmas.List.{append_assoc, append-nil, take-append-le, drop-append-le, drop_at, take_all, length-drop}
use Rattle.signing.specs.Joined.{end_to_end}

pub joined-none : (f : ℕ → List ℕ) → end_to_end 0 f ≡ []
unfolding end_to_end
joined-none f = refl

pub joined_more : (n : ℕ) (f : ℕ → List ℕ) → end_to_end (n + 1) f ≡ end_to_end n f ++ f n
unfolding end_to_end
joined_more n f = rw add-one refl

pub joined-same : (n : ℕ) (f g : ℕ → List ℕ) → ((k : ℕ) → k < n → f k ≡ g k) → end_to_end n f ≡ end_to_end n g
unfolding end_to_end
joined-same zero f g same = refl
joined-same (suc n) f g same =
    rw (joined-same n f g (λ k below. same k (omega arith)), same n (omega arith)) refl

pub length-joined : (n width : ℕ) (f : ℕ → List ℕ) → ((k : ℕ) → k < n → length (f k) ≡ width) → length (end_to_end n f) ≡ n * width
unfolding end_to_end
length-joined zero width f wide = omega arith
length-joined (suc n) width f wide =
    rw (length-append, length-joined n width f (λ k below. wide k (omega arith)), wide n (omega arith)) (omega arith)

-- the k-th part stands after k others
pub joined-part : (n width : ℕ) (f : ℕ → List ℕ) → ((k : ℕ) → k < n → length (f k) ≡ width) → (k : ℕ) → k < n → take width (drop (width * k) (end_to_end n f)) ≡ f k
unfolding end_to_end
joined-part zero width f wide k below = absurd (omega arith)
joined-part (suc n) width f wide k below =
    let whole : length (end_to_end n f) ≡ n * width = length-joined n width f (λ j earlier. wide j (omega arith)) in
    elim (cases_lt k n) [
      | inl earlier ↦
          let room : k * width + width ≤ n * width = row_fits k width n width earlier (omega arith) in
          let start : width * k ≤ length (end_to_end n f) = omega arith in
          let rest : length (drop (width * k) (end_to_end n f)) ≡ length (end_to_end n f) - width * k = length-drop (width * k) (end_to_end n f) in
          let end : width ≤ length (drop (width * k) (end_to_end n f)) = omega arith in
          rw (drop-append-le (width * k) (end_to_end n f) (f n) start, take-append-le width (drop (width * k) (end_to_end n f)) (f n) end)
          (joined-part n width f (λ j sooner. wide j (omega arith)) k earlier)
      | inr later ↦
          let last : k ≡ n = omega arith in
          let start : length (end_to_end n f) ≡ width * k = rw last (omega arith) in
          rw (drop_at (end_to_end n f) (f n) (width * k) start, take_all width (f n) (omega (arith, wide n)), last) refl
    ]

-- a part appended after the first n makes one more
pub joined_push : (base : List ℕ) (n : ℕ) (f : ℕ → List ℕ) (items last : List ℕ) → items ≡ base ++ end_to_end n f ++ last → last ≡ f n → items ≡ base ++ end_to_end (n + 1) f
joined_push base n f items last appended is_next =
    appended ∙ append_assoc base (end_to_end n f) last ∙ ap (λ rest. base ++ (end_to_end n f ++ rest)) is_next ∙ ap (λ rest. base ++ rest) (sym (joined_more n f))

-- the same if it is appended in two halves
pub joined_push_two : (base : List ℕ) (n : ℕ) (f : ℕ → List ℕ) (items first second : List ℕ) → items ≡ base ++ end_to_end n f ++ first ++ second → first ++ second ≡ f n → items ≡ base ++ end_to_end (n + 1) f
joined_push_two base n f items first second appended is_next =
    joined_push base n f items (first ++ second) (appended ∙ append_assoc (base ++ end_to_end n f) first second) is_next

pub append-joined_none : (base : List ℕ) (f : ℕ → List ℕ) → base ≡ base ++ end_to_end 0 f
append-joined_none base f = rw (joined-none, append-nil) refl

-- n parts, and m more
pub joined_add : (n m : ℕ) (f : ℕ → List ℕ) → end_to_end (n + m) f ≡ end_to_end n f ++ end_to_end m (λ k. f (n + k))
unfolding end_to_end
joined_add n zero f = let none : n + 0 ≡ n = omega arith in rw (none, append-nil) refl
joined_add n (suc m) f =
    let next : n + suc m ≡ suc (n + m) = omega arith in
    rw (next, joined_add n m f, append_assoc) refl

pub joined_fours : (group : ℕ) (f : ℕ → List ℕ) → end_to_end (4 * (group + 1)) f ≡ end_to_end (4 * group) f ++ end_to_end 4 (λ k. f (4 * group + k))
joined_fours group f = let next : 4 * (group + 1) ≡ 4 * group + 4 = omega arith in rw next (joined_add (4 * group) 4 f)

-- the same if they are appended
pub joined_push_four : (base : List ℕ) (group : ℕ) (f : ℕ → List ℕ) (was items : List ℕ) → was ≡ base ++ end_to_end (4 * group) f
    → items ≡ was ++ end_to_end 4 (λ k. f (4 * group + k)) → items ≡ base ++ end_to_end (4 * (group + 1)) f
joined_push_four base group f was items before appended =
    appended ∙ rw (before, joined_fours group f) (append_assoc base (end_to_end (4 * group) f) (end_to_end 4 (λ k. f (4 * group + k))))
