-- What is computed of four at once, lane by lane.
use Rattle.std.proofs.Common.{◌≡◌, ◌<◌, ℕ, zero, suc, List, [], ◌∷◌, ◌++◌, Some, length, map, get_or, refl, subst, sym, arith}
use Rattle.std.specs.Prelude.{slice_get}
use Rattle.std.specs.Borrow.{Bor}
use Rattle.std.proofs.lemmas.Option.{get_or_from_slice_get}
use Rattle.sha2.specs.Sha256.{sha256}
use Rattle.hash_lanes.specs.Midstates.{AreShort}
use Rattle.authenticator.specs.Mac.{block_key, hmac_of, xor_each}

-- each of four lanes
pub of_four : (P : ℕ → Type 0) → P 0 → P 1 → P 2 → P 3 → (lane : ℕ) → lane < 4 → P lane
of_four P a b c d zero within = a
of_four P a b c d (suc zero) within = b
of_four P a b c d (suc (suc zero)) within = c
of_four P a b c d (suc (suc (suc zero))) within = d
of_four P a b c d (suc (suc (suc (suc lane)))) within = absurd (omega arith)

-- a list that has f of each element of another, lane by lane
pub of_lanes : {X Y : Type 0} (f : X → Y) (xs : List X) (ys : List Y) → length ys ≡ length xs
    → ((lane : ℕ) (x : X) → slice_get xs lane ≡ Some x → slice_get ys lane ≡ Some (f x)) → ys ≡ map f xs
of_lanes f [] [] same each = refl
of_lanes f [] (y ∷ ys) same each = absurd (omega arith)
of_lanes f (x ∷ xs) [] same each = absurd (omega arith)
of_lanes f (x ∷ xs) (y ∷ ys) same each =
    let first : y ≡ f x = cc (each 0 x refl) in
    let others = of_lanes f xs ys (omega arith) (λ lane z here. each (suc lane) z here) in
    rw (first, others) refl

-- four texts of one length that end within a block
pub are_short : (n : ℕ) (a b c d : Bor (List ℕ)) → n < 56 → length a.now ≡ n → length b.now ≡ n → length c.now ≡ n → length d.now ≡ n
    → AreShort (a ∷ b ∷ c ∷ d ∷ [])
are_short n a b c d short one two three four = λ lane text here. subst (λ (k : ℕ). k < 56) (sym (each lane text here)) short
  where
    each : (lane : ℕ) (text : Bor (List ℕ)) → slice_get (a ∷ b ∷ c ∷ d ∷ []) lane ≡ Some text → length text.now ≡ n
    each zero text here = let same : a ≡ text = cc in subst (λ (t : Bor (List ℕ)). length t.now ≡ n) same one
    each (suc zero) text here = let same : b ≡ text = cc in subst (λ (t : Bor (List ℕ)). length t.now ≡ n) same two
    each (suc (suc zero)) text here = let same : c ≡ text = cc in subst (λ (t : Bor (List ℕ)). length t.now ≡ n) same three
    each (suc (suc (suc zero))) text here = let same : d ≡ text = cc in subst (λ (t : Bor (List ℕ)). length t.now ≡ n) same four
    each (suc (suc (suc (suc lane)))) text here = absurd cc

-- the outer hash over the inner one
pub hash_over : (key text : List ℕ) (lane : ℕ) (inner outer : List (List ℕ))
    → slice_get inner lane ≡ Some (sha256 (xor_each 0x36 (block_key key) ++ text))
    → slice_get outer lane ≡ Some (sha256 (xor_each 0x5c (block_key key) ++ get_or inner lane []))
    → slice_get outer lane ≡ Some (hmac_of key text)
unfolding hmac_of
hash_over key text lane inner outer first second =
    let digest = get_or_from_slice_get inner lane (sha256 (xor_each 0x36 (block_key key) ++ text)) [] first in
    rw digest at second
