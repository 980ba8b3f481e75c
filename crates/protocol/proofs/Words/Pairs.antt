-- Each two of a list, as a list of the program says it and as it is taken apart.
use Rattle.std.proofs.Common.{zero, suc, List, [], ◌∷◌, arith, All, AllPairs}
use Rattle.std.proofs.lemmas.List.Kept.{AllPairs-cons}
use Rattle.wire_format.specs.Lists.{Each}

abbrev pub Pairs : {A : Type 0} → (A → A → Type 0) → List A → Type 0
Pairs R [] = Unit {0}
Pairs R (x ∷ xs) = Each (R x) xs × Pairs R xs

pub each_of : {A : Type 0} (P : A → Type 0) (xs : List A) → All P xs → Each P xs
each_of P [] h = tt
each_of P (x ∷ xs) h = (h 0 x (omega arith), each_of P xs (λ k d l. h (suc k) d (omega (arith, l))))

pub all_of : {A : Type 0} (P : A → Type 0) (xs : List A) → Each P xs → All P xs
all_of P [] e k d l = absurd (omega (arith, l))
all_of P (x ∷ xs) e zero d l = e.0
all_of P (x ∷ xs) e (suc k) d l = all_of P xs e.1 k d (omega (arith, l))

pub pairs_of : {A : Type 0} (R : A → A → Type 0) (xs : List A) → AllPairs R xs → Pairs R xs
pairs_of R [] h = tt
pairs_of R (x ∷ xs) h =
    (each_of (R x) xs (λ k d l. h 0 (suc k) d (omega arith) (omega (arith, l))), pairs_of R xs (λ i j d l m. h (suc i) (suc j) d (omega (arith, l)) (omega (arith, m))))

pub all_pairs : {A : Type 0} (R : A → A → Type 0) (xs : List A) → Pairs R xs → AllPairs R xs
all_pairs R [] h = λ i j d l m. absurd (omega (arith, m))
all_pairs R (x ∷ xs) h = AllPairs-cons R x xs (all_of (R x) xs h.0) (all_pairs R xs h.1)
