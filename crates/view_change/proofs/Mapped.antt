-- Tests over lists that stand for other lists.
use Rattle.std.specs.List.{list_all, list_any}
use Rattle.std.proofs.Common.{◌≡◌, Bool, List, [], ◌∷◌, map, refl, ap, ◌&&◌, ◌||◌}

pub any_mapped : {A B : Type 0} (view : A → B) (test : B → Bool) (xs : List A) → list_any test (map view xs) ≡ list_any (λ x. test (view x)) xs
any_mapped view test [] = refl
any_mapped view test (x ∷ xs) = ap (λ b. test (view x) || b) (any_mapped view test xs)

pub all_mapped : {A B : Type 0} (view : A → B) (test : B → Bool) (xs : List A) → list_all test (map view xs) ≡ list_all (λ x. test (view x)) xs
all_mapped view test [] = refl
all_mapped view test (x ∷ xs) = ap (λ b. test (view x) && b) (all_mapped view test xs)
