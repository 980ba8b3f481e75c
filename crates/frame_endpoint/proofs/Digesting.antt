-- Lists of digests.
use Rattle.std.proofs.Common.{ℕ, suc, ◌<◌, List, [], ◌∷◌, length, get_or, arith}
use Rattle.wire_format.specs.Lists.{Each}

-- A property of the item at each index is one of each item.
pub each_of : {X : Type 0} (P : X → Type 0) (xs : List X) (d : X) → ((i : ℕ) → i < length xs → P (get_or xs i d)) → Each P xs
each_of P [] d h = tt
each_of P (x ∷ xs) d h = (h 0 (omega arith), each_of P xs d (λ i l. h (suc i) (omega arith)))
