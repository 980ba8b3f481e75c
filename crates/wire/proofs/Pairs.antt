-- A text with a value beside it.
use Rattle.std.proofs.Common.{◌≡◌, Some, None, Option, ℕ, List, [], ap}

front : {A : Type 0} → Option (List ℕ × A) → List ℕ
front None = []
front (Some p) = p.0

pub same_text : {A : Type 0} (s t : List ℕ) (x y : A) → ◌≡◌ {A = Option (List ℕ × A)} (Some (s, x)) (Some (t, y)) → s ≡ t
unfolding front
same_text s t x y e = ap front e
