-- The results of functions that read bytes. They give the bytes that follow without a copy.
use Rattle.std.specs.Prelude.{ℕ, List, Option, Result}
use Rattle.std.specs.Borrow.{Bor}
use Rattle.tuple_codec.specs.declared.bad.Bad.{Bad}
use Rattle.tuple_tree.specs.Results.{Yields}
use Rattle.tuple_codec.specs.Results.{DecodingReturns}
use Rattle.tuple_tree.specs.Reading.{rest_of}

-- the value at the front, and the bytes after it
abbrev pub YieldsFront : {X Y : Type 0} → (X → Y) → Option (X × Bor (List ℕ))
    → Option (Y × List ℕ) → Type 0
YieldsFront view result read = Yields (λ x. (view x.0, x.1.now)) result read

-- the same, unless memory ran out
abbrev pub ReturnsFront : {X Y : Type 0} → (X → Y) → Result (X × Bor (List ℕ)) Bad
    → Option (Y × List ℕ) → Type 0
ReturnsFront view result read = DecodingReturns (λ x. (view x.0, x.1.now)) result read

-- only the bytes after the value
abbrev pub YieldsRest : {Y : Type 0} → Option (Bor (List ℕ)) → Option (Y × List ℕ) → Type 0
YieldsRest result read = Yields (λ rest. rest.now) result (rest_of read)
