-- A function of the program gives the value that a reader of the definitions reads.
use Rattle.std.specs.Prelude.{◌≡◌, ℕ, ◌≤◌, List, length, take, Option, Some, None, Result, Ok, Err, IfOk, MatchResult}
use Rattle.tuple_codec.specs.declared.bad.Bad.{Bad}
use Rattle.tuple_codec.specs.declared.bad.Bad.TheVariants as bad

abbrev pub DecodingFails : {Y : Type 0} → Bad → Option Y → Type 0
DecodingFails bad.NoMemory read = Unit {0}
DecodingFails bad.Malformed read = read ≡ None

-- the same, unless memory ran out
abbrev pub DecodingReturns : {X Y : Type 0} → (X → Y) → Result X Bad → Option Y → Type 0
DecodingReturns view (Ok x) read = read ≡ Some (view x)
DecodingReturns view (Err e) read = DecodingFails e read

-- The given value comes with a count, and so many first bytes spell it.
abbrev pub DecodesSpelled : {X V : Type 0} → (X → V) → (List ℕ → V → Type 0) → List ℕ → Result (X × ℕ) Bad → Type 0
DecodesSpelled view SpellsValue bytes result =
    IfOk result (λ x. (x.1 ≤ length bytes) × SpellsValue (take x.1 bytes) (view x.0))

-- If the first k bytes spell a value, that value and k are given, unless memory ran out.
abbrev pub DecodesEach : {X V : Type 0} → (X → V) → (List ℕ → V → Type 0) → List ℕ → Result (X × ℕ) Bad → Type 0
DecodesEach {V = V} view SpellsValue bytes result =
    (v : V) (k : ℕ) → k ≤ length bytes → SpellsValue (take k bytes) v
    → MatchResult result (λ x. (view x.0 ≡ v) × (x.1 ≡ k)) (λ e. e ≡ bad.NoMemory)

-- If some value passes the test IsOne, it is given, unless memory ran out. So at most one passes it if memory didn't
-- run out.
abbrev pub ReturnsEach : {X Y E : Type 0} → E → (X → Y) → (Y → Type 0) → Result X E → Type 0
ReturnsEach {Y = Y} no_memory view IsOne result =
    (y : Y) → IsOne y → MatchResult result (λ x. view x ≡ y) (λ e. e ≡ no_memory)
