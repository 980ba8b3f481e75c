-- What the private functions that read bytes speak of.
use Rattle.std.specs.Prelude.{◌≡◌, ℕ, ◌+◌, ◌<◌, ◌^◌, Bool, MatchBool, List, [], ◌++◌, length, Option, Some, IfSome, Result, IfOk, Vec, vec_len, vec_capacity, ◌≤◌}
use Rattle.std.specs.Int.{w32, to_be_bytes}
use Rattle.records.specs.Records.{IsPartial, TakesRecord}

-- a part was taken from the front of the bytes xs
pub record TakesPart (xs : List ℕ) (left : Option (List ℕ)) (part : List ℕ) : Type 0 where
  pub rest : List ℕ
  pub split : xs ≡ part ++ rest
  pub left_is : left ≡ Some rest

-- A part was taken and stands behind the bytes before.
pub record TakesMore (xs : List ℕ) (left : Option (List ℕ)) (before after : List ℕ) : Type 0 where
  pub part : List ℕ
  pub takes : TakesPart xs left part
  pub kept : after ≡ before ++ part

-- Some bytes were taken, or the input has ended.
abbrev pub TakesSome : {R E : Type 0} → (R → Option (List ℕ)) → Result Bool E → R → R → List ℕ → List ℕ → Type 0
TakesSome remaining result old new before after =
    IfSome (remaining old) (λ xs. IfOk result (λ more. MatchBool more
    (TakesMore xs (remaining new) before after)
    ((xs ≡ []) × (after ≡ before))))

-- Bytes were taken until there are so many, or the input ended before.
abbrev pub Fills : {R E : Type 0} → (R → Option (List ℕ)) → Result Bool E → ℕ → R → R → List ℕ → List ℕ → Type 0
Fills remaining result count old new before after =
    IfSome (remaining old) (λ xs. IfOk result (λ full. MatchBool full
    (TakesMore xs (remaining new) before after × (length after ≡ count))
    ((after ≡ before ++ xs) × (length after < count))))

-- So many bytes were passed, or the input ended before.
abbrev pub Passes : {R E : Type 0} → (R → Option (List ℕ)) → Result Bool E → ℕ → R → R → Type 0
Passes remaining result count old new =
    IfSome (remaining old) (λ xs. IfOk result (λ full. MatchBool full
    ((part : List ℕ) × TakesPart xs (remaining new) part × (length part ≡ count))
    (length xs < count)))

-- The next record is taken, or there is none.
abbrev pub ReadsRecord : {R E : Type 0} → (R → Option (List ℕ)) → Result Bool E → R → R → List ℕ → Type 0
ReadsRecord remaining result old new kept =
    IfSome (remaining old) (λ xs. IfOk result (λ more.
    MatchBool more (TakesRecord xs (remaining new) kept) (IsPartial xs × (kept ≡ []))))

-- the number that the first four bytes spell
pub record SaysLength (bytes : List ℕ) (n : ℕ) : Type 0 where
  pub rest : List ℕ
  pub split : bytes ≡ to_be_bytes w32 n ++ rest
  pub fits : n < 2 ^ 32

-- ---- what the private functions that write records speak of

-- There is room for so many bytes more.
abbrev pub HasRoom : {A : Type 0} → Vec ℕ A → ℕ → Type 0
HasRoom out n = vec_len out + n ≤ vec_capacity out

-- The text follows the old bytes, and only its own room is gone.
abbrev pub FillsRoom : {A : Type 0} → List ℕ → Vec ℕ A → Vec ℕ A → Type 0
FillsRoom text old new =
    (new.items ≡ old.items ++ text) × (vec_len new ≡ vec_len old + length text) × (vec_capacity old ≤ vec_capacity new)
