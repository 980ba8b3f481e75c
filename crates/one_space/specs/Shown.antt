-- The output of showing a tuple.
use Rattle.std.specs.Prelude.{◌≡◌, ℕ, List, [], ◌∷◌, ◌++◌, Option, Result, Ok, MatchResult}
use Rattle.std.specs.Io.KnownBytes.{Appends}
use Rattle.hex.specs.Hex.{decode_of}
use Rattle.tuple_tree.specs.Values.{TupleTree}
use Rattle.tuple_codec.specs.Spelling.{SpellsTuple}
use Rattle.tuple_text.specs.Written.{tuple_written}
use Rattle.one_space.specs.declared.digits.ShowFault.{ShowFault}
use Rattle.one_space.specs.declared.digits.ShowFault.TheVariants.{Malformed, NoMemory, Write}

-- The digits, two a byte, are those of bytes that spell the tuple and no more.
abbrev pub DigitsSpell : List ℕ → TupleTree → Type 0
DigitsSpell digits t = (bytes : List ℕ) × (decode_of digits ≡ Ok bytes) × SpellsTuple bytes t

-- The tuple's text and a line feed were added.
abbrev pub ShowsTuple : List ℕ → Option (List ℕ) → Option (List ℕ) → Type 0
ShowsTuple digits old new = (t : TupleTree) × DigitsSpell digits t × Appends old new (tuple_written t ++ 10 ∷ [])

-- Malformed digits spell no tuple, and nothing is written for them.
abbrev pub ShowFails : ShowFault → List ℕ → Option (List ℕ) → Option (List ℕ) → Type 0
ShowFails (Malformed why) digits old new = ((t : TupleTree) → DigitsSpell digits t → ⊥) × (new ≡ old)
ShowFails NoMemory digits old new = new ≡ old
ShowFails (Write error) digits old new = (t : TupleTree) × DigitsSpell digits t

-- the property of digits that gave no tuple
abbrev pub ReturnsNone : ShowFault → List ℕ → Type 0
ReturnsNone (Malformed why) digits = (t : TupleTree) → DigitsSpell digits t → ⊥
ReturnsNone NoMemory digits = Unit {0}
ReturnsNone (Write error) digits = ⊥

-- The digits' tuple was shown, or the fault says why not.
abbrev pub EndsShow : Result (Unit {0}) ShowFault → List ℕ → Option (List ℕ) → Option (List ℕ) → Type 0
EndsShow result digits old new =
    MatchResult result (λ _. ShowsTuple digits old new) (λ fault. ShowFails fault digits old new)

-- The digits' tuple was read, or the fault says why not.
abbrev pub ReadsDigits : Result TupleTree ShowFault → List ℕ → Type 0
ReadsDigits result digits =
    MatchResult result (λ tuple. DigitsSpell digits tuple) (λ fault. ReturnsNone fault digits)
