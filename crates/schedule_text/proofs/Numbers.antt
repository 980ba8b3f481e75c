-- The decimal text of a number is UTF-8, is read as that number, and is that of no other.
use Rattle.std.proofs.Common.{◌≡◌, ℕ, ◌==◌, false, List, ◌∷◌, subst, sym}
use Rattle.std.specs.Fmt.{decimal}
use Rattle.std.specs.Str.{IsUtf8}
use Rattle.std.proofs.lemmas.Bool.{eqb-false}
use Rattle.std.proofs.lemmas.Fmt.{IsAscii-decimal}
use Rattle.std.proofs.lemmas.Str.{IsUtf8-from_ascii}
use Rattle.schedule_text.specs.Reading.{NumberText, Because}
use Rattle.schedule_text.specs.declared.fault.StepFault.{StepFault}
use Rattle.schedule_text.specs.declared.fault.StepFault.TheVariants.{Refused, NoMemory}

pub number_utf8 : (n : ℕ) (word : List ℕ) → NumberText n word → IsUtf8 word
number_utf8 n word h = subst IsUtf8 (sym h.0) (IsUtf8-from_ascii (decimal n) (IsAscii-decimal n h.1))

-- a reason to refuse Q is a reason to refuse P, if P implies Q
pub because : (fault : StepFault) {P Q : Type 0} → (P → Q) → Because fault P → Because fault Q
because (Refused byte reason) f h = f h
because NoMemory f h = tt

heads : (a b : ℕ) (xs ys : List ℕ) → a ∷ xs ≡ b ∷ ys → a ≡ b
heads a b xs ys e = cc

-- two texts that differ in their first byte
pub differ : (a b : ℕ) (xs ys : List ℕ) → (a == b) ≡ false → a ∷ xs ≡ b ∷ ys → ⊥
differ a b xs ys d e = eqb-false a b d (heads a b xs ys e)
