-- The keys and codes that a ring keeps.
use Rattle.std.specs.Prelude.{◌≡◌, ℕ, Bool, ◌&&◌, List, Some, nat_eq, ◌⊎◌}
use Rattle.std.specs.Option.{ForSome}
use Rattle.std.specs.HashMap.{HashMap, get}
use Rattle.authenticator.specs.Keys.{Keys, find_key, shared_mac}
use Rattle.authenticator.specs.Made.{IsMadeOf}
use Rattle.authenticator.specs.declared.mac.Key.{Key}
use Rattle.authenticator.specs.declared.ring.CodedText.{CodedText}

abbrev pub pair_eq : ℕ × ℕ → ℕ × ℕ → Bool
pair_eq x y = nat_eq x.0 y.0 && nat_eq x.1 y.1

-- each value fits its two parties
abbrev pub ValuesFit : {V S : Type 0} → (ℕ → ℕ → V → Type 0) → HashMap (ℕ × ℕ) V S → Type 0
ValuesFit fits kept = (from to : ℕ) → ForSome (get pair_eq kept (from, to)) (fits from to)

-- the key is made of the one that the two parties share
abbrev pub IsKeyBetween : Keys → ℕ → ℕ → Key → Type 0
IsKeyBetween keys from to key = (bytes : List ℕ) × (find_key keys from to ≡ Some bytes) × IsMadeOf key bytes

-- each kept key is the one between its two parties
abbrev pub KeysFit : {S : Type 0} → Keys → HashMap (ℕ × ℕ) Key S → Type 0
KeysFit keys kept = ValuesFit (IsKeyBetween keys) kept

-- the code is that of the text from the one party to the other
abbrev pub IsCodeBetween : Keys → ℕ → ℕ → List ℕ → List ℕ → Type 0
IsCodeBetween keys from to text code = shared_mac keys from to text ≡ Some code

-- each kept code is that of its text from the one party to the other
abbrev pub CodesFit : {S : Type 0} → Keys → HashMap (ℕ × ℕ) CodedText S → Type 0
CodesFit keys kept = ValuesFit (λ from to it. IsCodeBetween keys from to it.text.items it.code) kept

-- the text and its code are taken, or those before stay
abbrev pub KeepsOrTakesText : List ℕ → List ℕ → CodedText → CodedText → Type 0
KeepsOrTakesText text code old new =
    ((new.text.items ≡ text) × (new.code ≡ code))
    ⊎ ((new.text.items ≡ old.text.items) × (new.code ≡ old.code))
