-- Laws of the words on options.
use Rattle.std.proofs.Common.{◌≡◌, ◌⊎◌, inl, inr, Bool, true, false, List, [], ◌∷◌, Option, Some, None, refl}
use Rattle.std.specs.Prelude.{option_and_then}
use Rattle.protocol.specs.System.Trace.{Entry, Once}
use Rattle.std.specs.Bool.{then_some}
use Rattle.quorum.specs.Votes.{or_else}
use Rattle.protocol.specs.Replica.Certificates.{first_given}

pub or_else_first : {A : Type 0} (o later : Option A) (x : A) → o ≡ Some x → or_else o later ≡ Some x
or_else_first None later x e = absurd cc
or_else_first (Some y) later x e = e

pub or_else_second : {A : Type 0} (o later : Option A) → o ≡ None → or_else o later ≡ later
or_else_second None later h = refl
or_else_second (Some x) later h = absurd cc

pub or_else_alone : {A : Type 0} (o later : Option A) → later ≡ None → or_else o later ≡ o
or_else_alone None later h = h
or_else_alone (Some x) later h = refl

pub or_else_cases : {A : Type 0} (o later : Option A) (x : A) → or_else o later ≡ Some x → (o ≡ Some x) ⊎ (later ≡ Some x)
or_else_cases None later x e = inr e
or_else_cases (Some y) later x e = inl e

pub then_some_gives : {A : Type 0} (b : Bool) (x y : A) → then_some b x ≡ Some y → (b ≡ true) × (x ≡ y)
then_some_gives true x y e = (refl, cc)
then_some_gives false x y e = absurd cc

pub some_injective : {A : Type 0} (x y : A) → Some x ≡ Some y → x ≡ y
some_injective x y e = cc

pub and_then_some : {A B : Type 0} (f : A → Option B) (o : Option A) (y : B) → option_and_then f o ≡ Some y → (x : A) × (o ≡ Some x) × (f x ≡ Some y)
and_then_some f None y e = absurd cc
and_then_some f (Some x) y e = (x, refl, e)

-- ---- the first that is given

pub given_stays : {A : Type 0} (emit : List Entry → Entry → Option A) (x : A) (e : Entry) (past : List Entry)
    → first_given emit past ≡ Some x → first_given emit (e ∷ past) ≡ Some x
given_stays emit x e past h = or_else_first (first_given emit past) (emit past e) x h

pub given_once : {A : Type 0} (emit : List Entry → Entry → Option A) (x : A) (xs : List Entry)
    → first_given emit xs ≡ Some x → Once (λ past e. emit past e ≡ Some x) xs
given_once emit x [] h = absurd cc
given_once emit x (e ∷ past) h = go (or_else_cases (first_given emit past) (emit past e) x h) (given_once emit x past)
  where
    go : (first_given emit past ≡ Some x) ⊎ (emit past e ≡ Some x) → (first_given emit past ≡ Some x → Once (λ past e. emit past e ≡ Some x) past)
        → Once (λ past e. emit past e ≡ Some x) (e ∷ past)
    go (inl h) below = inr (below h)
    go (inr h) below = inl h
