-- Lines without the blanks in front of them.
use Rattle.std.proofs.Common.{◌≡◌, inl, inr, ℕ, zero, suc, ◌+◌, ◌-◌, ◌<◌, ◌≤◌, ◌==◌, Bool, true, false, cond, List, [], ◌∷◌, ◌++◌, length, take, drop, refl, sym, ap, subst, ◌∙◌, arith, eq-eqb, eqb-true, length-append}
use Rattle.std.proofs.lemmas.List.{take-append-drop, length-drop}
use Rattle.tuple_text.specs.Texts.{AreBlanks}
use Rattle.tuple_text.specs.Lines.{IsSkipped, IsComment}
use Rattle.protocol.specs.System.Schedule.{Step}
use Rattle.schedule_text.specs.declared.lines.TheConstants.{MAX_STEP}
use Rattle.schedule_text.specs.Words.{trimmed, before_blank, from_blank}
use Rattle.schedule_text.specs.Steps.{IsStepLine, Arguments}
use Rattle.schedule_text.specs.Judged.{IsNone}
use Rattle.schedule_text.proofs.Skips.{blanks_trimmed, trimmed_blanks, too_long}

pub trimmed_behind : (p l : List ℕ) → AreBlanks p → trimmed (p ++ l) ≡ trimmed l
trimmed_behind [] l h = refl
trimmed_behind (b ∷ p) l h = ap (λ s. cond s (trimmed (p ++ l)) (b ∷ (p ++ l))) (eq-eqb b 32 h.0) ∙ trimmed_behind p l h.1

-- bytes behind a line that is not all blank
pub trimmed_before : (p l : List ℕ) → (AreBlanks p → ⊥) → trimmed (p ++ l) ≡ trimmed p ++ l
trimmed_before [] l other = absurd (other tt)
trimmed_before (b ∷ p) l other = at (b == 32) refl (trimmed_before p l)
  where
    at : (s : Bool) → (b == 32) ≡ s → ((AreBlanks p → ⊥) → trimmed (p ++ l) ≡ trimmed p ++ l)
        → cond s (trimmed (p ++ l)) (b ∷ (p ++ l)) ≡ cond s (trimmed p) (b ∷ p) ++ l
    at true e more = more (λ h. other (eqb-true b 32 e, h))
    at false e more = refl

-- more bytes leave no fewer
pub trimmed_grows : (p l : List ℕ) → length (trimmed p) ≤ length (trimmed (p ++ l))
trimmed_grows [] l = omega arith
trimmed_grows (b ∷ p) l = at (b == 32) (trimmed_grows p l)
  where
    at : (s : Bool) → length (trimmed p) ≤ length (trimmed (p ++ l))
        → length (cond s (trimmed p) (b ∷ p)) ≤ length (cond s (trimmed (p ++ l)) (b ∷ (p ++ l)))
    at true more = more
    at false more = omega (arith, length-append p l)

pub trimmed_short : (l : List ℕ) → length (trimmed l) ≤ length l
trimmed_short [] = omega arith
trimmed_short (b ∷ l) = at (b == 32) (trimmed_short l)
  where
    at : (s : Bool) → length (trimmed l) ≤ length l → length (cond s (trimmed l) (b ∷ l)) ≤ length (b ∷ l)
    at true more = omega (arith, more)
    at false more = omega arith

-- a part of a line leaves at least what the whole one does, but for the bytes that it lacks
pub trimmed_front : (l : List ℕ) (n : ℕ) → length (trimmed l) ≤ length (trimmed (take n l)) + (length l - n)
trimmed_front l zero = omega (arith, trimmed_short l)
trimmed_front [] (suc n) = omega arith
trimmed_front (b ∷ l) (suc n) = at (b == 32) (trimmed_front l n)
  where
    at : (s : Bool) → length (trimmed l) ≤ length (trimmed (take n l)) + (length l - n)
        → length (cond s (trimmed l) (b ∷ l)) ≤ length (cond s (trimmed (take n l)) (b ∷ take n l)) + (length (b ∷ l) - suc n)
    at true more = omega (arith, more)
    at false more = omega (arith, ap length (take-append-drop n l), length-append (take n l) (drop n l), length-drop n l)

pub not_comment : (p zs : List ℕ) → AreBlanks p → IsComment (p ++ 32 ∷ zs) → ⊥
not_comment [] zs h c = omega (arith, c)
not_comment (b ∷ p) zs h c = omega (arith, h.0, c)

-- a line that is judged as another, since they differ in blanks in front alone
module _ (l m : List ℕ) (same : trimmed m ≡ trimmed l) where
  pub skipped_as : (IsComment l → ⊥) → IsSkipped l → IsSkipped m
  skipped_as plain (inl blanks) = inl (trimmed_blanks m (same ∙ blanks_trimmed l blanks))
  skipped_as plain (inr comment) = absurd (plain comment)

  pub step_as : (step : Step) → IsStepLine step l → IsStepLine step m
  step_as step h = record {
    named = ap before_blank same ∙ h.named;
    arguments = subst (λ t. Arguments step (trimmed (from_blank t))) (sym same) h.arguments;
    range = h.range;
    size = subst (λ t. length t ≤ MAX_STEP) (sym same) h.size;
  }

pub none_as : (l m : List ℕ) → trimmed m ≡ trimmed l → (IsComment m → ⊥) → IsNone l → IsNone m
none_as l m same plain none = (
  λ skipped. none.0 (skipped_as m l (sym same) plain skipped),
  λ step said. none.1 step (step_as m l (sym same) step said),
)

-- a byte of a line that is not all blank and no comment makes the line too long
pub none_long : (line front : List ℕ) (n : ℕ) → take n line ≡ front → (IsComment line → ⊥) → MAX_STEP < length (trimmed front) → IsNone line
none_long line front n same plain long = too_long line plain (omega (arith, long, grown, ap length same))
  where
    grown : length (trimmed front) ≤ length (trimmed line)
    grown = subst (λ f. length (trimmed f) ≤ length (trimmed line)) same
        (subst (λ l. length (trimmed (take n line)) ≤ length (trimmed l)) (take-append-drop n line) (trimmed_grows (take n line) (drop n line)))

-- a line that begins with no blank
pub trimmed_stays : (l : List ℕ) → ((xs : List ℕ) → l ≡ 32 ∷ xs → ⊥) → trimmed l ≡ l
trimmed_stays [] other = refl
trimmed_stays (b ∷ l) other = at (b == 32) refl
  where
    at : (s : Bool) → (b == 32) ≡ s → cond s (trimmed l) (b ∷ l) ≡ b ∷ l
    at true e = absurd (other l (ap (λ x. x ∷ l) (eqb-true b 32 e)))
    at false e = refl
