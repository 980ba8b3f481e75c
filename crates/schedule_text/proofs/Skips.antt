-- Lines that are skipped, and lines that are none of a step.
use Rattle.std.proofs.Common.{◌≡◌, ℕ, ◌<◌, ◌≤◌, length, arith, ◌==◌, Bool, true, false, cond, List, [], ◌∷◌, inl, inr, refl, ap, sym, subst, ◌∙◌}
use Rattle.std.proofs.lemmas.Bool.{eq-eqb, eqb-true}
use Rattle.tuple_text.specs.Texts.{AreBlanks}
use Rattle.tuple_text.specs.Lines.{IsSkipped, IsComment}
use Rattle.protocol.specs.System.Schedule as schedules
use Rattle.schedule_text.specs.Words.{trimmed, before_blank}
use Rattle.schedule_text.specs.Steps.{IsStepLine, Arguments}
use Rattle.schedule_text.specs.Reading.{IsFirstWord, IsNamed, Because}
use Rattle.schedule_text.specs.Judged.{IsNone, RefusesStep}
use Rattle.schedule_text.specs.declared.lines.TheConstants.{MAX_STEP}
use Rattle.schedule_text.specs.declared.fault.StepFault.{StepFault}
use Rattle.schedule_text.specs.declared.fault.StepFault.TheVariants.{Refused, NoMemory}

pub blanks_trimmed : (line : List ℕ) → AreBlanks line → trimmed line ≡ []
blanks_trimmed [] h = refl
blanks_trimmed (b ∷ bs) h = ap (λ s. cond s (trimmed bs) (b ∷ bs)) (eq-eqb b 32 h.0) ∙ blanks_trimmed bs h.1

blanks_case : (b : ℕ) (bs : List ℕ) (s : Bool) → (b == 32) ≡ s → (trimmed bs ≡ [] → AreBlanks bs) → cond s (trimmed bs) (b ∷ bs) ≡ [] → AreBlanks (b ∷ bs)
blanks_case b bs true e f h = (eqb-true b 32 e, f h)
blanks_case b bs false e f h = absurd (let g : ⊥ = cc in g)

pub trimmed_blanks : (line : List ℕ) → trimmed line ≡ [] → AreBlanks line
trimmed_blanks [] h = tt
trimmed_blanks (b ∷ bs) h = blanks_case b bs (b == 32) refl (trimmed_blanks bs) h

pub not_skipped : (line word rest : List ℕ) → IsFirstWord line word rest → (IsComment line → ⊥) → IsSkipped line → ⊥
not_skipped line word rest first plain (inl blanks) = first.some (sym first.first ∙ ap before_blank (blanks_trimmed line blanks))
not_skipped line word rest first plain (inr comment) = plain comment

named : (line word rest : List ℕ) → IsFirstWord line word rest → (step : schedules.Step) → IsStepLine step line → IsNamed word rest step
named line word rest first step h = record {
  named = sym h.named ∙ first.first;
  arguments = subst (Arguments step) (sym first.behind) h.arguments;
  range = h.range;
}

pub is_none : (line word rest : List ℕ) → IsFirstWord line word rest → (IsComment line → ⊥)
    → ((step : schedules.Step) → IsNamed word rest step → ⊥) → IsNone line
is_none line word rest first plain none = (
  not_skipped line word rest first plain,
  λ step h. none step (named line word rest first step h),
)

-- a reason to refuse the words after the name is one to refuse the line
pub refuses : (line word rest : List ℕ) → IsFirstWord line word rest → (IsComment line → ⊥) → (fault : StepFault)
    → Because fault ((step : schedules.Step) → IsNamed word rest step → ⊥) → RefusesStep fault line
refuses line word rest first plain (Refused byte reason) h = is_none line word rest first plain h
refuses line word rest first plain NoMemory h = tt

-- A line that is too long is none.
pub too_long : (line : List ℕ) → (IsComment line → ⊥) → MAX_STEP < length (trimmed line) → IsNone line
too_long line plain long = (unskipped, λ step h. omega (arith, h.size, long))
  where
    unskipped : IsSkipped line → ⊥
    unskipped (inl blanks) = let none : length (trimmed line) ≡ 0 = ap length (blanks_trimmed line blanks) in omega (arith, none, long)
    unskipped (inr comment) = plain comment

pub not_blank : (line : List ℕ) → (IsComment line → ⊥) → MAX_STEP < length (trimmed line) → IsSkipped line → ⊥
not_blank line plain long skipped = (too_long line plain long).0 skipped

-- the step of the words after the name is that of the line
pub reads : (line word rest : List ℕ) (step : schedules.Step) → IsFirstWord line word rest → length (trimmed line) ≤ MAX_STEP → IsNamed word rest step → IsStepLine step line
reads line word rest step first short h = record {
  named = first.first ∙ sym h.named;
  arguments = subst (Arguments step) first.behind h.arguments;
  range = h.range;
  size = short;
}
