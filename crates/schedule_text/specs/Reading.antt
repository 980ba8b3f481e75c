-- The results of reading words of a line, for the contracts of private functions.
use Rattle.std.specs.Prelude.{◌≡◌, ◌≢◌, ℕ, List, [], Option, MatchOption, Result, MatchResult, All}
use Rattle.std.specs.Fmt.{decimal}
use Rattle.terms.specs.Parties.{client_party}
use Rattle.protocol.specs.System.Schedule as schedules
use Rattle.schedule_text.specs.declared.step.Step.{Step}
use Rattle.schedule_text.specs.declared.fault.StepFault.{StepFault}
use Rattle.schedule_text.specs.declared.fault.StepFault.TheVariants.{Refused, NoMemory}
use Rattle.schedule_text.specs.Steps.{party_text, parties_text, IsPartyNumber, IsWord, HasRange, Arguments, step_name}
use Rattle.schedule_text.specs.StepView.{step_of}
use Rattle.schedule_text.specs.Words.{first_word, after_word}

-- the texts of values as words
abbrev pub NumberText : ℕ → List ℕ → Type 0
NumberText n word = (word ≡ decimal n) × IsWord n

abbrev pub PartyText : ℕ → List ℕ → Type 0
PartyText p word = (word ≡ party_text p) × IsPartyNumber p

abbrev pub ClientText : ℕ → List ℕ → Type 0
ClientText k word = (word ≡ decimal k) × IsPartyNumber (client_party k)

abbrev pub PartiesText : List ℕ → List ℕ → Type 0
PartiesText ps word = (ps ≢ []) × (word ≡ parties_text ps) × All IsPartyNumber ps

-- a refusal says why, unless memory ran out
abbrev pub Because : StepFault → Type 0 → Type 0
Because (Refused byte reason) why = why
Because NoMemory why = Unit {0}

-- The text is that of the value, or of no value.
abbrev pub FindsValue : {V S : Type 0} → (V → S) → (S → List ℕ → Type 0) → List ℕ → Option V → Type 0
FindsValue view IsText text found = MatchOption found ((s : _) → IsText s text → ⊥) (λ v. IsText (view v) text)

-- The same, unless memory ran out.
abbrev pub JudgesWord : {V S : Type 0} → (V → S) → (S → List ℕ → Type 0) → List ℕ → Result V StepFault → Type 0
JudgesWord view IsText text result =
    MatchResult result (λ v. IsText (view v) text) (λ fault. Because fault ((s : _) → IsText s text → ⊥))

-- the first word, which is not empty, and the rest after it
pub record IsFirstWord (line word rest : List ℕ) : Type 0 where
  pub some : word ≢ []
  pub first : first_word line ≡ word
  pub behind : rest ≡ after_word line

-- the first word is the text of the value
pub record FirstWordIsText (IsText : List ℕ → Type 0) (line rest : List ℕ) : Type 0 where
  pub some : first_word line ≢ []
  pub text : IsText (first_word line)
  pub behind : rest ≡ after_word line

-- The first word is the text of the value and is passed, or is the text of no value.
abbrev pub ReadsWord : {V S : Type 0} → (V → S) → (S → List ℕ → Type 0) → List ℕ → Result V StepFault → List ℕ → Type 0
ReadsWord view IsText line result rest =
    MatchResult result (λ v. FirstWordIsText (IsText (view v)) line rest)
    (λ fault. Because fault ((s : _) → first_word line ≢ [] → IsText s (first_word line) → ⊥))

-- a step of this name, with this rest of the line after the name
pub record IsNamed (name_read rest : List ℕ) (step : schedules.Step) : Type 0 where
  pub named : step_name step ≡ name_read
  pub arguments : Arguments step rest
  pub range : HasRange step

-- The rest after the name is that of the step, or of no step.
abbrev pub JudgesNamed : List ℕ → List ℕ → Result Step StepFault → Type 0
JudgesNamed name_read rest result =
    MatchResult result (λ step. IsNamed name_read rest (step_of step))
    (λ fault. Because fault ((step : schedules.Step) → IsNamed name_read rest step → ⊥))
