-- A running event: where it began, its outputs, and the messages still to be sent.
use Rattle.std.specs.Prelude.{◌≡◌, ℕ, ◌⊎◌, true, List, [], ◌∷◌, ◌++◌, ⊤}
use Rattle.wire_format.specs.Messages.{MessageData as Message}
use Rattle.protocol.specs.System.Configuration.{Configuration}
use Rattle.protocol.specs.System.Trace.{Entry, Has, is_output}
use Rattle.protocol.specs.Replica.RightReplica.{Point, IsStep}
use Rattle.protocol.specs.Replica.Owed.{SendsMessage}

-- the start of an event: the past, the input, and the point then
pub record Start : Type 0 where
  pub before : List Entry
  pub input : Entry
  pub old : Point

-- the history after these outputs, the newest first
abbrev pub after_outputs : Start → List Entry → List Entry
after_outputs s outputs = outputs ++ s.input ∷ s.before

-- steps from the point at the input to the one after it and these outputs
abbrev pub Steps : Configuration → ℕ → Start → List Entry → Point → Type 0
Steps c me s [] new = IsStep c me s.before s.old s.input new
Steps c me s (e ∷ outputs) new =
    (mid : Point) × Steps c me s outputs mid × IsStep c me (after_outputs s outputs) mid e new × (is_output e ≡ true)

-- at each of the outputs, the newest first, with its past
abbrev pub AtEach : (List Entry → Entry → Type 0) → Start → List Entry → Type 0
AtEach P s [] = ⊤
AtEach P s (e ∷ outputs) = P (after_outputs s outputs) e × AtEach P s outputs

-- the message is due, or was sent in the event
abbrev pub IsOnItsWay : ℕ → List Message → List Entry → Message → Type 0
IsOnItsWay me due outputs message = Has (λ x. x ≡ message) due ⊎ SendsMessage me message outputs
