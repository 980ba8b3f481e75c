-- Why a step is not allowed.
use Rattle.std.specs.Prelude.{◌≡◌, ℕ, ◌≤◌, true, false, ◌⊎◌, List, [], ◌∷◌, length, Contains, None}
use Rattle.terms.specs.Parties.{client_party, party_number}
use Rattle.protocol.specs.System.Configuration.{Configuration, is_correct, is_replica}
use Rattle.protocol.specs.System.Trace.{history_of}
use Rattle.protocol.specs.System.Schedule.{World, Step, IsAllowed, is_party}
use Rattle.protocol.specs.System.Schedule.Step.{calls, deliver, feed, seal, sign, ticks}
use Rattle.protocol.specs.Client.RightClient.{open_call}
use Rattle.schedule_command.specs.declared.allowed.NotAllowed.{NotAllowed}
use Rattle.schedule_command.specs.declared.allowed.NotAllowed.TheVariants as why

-- the correct party that a step is one of
abbrev pub IsOfCorrect : Step → ℕ → Type 0
IsOfCorrect (calls client op) p = p ≡ client_party client
IsOfCorrect (deliver frame party) p = p ≡ party
IsOfCorrect (feed party text) p = p ≡ party
IsOfCorrect (ticks party) p = p ≡ party
IsOfCorrect _ p = ⊥

-- the faulty party that a step is one of
abbrev pub IsOfFaulty : Step → ℕ → Type 0
IsOfFaulty (seal sender receivers body) p = p ≡ sender
IsOfFaulty (sign replica leaf receivers body) p = p ≡ replica
IsOfFaulty _ p = ⊥

-- the receivers that a step names
abbrev pub receivers_named : Step → List ℕ
receivers_named (seal sender receivers body) = receivers
receivers_named (sign replica leaf receivers body) = receivers
receivers_named _ = []

-- a party that a step names
abbrev pub Names : Step → ℕ → Type 0
Names step p = IsOfCorrect step p ⊎ IsOfFaulty step p ⊎ Contains (receivers_named step) p

-- Two parties stand one right after the other.
abbrev pub AreNeighbours : ℕ → ℕ → List ℕ → Type 0
AreNeighbours p q [] = ⊥
AreNeighbours p q (x ∷ []) = ⊥
AreNeighbours p q (x ∷ y ∷ xs) = ((p ≡ x) × (q ≡ y)) ⊎ AreNeighbours p q (y ∷ xs)

abbrev pub IsCall : Step → ℕ → Type 0
IsCall (calls client op) p = p ≡ client_party client
IsCall _ p = ⊥

abbrev pub IsDelivery : Step → ℕ → Type 0
IsDelivery (deliver frame party) n = n ≡ frame
IsDelivery _ n = ⊥

abbrev pub IsSigning : Step → ℕ → ℕ → Type 0
IsSigning (sign replica leaf receivers body) p n = (p ≡ replica) × (n ≡ leaf)
IsSigning _ p n = ⊥

-- What the reason says holds of the step and of the world before it.
abbrev pub IsReason : Configuration → World → Step → NotAllowed → Type 0
IsReason c w step (why.NoParty name) =
    Names step (party_number name.0) × (is_party c (party_number name.0) ≡ false)
IsReason c w step (why.Faulty name) =
    IsOfCorrect step (party_number name.0) × (is_party c (party_number name.0) ≡ true)
    × (is_correct c (party_number name.0) ≡ false)
IsReason c w step (why.Correct name) =
    IsOfFaulty step (party_number name.0) × (is_correct c (party_number name.0) ≡ true)
IsReason c w step (why.NoReplica name) =
    ((n : ℕ) × IsSigning step (party_number name.0) n) × (is_replica c (party_number name.0) ≡ false)
IsReason c w step (why.Busy name) =
    IsCall step (party_number name.0) × (open_call (history_of (party_number name.0) w.past) ≡ None → ⊥)
IsReason c w step (why.NoFrame frame made) = IsDelivery step frame × (length w.frames ≤ frame)
IsReason c w step (why.NoLeaf leaf) = ((p : ℕ) × IsSigning step p leaf) × (64 ≤ leaf)
IsReason c w step (why.Receivers count) =
    (count ≡ length (receivers_named step)) × ((count ≡ 0) ⊎ (11 ≤ count))
IsReason c w step (why.NotAscending first second) =
    AreNeighbours (party_number first.0) (party_number second.0) (receivers_named step)
    × (party_number second.0 ≤ party_number first.0)

-- Some world doesn't allow the step.
abbrev pub IsRefused : Configuration → Step → Type 0
IsRefused c step = (w : World) × (IsAllowed c w step → ⊥)

-- The reason holds in each world that doesn't allow the step.
abbrev pub SaysWhy : Configuration → Step → NotAllowed → Type 0
SaysWhy c step reason = (w : World) → (IsAllowed c w step → ⊥) → IsReason c w step reason
