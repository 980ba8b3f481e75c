-- Definitions for the private functions that look for the reason: why a part of a step fits no world.
use Rattle.std.specs.Prelude.{◌≡◌, ℕ, ◌≤◌, ◌<◌, true, false, ◌⊎◌, List, length, Contains, ⊤}
use Rattle.terms.specs.Parties.{client_party, party_number}
use Rattle.protocol.specs.System.Configuration.{Configuration, is_correct, is_replica}
use Rattle.protocol.specs.System.Schedule.{Step, AreReceivers, is_party}
use Rattle.protocol.specs.System.Schedule.Step.{calls, deliver, feed, seal, sign, ticks, flush}
use Rattle.schedule_command.specs.Allowed.{AreNeighbours}
use Rattle.schedule_command.specs.declared.allowed.NotAllowed.{NotAllowed}
use Rattle.schedule_command.specs.declared.allowed.NotAllowed.TheVariants as why

-- What a step asks of the configuration, whatever the world.
abbrev pub FitsParties : Configuration → Step → Type 0
FitsParties c (calls client op) = is_correct c (client_party client) ≡ true
FitsParties c (deliver frame party) = is_correct c party ≡ true
FitsParties c (feed party text) = is_correct c party ≡ true
FitsParties c (seal sender receivers body) =
    ((is_party c sender ≡ true) × (is_correct c sender ≡ false)) × AreReceivers c receivers
FitsParties c (sign replica leaf receivers body) =
    ((is_replica c replica ≡ true) × (is_correct c replica ≡ false) × (leaf < 64)) × AreReceivers c receivers
FitsParties c (ticks party) = is_correct c party ≡ true
FitsParties c flush = ⊤

-- The party p is no correct one.
abbrev pub MisfitsCorrect : Configuration → ℕ → NotAllowed → Type 0
MisfitsCorrect c p (why.NoParty name) = (party_number name.0 ≡ p) × (is_party c p ≡ false)
MisfitsCorrect c p (why.Faulty name) =
    (party_number name.0 ≡ p) × (is_party c p ≡ true) × (is_correct c p ≡ false)
MisfitsCorrect c p _ = ⊥

-- The party p is no faulty one.
abbrev pub MisfitsFaulty : Configuration → ℕ → NotAllowed → Type 0
MisfitsFaulty c p (why.NoParty name) = (party_number name.0 ≡ p) × (is_party c p ≡ false)
MisfitsFaulty c p (why.Correct name) = (party_number name.0 ≡ p) × (is_correct c p ≡ true)
MisfitsFaulty c p _ = ⊥

-- The party p doesn't sign with this leaf.
abbrev pub MisfitsSigner : Configuration → ℕ → ℕ → NotAllowed → Type 0
MisfitsSigner c p leaf (why.NoParty name) = (party_number name.0 ≡ p) × (is_party c p ≡ false)
MisfitsSigner c p leaf (why.Correct name) = (party_number name.0 ≡ p) × (is_correct c p ≡ true)
MisfitsSigner c p leaf (why.NoReplica name) = (party_number name.0 ≡ p) × (is_replica c p ≡ false)
MisfitsSigner c p leaf (why.NoLeaf n) = (n ≡ leaf) × (64 ≤ leaf)
MisfitsSigner c p leaf _ = ⊥

-- The configuration doesn't have this one of the parties.
abbrev pub IsStranger : Configuration → List ℕ → ℕ → Type 0
IsStranger c ps p = Contains ps p × (is_party c p ≡ false)

abbrev pub MisfitsOrder : List ℕ → NotAllowed → Type 0
MisfitsOrder ps (why.NotAscending first second) =
    AreNeighbours (party_number first.0) (party_number second.0) ps
    × (party_number second.0 ≤ party_number first.0)
MisfitsOrder ps _ = ⊥

-- No frame is for these parties.
abbrev pub MisfitsReceivers : Configuration → List ℕ → NotAllowed → Type 0
MisfitsReceivers c ps (why.Receivers count) = (count ≡ length ps) × ((count ≡ 0) ⊎ (11 ≤ count))
MisfitsReceivers c ps (why.NoParty name) = IsStranger c ps (party_number name.0)
MisfitsReceivers c ps (why.NotAscending first second) = MisfitsOrder ps (why.NotAscending first second)
MisfitsReceivers c ps _ = ⊥
