-- The parts of a state that a transfer takes, and why it refuses the others (Castro and Liskov, TOCS 2002, on state
-- transfer). It tells the first fault that applies.
use Rattle.std.specs.Prelude.{◌≡◌, ◌≢◌, ℕ, List, Some}
use Rattle.sha2.specs.Sha256.{sha256}
use Rattle.partition_tree.specs.Digests.{digest_of_children}
use Rattle.terms.specs.declared.state.Level.TheVariants.{Page}
use Rattle.state_transfer.specs.declared.part_fault.PartFault.{PartFault}
use Rattle.state_transfer.specs.declared.part_fault.PartFault.TheVariants.{NotAsked, WrongDigest, NoMemory}
use Rattle.state_transfer.specs.declared.place.Place.{Place}
use Rattle.state_transfer.specs.Places.{page_place}
use Rattle.state_transfer.specs.Transfer.{TransferData, wanted, with_page, replaced_at, given_back}

-- This is the place asked for last, and the state's number.
pub record IsAskedLast (t : TransferData) (number : ℕ) (place : Place) : Type 0 where
  pub of_state : t.number ≡ number
  pub at_place : t.asked ≡ place

-- This is the place asked for last, and it has children. A page has none.
abbrev pub IsMetaAsked : TransferData → ℕ → Place → Type 0
IsMetaAsked t number place = IsAskedLast t number place × (place.level ≢ Page)

-- The digest wanted at the place asked for is known.
abbrev pub DigestIsKnown : TransferData → Type 0
DigestIsKnown t = (digest : List ℕ) × (wanted t t.asked ≡ Some digest)

-- Digests of children are refused for this fault. They take no memory.
abbrev pub RefusesMeta : TransferData → ℕ → Place → List (List ℕ) → PartFault → Type 0
RefusesMeta t number place digests NotAsked = IsMetaAsked t number place → ⊥
RefusesMeta t number place digests WrongDigest =
    IsMetaAsked t number place × (wanted t place ≢ Some (digest_of_children digests))
RefusesMeta t number place digests NoMemory = ⊥

-- The text of a page is refused for this fault. Only a wanted text takes memory.
abbrev pub RefusesPage : TransferData → ℕ → ℕ → List ℕ → PartFault → Type 0
RefusesPage t number page text NotAsked = IsAskedLast t number (page_place page) → ⊥
RefusesPage t number page text WrongDigest =
    IsAskedLast t number (page_place page) × (wanted t (page_place page) ≢ Some (sha256 text))
RefusesPage t number page text NoMemory =
    IsAskedLast t number (page_place page) × (wanted t (page_place page) ≡ Some (sha256 text))

-- Giving a page back at once leaves the transfer as it was.
abbrev pub PuttingBackRestores : Type 0
PuttingBackRestores =
    (t : TransferData) (page : ℕ) (text : List ℕ)
    → given_back (with_page t page text) (replaced_at t page) ≡ t
