-- The invariants of each transfer.
use Rattle.std.specs.Prelude.{◌≡◌, ℕ, List, length, Some, All}
use Rattle.std.specs.Option.{ForSome}
use Rattle.partition_tree.specs.Digests.{digest_of_children}
use Rattle.state_transfer.specs.Places.{IsPlace}
use Rattle.state_transfer.specs.Transfer.{TransferData, wanted}

-- These are the digests of 32 children.
abbrev pub AreOfChildren : List (List ℕ) → Type 0
AreOfChildren digests = length digests ≡ 32

-- These are the digests of 32 children, and this is their part's.
abbrev pub AreOfPart : List ℕ → List (List ℕ) → Type 0
AreOfPart digest digests = AreOfChildren digests × (digest_of_children digests ≡ digest)

-- There are 1,024 pages and 32 inner parts. If the digests of the inner parts are known, they have the wanted root.
-- This digest is wanted at the place asked for.
pub record IsTransfer (t : TransferData) (digest : List ℕ) : Type 0 where
  pub pages : length t.held ≡ 1024
  pub fetched : length t.fetched ≡ 1024
  pub parts : length t.page_digests ≡ 32
  pub root : ForSome t.part_digests (AreOfPart t.root)
  pub told : All (λ digests. ForSome digests AreOfChildren) t.page_digests
  pub place : IsPlace t.asked
  pub wanted : wanted t t.asked ≡ Some digest
