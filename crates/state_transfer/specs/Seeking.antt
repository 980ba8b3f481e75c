-- Definitions for the private function that seeks the missing place.
use Rattle.std.specs.Prelude.{◌≡◌, ◌≢◌, Some}
use Rattle.partition_tree.specs.Digests.{root_of}
use Rattle.state_transfer.specs.declared.missing.Missing.{Missing}
use Rattle.state_transfer.specs.Places.{IsPlace}
use Rattle.state_transfer.specs.Transfer.{TransferData, next_place, wanted}

-- The place is the next one to ask for, and this digest is wanted there.
pub record IsFirstMissing (t : TransferData) (missing : Missing) : Type 0 where
  pub first : next_place t ≡ Some missing.place
  pub place : IsPlace missing.place
  pub wanted : wanted t missing.place ≡ Some missing.digest
  pub differs : root_of t.held ≢ t.root
