-- The public keys of replicas, and their derivation from the seed of a configuration, which is this project's own.
use Rattle.std.specs.Prelude.{ℕ, ◌+◌, ◌*◌, List, [], map, slice_index_or}
use Rattle.std.specs.List.{range_with_len}
use Rattle.authenticator.specs.Keys.{signing_seed}
use Rattle.authenticator.specs.Membership.{Membership}
use Rattle.signing.specs.Signatures.{public_key}

-- The public key of a replica, if they are in order. Others have none, and no signature verifies under an empty key.
abbrev pub public_of : List (List ℕ) → ℕ → List ℕ
public_of publics signer = slice_index_or publics signer []

-- those that a seed gives
abbrev pub derived_publics : List ℕ → ℕ → List (List ℕ)
derived_publics seed faults = map (λ r. public_key (signing_seed seed r)) (range_with_len 0 (3 * faults + 1))

-- what a party knows that has the keys of this ring, and these public keys
abbrev pub knows : Membership → List (List ℕ) → Membership
knows ring publics = record ring { publics = publics }
