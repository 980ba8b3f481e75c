-- The keys that parties share, and how one seed gives them: the derivation is this project's own. A party goes by its
-- number: replica r has the number r, client c the number 256 + c.
use Rattle.std.specs.Prelude.{ℕ, ◌==◌, Bool, ◌&&◌, List, [], ◌∷◌, ◌++◌, find, Option, Some, option_map}
use Rattle.std.specs.Int.{w16, to_be_bytes}
use Rattle.std.specs.Option.{option_map_or}
use Rattle.authenticator.specs.Mac.{hmac_of}
use Rattle.authenticator.specs.declared.row.SharedKey.{SharedKey}

-- ---- the derivation from a seed

-- the key from one party to another
unfoldable pub derived_key : List ℕ → ℕ → ℕ → List ℕ
derived_key seed from to = hmac_of seed (0x4d ∷ to_be_bytes w16 from ++ to_be_bytes w16 to)

-- the seed of a party's signatures
unfoldable pub signing_seed : List ℕ → ℕ → List ℕ
signing_seed seed signer = hmac_of seed (0x53 ∷ to_be_bytes w16 signer)

-- ---- the keys at hand

-- The keys of one party, each shared with another party; or those that a seed gives all parties.
pub data Keys : Type 0 where
  row : List SharedKey → Keys
  dealt : List ℕ → Keys

-- the key from one party to another, if it is among these
abbrev pub find_key : Keys → ℕ → ℕ → Option (List ℕ)
find_key (row keys) from to = option_map (λ s. s.key) (find (λ s. (s.from == from) && (s.to == to)) keys)
find_key (dealt seed) from to = Some (derived_key seed from to)

-- the authentication code of a text from one party to another, if they share a key
abbrev pub shared_mac : Keys → ℕ → ℕ → List ℕ → Option (List ℕ)
shared_mac keys from to text = option_map (λ key. hmac_of key text) (find_key keys from to)

-- ---- sealing

-- The key under which one party seals for another. Without a shared key it is empty: no party takes such a code.
unfoldable pub key_between : Keys → ℕ → ℕ → List ℕ
key_between keys from to = option_map_or (λ key. key) (find_key keys from to) []

-- the authentication code that one party makes of a text for another
abbrev pub mac_between : Keys → ℕ → ℕ → List ℕ → List ℕ
mac_between keys from to text = hmac_of (key_between keys from to) text

-- it is the key from the one party to the other
abbrev pub is_between : ℕ → ℕ → SharedKey → Bool
is_between from to shared = (shared.from == from) && (shared.to == to)
