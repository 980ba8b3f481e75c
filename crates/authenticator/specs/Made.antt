-- Keys that are made ready for many texts (RFC 2104, section 4), and the codes that several give at once.
use Rattle.std.specs.Prelude.{◌≡◌, ℕ, List, Some, map, slice_get}
use Rattle.std.specs.Borrow.{Bor}
use Rattle.hash_lanes.specs.Midstates.{IsAfter}
use Rattle.authenticator.specs.Keys.{Keys, mac_between}
use Rattle.authenticator.specs.Mac.{block_key, hmac_of, xor_each}
use Rattle.authenticator.specs.declared.mac.Key.{Key}

-- The key is made of these bytes: its hashes have taken in their block, mixed with either pad.
pub record IsMadeOf (key : Key) (bytes : List ℕ) : Type 0 where
  pub inner : IsAfter key.inner (xor_each 0x36 (block_key bytes))
  pub outer : IsAfter key.outer (xor_each 0x5c (block_key bytes))

-- the codes are those of the texts, in their order, under one key
abbrev pub AreMacsOf : List ℕ → List (Bor (List ℕ)) → List (List ℕ) → Type 0
AreMacsOf key texts macs = macs ≡ map (λ text. hmac_of key text.now) texts

-- each code is that of the text under its own key
abbrev pub AreMacsUnder : List (Bor Key) → List ℕ → List (List ℕ) → Type 0
AreMacsUnder keys text macs =
    (lane : ℕ) (key : Bor Key) (bytes : List ℕ) → slice_get keys lane ≡ Some key
    → IsMadeOf key.now bytes → slice_get macs lane ≡ Some (hmac_of bytes text)

-- the codes are those of a text from one party to others, in their order
abbrev pub AreMacsTo : Keys → ℕ → List ℕ → List ℕ → List (List ℕ) → Type 0
AreMacsTo keys from parties text macs = macs ≡ map (λ party. mac_between keys from party text) parties
