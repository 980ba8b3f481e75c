-- The entries of an authenticator, made one by one.
use Rattle.std.proofs.Common.{◌≡◌, refl, [], ◌∷◌, ◌++◌, take, ◌<◌, ℕ, ◌+◌, List, map, length, get_or}
use Rattle.std.proofs.lemmas.List.{map-append, take_more}
use Rattle.terms.specs.declared.parties.Party.{Party}
use Rattle.terms.specs.Parties.{party_number}
use Rattle.wire_format.specs.declared.frames.ReceiverMac.{ReceiverMac}
use Rattle.wire_format.specs.Views.{mac_data}
use Rattle.authenticator.specs.Keys.{Keys, dealt, derived_key, key_between, mac_between}
use Rattle.authenticator.specs.Mac.{hmac_of}
use Rattle.authenticator.specs.Sealing.{entry_for}

-- the code that a seed gives
pub dealt_mac : (seed : List ℕ) (from to : ℕ) (text mac : List ℕ) → mac ≡ hmac_of (derived_key seed from to) text → mac ≡ mac_between (dealt seed) from to text
unfolding key_between
dealt_mac seed from to text mac is = is

-- one more entry is made
pub entries-push : (keys : Keys) (sender : ℕ) (text : List ℕ) (old : List ReceiverMac) (receivers : List Party) (i : ℕ) (receiver : Party) (mac : List ℕ)
    → i < length receivers → receiver ≡ get_or receivers i receiver → mac ≡ mac_between keys sender (party_number receiver) text
    → map mac_data old ≡ map (entry_for keys sender text) (map party_number (take i receivers))
    → map mac_data (old ++ record { receiver = receiver; mac = mac } ∷ []) ≡ map (entry_for keys sender text) (map party_number (take (i + 1) receivers))
entries-push keys sender text old receivers i receiver mac within here is made =
    rw (
      map-append mac_data old (record { receiver = receiver; mac = mac } ∷ []),
      take_more receivers i receiver within,
      ← here,
      map-append party_number (take i receivers) (receiver ∷ []),
      map-append (entry_for keys sender text) (map party_number (take i receivers)) (party_number receiver ∷ []),
      is,
      made,
    ) refl
