-- When a frame is authentic to a party: its sender made a MAC of its body for that party (Castro and Liskov, Practical
-- Byzantine fault tolerance and proactive recovery, TOCS 2002, on the authentication of messages).
use Rattle.std.specs.Prelude.{ℕ, Bool, false, ◌&&◌, ◌==◌, List, Option, bytes_eq, option_map}
use Rattle.std.specs.List.{list_any}
use Rattle.std.specs.Option.{option_map_or}
use Rattle.wire_format.specs.Messages.{BodyData, MacData, AuthenticatorData, macs, signature, FrameData}
use Rattle.wire_format.specs.Spelling.{body_spelling}
use Rattle.authenticator.specs.Keys.{Keys, find_key, mac_between}
use Rattle.authenticator.specs.Mac.{hmac_of}

-- the MAC that its sender makes of a body for a party
abbrev pub mac_of : Keys → ℕ → BodyData → List ℕ
mac_of keys party body = mac_between keys body.sender party (body_spelling body)

-- The entry of an authenticator is for the party, and holds this MAC.
abbrev pub is_mac_for : ℕ → List ℕ → MacData → Bool
is_mac_for party mac entry = (entry.receiver == party) && bytes_eq entry.mac mac

-- an entry for the party is this MAC
abbrev pub has_mac : ℕ → List ℕ → List MacData → Bool
has_mac party mac entries = list_any (is_mac_for party mac) entries

-- an authenticator of MACs has such an entry; a signature has none
abbrev pub proves : ℕ → List ℕ → AuthenticatorData → Bool
proves party mac (macs entries) = has_mac party mac entries
proves party mac (signature s) = false

-- the same of a MAC that may be missing
abbrev pub has_some_mac : ℕ → Option (List ℕ) → List MacData → Bool
has_some_mac party mac entries = option_map_or (λ m. has_mac party m entries) mac false

abbrev pub proves_some : ℕ → Option (List ℕ) → AuthenticatorData → Bool
proves_some party mac authenticator = option_map_or (λ m. proves party m authenticator) mac false

-- the frame's entry for the party is the MAC of its body under the key that the sender shares with the party
abbrev pub is_authentic : Keys → ℕ → FrameData → Bool
is_authentic keys party frame =
    option_map_or (λ mac. proves party mac frame.authenticator)
    (option_map (λ key. hmac_of key (body_spelling frame.body)) (find_key keys frame.body.sender party)) false
