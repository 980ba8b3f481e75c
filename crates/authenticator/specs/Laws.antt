-- The laws of sealing and opening, and of the keys that a seed gives.
use Rattle.std.specs.Prelude.{◌≡◌, ◌⊎◌, ℕ, ◌+◌, ◌*◌, ◌==◌, Bool, ◌&&◌, ◌||◌, not, nat_lt, nat_le, true, List, Some, Contains, IsTrue}
use Rattle.terms.specs.declared.parties.TheConstants.{FIRST_CLIENT}
use Rattle.wire_format.specs.Lists.{Each}
use Rattle.wire_format.specs.Messages.{BodyData}
use Rattle.wire_format.specs.Spelling.{SpellsFrame}
use Rattle.authenticator.specs.Keys.{Keys, derived_key, find_key, row}
use Rattle.authenticator.specs.Dealing.{dealt_keys}
use Rattle.authenticator.specs.declared.row.SharedKey.{SharedKey}
use Rattle.authenticator.specs.Membership.{Membership, has_sender}
use Rattle.authenticator.specs.Authentic.{is_authentic}
use Rattle.authenticator.specs.Opening.{Opens}
use Rattle.authenticator.specs.Sealing.{sealed_for}

-- Both have the same key from the one party to the other.
abbrev pub ShareKey : Keys → Keys → ℕ → ℕ → Type 0
ShareKey senders receivers from to =
    (key : List ℕ) × (find_key senders from to ≡ Some key) × (find_key receivers from to ≡ Some key)

-- A frame that is sealed for a party is authentic to it, if it shares the sender's key.
abbrev pub SealedIsAuthentic : Type 0
SealedIsAuthentic =
    (keys others : Keys) (body : BodyData) (parties : List ℕ) (party : ℕ) → Contains parties party
    → ShareKey keys others body.sender party → IsTrue (is_authentic others party (sealed_for keys body parties))

-- A party opens each frame that a sender known to it sealed for it under the key that they share.
abbrev pub SealedOpens : Type 0
SealedOpens =
    (m : Membership) (keys : Keys) (body : BodyData) (parties : List ℕ) (party : ℕ) (bytes : List ℕ)
    → SpellsFrame bytes (sealed_for keys body parties) → IsTrue (has_sender m body) → Contains parties party
    → ShareKey keys m.keys body.sender party → Opens m party bytes (sealed_for keys body parties)

-- ---- the keys that a seed gives a party

abbrev pub is_among_clients : ℕ → ℕ → Bool
is_among_clients clients party = nat_le FIRST_CLIENT party && nat_lt party (FIRST_CLIENT + clients)

-- the parties exchange frames: the other is another replica, or a client of this replica
abbrev pub is_peer : ℕ → ℕ → ℕ → ℕ → Bool
is_peer faults clients me party =
    (not (party == me) && nat_lt party (3 * faults + 1))
    || (nat_lt me FIRST_CLIENT && is_among_clients clients party)

-- A party has the key in either direction with each party that it exchanges frames with. It is the same for both.
abbrev pub PeersShareKeys : Type 0
PeersShareKeys =
    (seed : List ℕ) (faults clients me party : ℕ) → is_peer faults clients me party ≡ true
    → (find_key (row (dealt_keys seed faults clients me)) me party ≡ Some (derived_key seed me party))
    × (find_key (row (dealt_keys seed faults clients me)) party me ≡ Some (derived_key seed party me))

-- a key from the party or to it
abbrev pub IsOwnKey : ℕ → SharedKey → Type 0
IsOwnKey me shared = (shared.from ≡ me) ⊎ (shared.to ≡ me)

-- It has no key between two others.
abbrev pub KeysAreOwn : Type 0
KeysAreOwn = (seed : List ℕ) (faults clients me : ℕ) → Each (IsOwnKey me) (dealt_keys seed faults clients me)
