-- The bytes of frames that faulty parties make.
use Rattle.std.specs.Prelude.{◌≡◌, ℕ, List, map, ◌++◌, box_value, Option}
use Rattle.std.specs.Global.{Box}
use Rattle.std.specs.Option.{ForSome}
use Rattle.terms.specs.Parties.{party_number}
use Rattle.terms.specs.declared.parties.Party.{Party}
use Rattle.wire_format.specs.Messages.{macs, signature}
use Rattle.wire_format.specs.Spelling.{piece, authenticator_spelling}
use Rattle.authenticator.specs.Dealing.{dealt_keys}
use Rattle.authenticator.specs.Keys.{dealt, row, signing_seed}
use Rattle.authenticator.specs.Membership.{Membership}
use Rattle.authenticator.specs.Sealing.{entry_for}
use Rattle.signing.specs.Signatures.{signature_of}

-- the bytes of a frame with MACs under the keys that this seed gives its sender, for whatever receivers
abbrev pub sealed_text : List ℕ → Party → List Party → List ℕ → List ℕ
sealed_text seed sender receivers body =
    piece body
    ++ authenticator_spelling (macs (map (entry_for (dealt seed) (party_number sender) body) (map party_number receivers)))

-- the seed of the keys by which a replica signs
abbrev pub seed_of : List ℕ → Party → List ℕ
seed_of seed signer = signing_seed seed (party_number signer)

-- the bytes of a frame that is signed with a leaf of the keys that the replica has of this seed
abbrev pub signed_text : List ℕ → Party → ℕ → List ℕ → List ℕ
signed_text seed signer leaf body =
    piece body ++ authenticator_spelling (signature (signature_of (seed_of seed signer) leaf body))

-- The ring has the row that the seed gives the party.
abbrev pub IsRowOf : List ℕ → Party → Membership → Type 0
IsRowOf seed party ring = ring.keys ≡ row (dealt_keys seed ring.faults ring.clients (party_number party))

-- A party has its row, and no key tree but its own.
abbrev pub KeysAreOf : List ℕ → Party → Membership → Option (Box (List ℕ)) → Type 0
KeysAreOf seed party ring tree = IsRowOf seed party ring × ForSome tree (λ t. box_value t ≡ seed_of seed party)
