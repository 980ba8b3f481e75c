-- The results of the functions that authenticate frames, and that make and test signatures.
use Rattle.std.specs.Prelude.{◌≡◌, ℕ, List, Option, Some, MatchOption, Result, Vec}
use Rattle.terms.specs.Parties.{party_number}
use Rattle.terms.specs.declared.parties.Party.{Party}
use Rattle.wire_format.specs.Appends.{Appends}
use Rattle.tuple_codec.specs.Results.{ReturnsEach}
use Rattle.wire_format.specs.Messages.{BodyData}
use Rattle.wire_format.specs.Views.{body_data}
use Rattle.authenticator.specs.Membership.{Membership}
use Rattle.signing.specs.declared.authentication_fault.AuthenticationFault.{AuthenticationFault}
use Rattle.signing.specs.declared.authentication_fault.AuthenticationFault.TheVariants as faults
use Rattle.signing.specs.declared.authentic_frame.AuthenticFrame.{AuthenticFrame}
use Rattle.signing.specs.AuthenticBody.{authentic}
use Rattle.signing.specs.Publics.{public_of}
use Rattle.signing.specs.Signatures.{path_digests, IsSignature, Verifies}
use Rattle.signing.specs.Signing.{HasNodes}

-- the body is authentic to the party
abbrev pub IsAuthenticTo : Membership → Party → List ℕ → AuthenticFrame → Type 0
IsAuthenticTo m party bytes h = authentic m (party_number party) bytes ≡ Some (body_data h.body)

-- if a body is authentic to the party, the result is that body, unless memory runs out
abbrev pub AuthenticatesEach : Membership → Party → List ℕ → Result AuthenticFrame AuthenticationFault → Type 0
AuthenticatesEach m party bytes result =
    ReturnsEach faults.NoMemory (λ h. body_data h.body)
    (λ (body : BodyData). authentic m (party_number party) bytes ≡ Some body) result

-- the bytes are a replica's signature of the text
abbrev pub IsSignedBy : List (List ℕ) → Party → List ℕ → List ℕ → Type 0
IsSignedBy publics signer text bytes = Verifies (public_of publics (party_number signer)) text bytes

-- the bytes if they are a signature, or None
abbrev pub FindsSignature : List ℕ → Option (List ℕ) → Type 0
FindsSignature bytes found =
    MatchOption found (¬ IsSignature bytes) (λ s. (s ≡ bytes) × IsSignature bytes)

-- the digests beside a leaf's path follow the old bytes, upwards
abbrev pub AppendsPath : {A U E : Type 0} → List (List ℕ) → ℕ → Vec ℕ A → Vec ℕ A → Result U E
    → Type 0
AppendsPath nodes leaf old new result =
    (leaves : ℕ → List ℕ) → HasNodes leaves nodes
    → Appends (path_digests leaves leaf) old new result
