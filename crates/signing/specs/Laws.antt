-- The laws of authentic frames.
use Rattle.std.specs.Prelude.{◌≡◌, ◌≢◌, ◌↔◌, ◌<◌, ℕ, ◌+◌, ◌*◌, IsTrue, List, Some, slice_get}
use Rattle.wire_format.specs.Messages.{BodyData, FrameData, signature}
use Rattle.wire_format.specs.Spelling.{SpellsFrame, body_spelling, is_signed}
use Rattle.authenticator.specs.Membership.{Membership, has_sender}
use Rattle.authenticator.specs.Opening.{Opens}
use Rattle.authenticator.specs.Keys.{signing_seed}
use Rattle.signing.specs.Publics.{derived_publics, public_of}
use Rattle.signing.specs.Signatures.{public_key, signature_of, verifies, Verifies}
use Rattle.signing.specs.AuthenticBody.{has_signature, authentic, signed_body}

-- a frame of another party that opens is authentic, if it is not to be signed or has its sender's signature
abbrev pub OpenedIsAuthentic : Type 0
OpenedIsAuthentic =
    (m : Membership) (party : ℕ) (bytes : List ℕ) (frame : FrameData)
    → Opens m party bytes frame → frame.body.sender ≢ party
    → (IsTrue (is_signed frame.body.message) → IsTrue (has_signature m.publics frame))
    → authentic m party bytes ≡ Some frame.body

-- The bytes are a frame of this body that opens, with its sender's signature if it is to be signed. The sender is
-- another party.
pub record OpensAs (m : Membership) (party : ℕ) (bytes : List ℕ) (body : BodyData) : Type 0 where
  pub frame : FrameData
  pub opens : Opens m party bytes frame
  pub signed : IsTrue (is_signed frame.body.message) → IsTrue (has_signature m.publics frame)
  pub body_is : frame.body ≡ body
  pub other : body.sender ≢ party

-- no other frames are
abbrev pub AuthenticWasOpened : Type 0
AuthenticWasOpened =
    (m : Membership) (party : ℕ) (bytes : List ℕ) (body : BodyData)
    → authentic m party bytes ≡ Some body → OpensAs m party bytes body

-- a signed body is authentic to each party but its sender
abbrev pub SignedIsAuthentic : Type 0
SignedIsAuthentic =
    (m : Membership) (party : ℕ) (bytes : List ℕ) (body : BodyData)
    → signed_body m bytes ≡ Some body → body.sender ≢ party → authentic m party bytes ≡ Some body

-- if a view change or new view is authentic to a party, it is signed
abbrev pub AuthenticWasSigned : Type 0
AuthenticWasSigned =
    (m : Membership) (party : ℕ) (bytes : List ℕ) (body : BodyData)
    → authentic m party bytes ≡ Some body → IsTrue (is_signed body.message)
    → signed_body m bytes ≡ Some body

-- the bytes are a frame of this body, which is to be signed, with its sender's signature
pub record IsSignedFrame (m : Membership) (bytes : List ℕ) (body : BodyData) : Type 0 where
  pub frame : FrameData
  pub spelled : SpellsFrame bytes frame
  pub sender : IsTrue (has_sender m frame.body)
  pub to_sign : IsTrue (is_signed frame.body.message)
  pub signed : IsTrue (has_signature m.publics frame)
  pub body_is : frame.body ≡ body

-- there are no other signed bodies
abbrev pub SignedWasSigned : Type 0
SignedWasSigned =
    (m : Membership) (bytes : List ℕ) (body : BodyData)
    → signed_body m bytes ≡ Some body → IsSignedFrame m bytes body

-- the body with a signature by a leaf of a seed
abbrev pub frame_signed_by_leaf : List ℕ → BodyData → ℕ → FrameData
frame_signed_by_leaf seed body leaf =
    record {
      body = body;
      authenticator =
          signature (signature_of seed leaf (body_spelling body));
    }

-- a frame that a party signs with one of the 64 leaves of its seed has a signed body
abbrev pub SignerIsAuthentic : Type 0
SignerIsAuthentic =
    (m : Membership) (seed bytes : List ℕ) (body : BodyData) (leaf : ℕ) → leaf < 64
    → public_of m.publics body.sender ≡ public_key seed → IsTrue (has_sender m body)
    → SpellsFrame bytes (frame_signed_by_leaf seed body leaf) → signed_body m bytes ≡ Some body

-- the test of a signature is true exactly if the signature verifies
abbrev pub VerifyingIsDecided : Type 0
VerifyingIsDecided =
    (public text signature : List ℕ)
    → IsTrue (verifies public text signature) ↔ Verifies public text signature

-- a seed gives each replica the public key of its signing seed
abbrev pub PublicsAreDerived : Type 0
PublicsAreDerived =
    (seed : List ℕ) (faults replica : ℕ) → replica < 3 * faults + 1
    → slice_get (derived_publics seed faults) replica ≡ Some (public_key (signing_seed seed replica))
