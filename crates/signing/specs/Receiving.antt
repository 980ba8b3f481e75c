-- Why bytes are no frame that is authentic to a party.
use Rattle.std.specs.Prelude.{◌≡◌, ◌⊎◌, ℕ, Bool, true, false, IsTrue, List, Some}
use Rattle.wire_format.specs.Messages.{BodyData, AuthenticatorData, macs, signature, FrameData}
use Rattle.wire_format.specs.Spelling.{SpellsFrame, is_signed}
use Rattle.wire.specs.Headers.{HeaderData}
use Rattle.authenticator.specs.declared.sealed.OpenFault.TheVariants as open_faults
use Rattle.authenticator.specs.Membership.{Membership}
use Rattle.authenticator.specs.Opening.{Opens, RefusesFrame as RefusesToOpen}
use Rattle.signing.specs.declared.authentication_fault.AuthenticationFault.{AuthenticationFault}
use Rattle.signing.specs.declared.authentication_fault.AuthenticationFault.TheVariants as faults
use Rattle.signing.specs.Publics.{public_of}
use Rattle.signing.specs.Signatures.{verifies}
use Rattle.signing.specs.AuthenticBody.{has_signature, authentic}

-- The bytes are a frame that the party may open, and that is to be signed, but not with its sender's signature.
pub record HasNoSignature (m : Membership) (party : ℕ) (bytes : List ℕ) : Type 0 where
  pub frame : FrameData
  pub opens : Opens m party bytes frame
  pub signed : IsTrue (is_signed frame.body.message)
  pub unsigned : has_signature m.publics frame ≡ false

-- The bytes are a frame in the party's own name.
pub record IsOfOwnName (party : ℕ) (bytes : List ℕ) : Type 0 where
  pub frame : FrameData
  pub spelled : SpellsFrame bytes frame
  pub sender : frame.body.sender ≡ party

-- The earlier refusal goes before a later one. A party's own name is no sender's.
abbrev pub RefusesBytes : Membership → ℕ → List ℕ → AuthenticationFault → Type 0
RefusesBytes m party bytes faults.TooLarge = RefusesToOpen m party bytes open_faults.TooLarge
RefusesBytes m party bytes faults.Malformed = RefusesToOpen m party bytes open_faults.Malformed
RefusesBytes m party bytes faults.UnknownSender =
    RefusesToOpen m party bytes open_faults.UnknownSender ⊎ IsOfOwnName party bytes
RefusesBytes m party bytes faults.BadMac =
    RefusesToOpen m party bytes open_faults.BadMac × ¬ IsOfOwnName party bytes
RefusesBytes m party bytes faults.BadSignature = HasNoSignature m party bytes × ¬ IsOfOwnName party bytes
RefusesBytes m party bytes faults.NoMemory = (body : BodyData) × (authentic m party bytes ≡ Some body)

-- a signature of the text is its sender's; MACs are judged elsewhere
abbrev pub authenticator_holds : List (List ℕ) → ℕ → List ℕ → AuthenticatorData → Bool
authenticator_holds publics sender text (macs entries) = true
authenticator_holds publics sender text (signature s) = verifies (public_of publics sender) text s

abbrev pub signature_holds : List (List ℕ) → HeaderData → Bool
signature_holds publics h = authenticator_holds publics h.sender h.text h.authenticator
