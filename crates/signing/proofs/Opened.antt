-- The judgement of a frame by its header decides whether a party receives it.
use Rattle.std.proofs.Common.{◌≡◌, ◌≢◌, inl, ℕ, true, false, List, Some, None, ap, sym, refl, ◌∙◌}
use Rattle.wire_format.specs.Messages.{BodyData, FrameData, AuthenticatorData, macs, signature}
use Rattle.wire_format.specs.Spelling.{SpellsFrame, is_signed, authenticator_is_signed, body_spelling}
use Rattle.wire.specs.Headers.{HeaderData, header_of, HasHeader}
use Rattle.wire.proofs.Whole.{one_frame}
use Rattle.authenticator.specs.declared.sealed.OpenFault.{OpenFault}
use Rattle.authenticator.specs.declared.sealed.OpenFault.TheVariants as open_faults
use Rattle.authenticator.specs.Membership.{Membership}
use Rattle.authenticator.specs.Headers.{header_refusal}
use Rattle.authenticator.specs.Opening.{Opens}
use Rattle.authenticator.proofs.Refusing.{header_refused, header_opened, header_not_refused}
use Rattle.signing.specs.Publics.{public_of}
use Rattle.signing.specs.Faults.{authentication_fault}
use Rattle.signing.specs.AuthenticBody.{signs, has_signature, authentic}
use Rattle.signing.specs.Receiving.{HasNoSignature, IsOfOwnName, RefusesBytes, authenticator_holds, signature_holds}
use Rattle.signing.proofs.AuthenticBody.{opened_is_authentic, authentic_was_opened}

-- of a frame that is to be signed an authenticator that holds is its sender's signature
holds : (publics : List (List ℕ)) (text : List ℕ) (sender : ℕ) (authenticator : AuthenticatorData) → authenticator_holds publics sender text authenticator ≡ true → authenticator_is_signed authenticator ≡ true
    → signs (public_of publics sender) text authenticator ≡ true
holds publics text sender (macs entries) h signed = absurd (let g : ⊥ = cc in g)
holds publics text sender (signature s) h signed = h

-- only a signature fails
fails : (publics : List (List ℕ)) (text : List ℕ) (sender : ℕ) (authenticator : AuthenticatorData) → authenticator_holds publics sender text authenticator ≡ false
    → (authenticator_is_signed authenticator ≡ true) × (signs (public_of publics sender) text authenticator ≡ false)
fails publics text sender (macs entries) h = absurd (let g : ⊥ = cc in g)
fails publics text sender (signature s) h = (refl, h)

module _ (m : Membership) (party : ℕ) (bytes : List ℕ) (header : HeaderData) (has : HasHeader bytes header) where
  header_is : (frame : FrameData) → SpellsFrame bytes frame → header ≡ header_of frame
  header_is frame s = has.2 ∙ ap header_of (one_frame bytes has.0 frame has.1 s)

  not_own : header.sender ≢ party → ¬ IsOfOwnName party bytes
  not_own other own = other (ap (λ (h : HeaderData). h.sender) (header_is own.frame own.spelled) ∙ own.sender)

  pub own_not_heard : header.sender ≡ party → (body : BodyData) → authentic m party bytes ≡ Some body → ⊥
  own_not_heard e body h =
      let w = authentic_was_opened m party bytes body h in
      w.other (ap (λ (b : BodyData). b.sender) (sym w.body_is) ∙ sym (ap (λ (h : HeaderData). h.sender) (header_is w.frame w.opens.spelled)) ∙ e)

  pub refused_not_heard : (fault : OpenFault) → Some fault ≡ header_refusal m party header → (body : BodyData) → authentic m party bytes ≡ Some body → ⊥
  refused_not_heard fault e body h =
      let w = authentic_was_opened m party bytes body h in header_not_refused m party bytes header has fault w.frame e w.opens

  pub refused_by_header : (fault : OpenFault) → Some fault ≡ header_refusal m party header → header.sender ≢ party → RefusesBytes m party bytes (authentication_fault fault)
  refused_by_header open_faults.TooLarge e other = header_refused m party bytes header has open_faults.TooLarge e
  refused_by_header open_faults.Malformed e other = header_refused m party bytes header has open_faults.Malformed e
  refused_by_header open_faults.UnknownSender e other = inl (header_refused m party bytes header has open_faults.UnknownSender e)
  refused_by_header open_faults.BadMac e other = (header_refused m party bytes header has open_faults.BadMac e, not_own other)
  refused_by_header open_faults.NoMemory e other =
      let o = header_refused m party bytes header has open_faults.NoMemory e in absurd (header_not_refused m party bytes header has open_faults.NoMemory o.0 e o.1)

  module _ (none : None ≡ header_refusal m party header) where
    opens : (frame : FrameData) → SpellsFrame bytes frame → Opens m party bytes frame
    opens frame s = header_opened m party bytes header has frame s none

    pub authentic_by_header : (frame : FrameData) → SpellsFrame bytes frame → header.sender ≢ party → signature_holds m.publics header ≡ true → authentic m party bytes ≡ Some frame.body
    authentic_by_header frame s other h =
        let k : signature_holds m.publics (header_of frame) ≡ true = ap (signature_holds m.publics) (sym (header_is frame s)) ∙ h in
        opened_is_authentic m party bytes frame (opens frame s) (λ e. other (ap (λ (h : HeaderData). h.sender) (header_is frame s) ∙ e))
        (λ signed. holds m.publics (body_spelling frame.body) frame.body.sender frame.authenticator k (s.valid.proved ∙ signed))

    unsigned : (frame : FrameData) → SpellsFrame bytes frame → signature_holds m.publics header ≡ false → (is_signed frame.body.message ≡ true) × (has_signature m.publics frame ≡ false)
    unsigned frame s h =
        let f = fails m.publics (body_spelling frame.body) frame.body.sender frame.authenticator (ap (signature_holds m.publics) (sym (header_is frame s)) ∙ h) in
        (sym s.valid.proved ∙ f.0, f.1)

    pub unsigned_by_header : header.sender ≢ party → signature_holds m.publics header ≡ false → HasNoSignature m party bytes × ¬ IsOfOwnName party bytes
    unsigned_by_header other h =
        let u = unsigned has.0 has.1 h in (record { frame = has.0; opens = opens has.0 has.1; signed = u.0; unsigned = u.1 }, not_own other)

    pub unsigned_not_heard : signature_holds m.publics header ≡ false → (body : BodyData) → authentic m party bytes ≡ Some body → ⊥
    unsigned_not_heard h body e =
        let w = authentic_was_opened m party bytes body e in
        let u = unsigned w.frame w.opens.spelled h in
        let g : true ≡ false = sym (w.signed u.0) ∙ u.1 in
        let k : ⊥ = cc in k
