-- A request is received in the bytes of its frame.
use Rattle.std.proofs.Common.{◌≡◌, ◌≢◌, ℕ, ◌+◌, true, false, List, Option, Some, None, is_some, ap, refl, ◌∙◌}
use lib.Dec.{eqb}
use Rattle.terms.specs.Parties.{party_number}
use Rattle.wire.specs.declared.request_bytes.RequestBytes.{RequestBytes}
use Rattle.wire.specs.Headers.{HeaderData, HasHeader, header_of}
use Rattle.wire_format.specs.Messages.{request, BodyData, AuthenticatorData, macs, signature, FrameData}
use Rattle.wire.specs.Marks.{has_type_of_requests}
use Rattle.wire.specs.Requests.{HoldsRequest}
use Rattle.wire_format.specs.Spelling.{SpellsFrame, authenticator_is_signed, body_spelling, is_signed, message_type}
use Rattle.wire.proofs.Whole.{one_frame}
use Rattle.authenticator.specs.declared.sealed.OpenFault.{OpenFault}
use Rattle.authenticator.specs.Headers.{header_refusal}
use Rattle.authenticator.specs.Membership.{Membership}
use Rattle.signing.specs.AuthenticBody.{authentic}
use Rattle.signing.specs.Receiving.{authenticator_holds, signature_holds}
use Rattle.signing.proofs.AuthenticBody.{authentic_was_opened}
use Rattle.signing.proofs.Opened.{authentic_by_header, own_not_heard, refused_not_heard}

none_heard : (o : Option BodyData) → ((body : BodyData) → o ≡ Some body → ⊥) → o ≡ None
none_heard None h = refl
none_heard (Some body) h = absurd (h body refl)

pub not_heard_of_no_frame : (m : Membership) (me : ℕ) (bytes : List ℕ) → ((frame : FrameData) → SpellsFrame bytes frame → ⊥) → authentic m me bytes ≡ None
not_heard_of_no_frame m me bytes none =
    none_heard (authentic m me bytes) (λ body h. let w = authentic_was_opened m me bytes body h in none w.frame w.opens.spelled)

-- MACs are no signature that could fail
pub macs_hold : (publics : List (List ℕ)) (text : List ℕ) (sender : ℕ) (authenticator : AuthenticatorData) → authenticator_is_signed authenticator ≡ false
    → authenticator_holds publics sender text authenticator ≡ true
macs_hold publics text sender (macs entries) plain = refl
macs_hold publics text sender (signature s) plain = absurd (let g : ⊥ = cc in g)

pub none_given : (refusal : Option OpenFault) → is_some refusal ≡ false → None ≡ refusal
none_given None e = refl
none_given (Some fault) e = absurd (let g : ⊥ = cc in g)

module _ (m : Membership) (me : ℕ) (bytes : List ℕ) (header : HeaderData) (has : HasHeader bytes header) where
  pub own_is_not_heard : header.sender ≡ me → authentic m me bytes ≡ None
  own_is_not_heard e = none_heard (authentic m me bytes) (own_not_heard m me bytes header has e)

  pub not_authentic_where_refused : (refusal : Option OpenFault) → refusal ≡ header_refusal m me header → is_some refusal ≡ true → authentic m me bytes ≡ None
  not_authentic_where_refused None e some = absurd (let g : ⊥ = cc in g)
  not_authentic_where_refused (Some fault) e some = none_heard (authentic m me bytes) (refused_not_heard m me bytes header has fault e)

  module _ (refusal : Option OpenFault) (value : refusal ≡ header_refusal m me header) (no_refusal : is_some refusal ≡ false) (it : RequestBytes) (holds : HoldsRequest bytes it) where
    passes : None ≡ header_refusal m me header
    passes = none_given refusal no_refusal ∙ value

    header_is : header ≡ header_of holds.body.0
    header_is = has.2 ∙ ap header_of (one_frame bytes has.0 holds.body.0 has.1 holds.body.1)

    module _ (other : header.sender ≢ me) (client : ℕ) (from : party_number it.sender ≡ 256 + client) where
      pub receives : authentic m me bytes ≡ Some (record { sender = 256 + client; message = request it.timestamp.0 it.mode holds.op })
      receives =
          let body = holds.body.0.body in
          let plain : authenticator_is_signed holds.body.0.authenticator ≡ false = holds.body.1.valid.proved ∙ ap (λ (b : BodyData). is_signed b.message) holds.body.2 in
          let h : signature_holds m.publics header ≡ true = ap (signature_holds m.publics) header_is ∙ macs_hold m.publics (body_spelling body) body.sender holds.body.0.authenticator plain in
          authentic_by_header m me bytes header has passes holds.body.0 holds.body.1 other h
          ∙ ap Some (holds.body.2 ∙ ap (λ (s : ℕ). record { sender = s; message = request it.timestamp.0 it.mode holds.op }) from)

-- a frame that is received has the type of its message
pub heard_is_marked : (m : Membership) (me : ℕ) (bytes : List ℕ) (body : BodyData) → authentic m me bytes ≡ Some body → has_type_of_requests bytes ≡ eqb (message_type body.message) 0x41
heard_is_marked m me bytes body h =
    let w = authentic_was_opened m me bytes body h in
    ap has_type_of_requests w.opens.spelled.spelled ∙ ap (λ (b : BodyData). eqb (message_type b.message) 0x41) w.body_is
