-- Whether something is received.
use Rattle.std.proofs.Common.{◌≡◌, ℕ, true, false, List, Option, Some, None, refl, ap, sym, ◌∙◌}
use Rattle.std.specs.Prelude.{is_some}
use Rattle.std.proofs.lemmas.Bool.{false≢true}
use Rattle.wire_format.specs.Messages.{BodyData, FrameData}
use Rattle.wire.specs.Headers.{IsFrame, HasBody}
use Rattle.wire.proofs.Whole.{one_frame}
use Rattle.authenticator.specs.Membership.{Membership}
use Rattle.signing.specs.AuthenticBody.{authentic}
use Rattle.signing.proofs.AuthenticBody.{authentic_was_opened}

none_of : (o : Option BodyData) → ((body : BodyData) → o ≡ Some body → ⊥) → false ≡ is_some o
none_of None never = refl
none_of (Some body) never = absurd (never body refl)

some_of : (o : Option BodyData) → true ≡ is_some o → (body : BodyData) × (o ≡ Some body)
some_of None h = absurd (let g : ⊥ = cc in g)
some_of (Some body) h = (body, refl)

module _ (m : Membership) (party : ℕ) (bytes : List ℕ) where
  pub hears_nothing : ((body : BodyData) → authentic m party bytes ≡ Some body → ⊥) → false ≡ is_some (authentic m party bytes)
  hears_nothing none = none_of (authentic m party bytes) none

  pub nothing_heard : false ≡ is_some (authentic m party bytes) → (body : BodyData) → authentic m party bytes ≡ Some body → ⊥
  nothing_heard none body e = false≢true (none ∙ ap is_some e)

  pub hears_something : (body : BodyData) → authentic m party bytes ≡ Some body → true ≡ is_some (authentic m party bytes)
  hears_something body e = sym (ap is_some e)

  module _ (some : true ≡ is_some (authentic m party bytes)) where
    pub something_heard : (body : BodyData) × (authentic m party bytes ≡ Some body)
    something_heard = some_of (authentic m party bytes) some

    pub authentic_frame : IsFrame bytes
    authentic_frame =
        let w = authentic_was_opened m party bytes something_heard.0 something_heard.1 in (w.frame, w.opens.spelled)

    -- bytes that are received spell one frame, whose body is received
    pub authentic_of_body : (body : BodyData) → HasBody bytes body → authentic m party bytes ≡ Some body
    authentic_of_body body has =
        let w = authentic_was_opened m party bytes something_heard.0 something_heard.1 in
        something_heard.1 ∙ ap Some (sym w.body_is) ∙ ap (λ (f : FrameData). Some f.body) (one_frame bytes w.frame has.0 w.opens.spelled has.1) ∙ ap Some has.2
