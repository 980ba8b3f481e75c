-- The laws of authentic frames.
use Rattle.std.proofs.Common.{◌≡◌, ◌≢◌, refl, ℕ, Bool, true, false, ◌&&◌, cond, if◌then◌else◌, List, Option, Some, None, ap, sym, ◌∙◌, subst}
use Rattle.std.specs.Bool.{Decides}
use Rattle.std.specs.Prelude.{option_and_then, not, ◌==◌}
use Rattle.std.proofs.lemmas.Bool.{true≢false, and_parts, and_from, not-true, eqb-true, eqb-false, eq-eqb, ne_eqb, ltb-true, lt-ltb}
use Rattle.std.proofs.lemmas.Slice.Eq.{bytes_eq-Decides}
use Rattle.std.proofs.Math.Bool.{or-true}
use Rattle.wire_format.specs.Messages.{BodyData, AuthenticatorData, signature, FrameData}
use Rattle.wire_format.specs.Spelling.{SpellsFrame, body_spelling, is_signed, authenticator_is_signed}
use Rattle.wire_format.specs.Words.{frame_of}
use Rattle.wire_format.proofs.Saying.{reads_frames}
use Rattle.authenticator.specs.Authentic.{is_authentic}
use Rattle.authenticator.specs.Membership.{Membership, has_sender}
use Rattle.authenticator.specs.Opening.{may_open}
use Rattle.signing.specs.Signatures.{Verifies, verifies, shown_root, signature_of}
use Rattle.signing.specs.AuthenticBody.{signs, has_signature, is_from_another, is_authentic_to, authentic, signed_body}
use Rattle.signing.specs.Laws.{OpenedIsAuthentic, AuthenticWasOpened, SignedIsAuthentic, AuthenticWasSigned, SignedWasSigned, SignerIsAuthentic}
use Rattle.signing.proofs.Signed.{signature_of-verifies}

-- the test is the relation
pub verifies-Decides : (public text s : List ℕ) → Decides (verifies public text s) (Verifies public text s)
verifies-Decides public text s = (from_test, to_test)
  where
    from_test : verifies public text s ≡ true → Verifies public text s
    from_test passes =
        let parts = and_parts _ _ passes in
        let form = and_parts _ _ parts.0 in
        record {
          formed = record { whole = eqb-true _ _ form.0; leaf = ltb-true _ _ form.1 };
          root = (bytes_eq-Decides (shown_root s text) public).0 parts.1;
        }

    to_test : Verifies public text s → verifies public text s ≡ true
    to_test v =
        and_from _ _ (and_from _ _ (eq-eqb _ _ v.formed.whole) (lt-ltb _ _ v.formed.leaf)) ((bytes_eq-Decides (shown_root s text) public).1 v.root)

pub signs-signature : (public text s : List ℕ) (authenticator : AuthenticatorData) → authenticator ≡ signature s → verifies public text s ≡ signs public text authenticator
signs-signature public text s authenticator is =
    let P : AuthenticatorData → Type 0 = λ p. verifies public text s ≡ signs public text p in subst P (sym is) refl

-- ---- the body of a frame that passes a test

abbrev passed : (FrameData → Bool) → FrameData → Option BodyData
passed test frame = if test frame then Some frame.body else None

-- the bytes are a frame that passes the test
passes : (test : FrameData → Bool) (o : Option FrameData) (frame : FrameData) → o ≡ Some frame → test frame ≡ true
    → option_and_then (passed test) o ≡ Some frame.body
passes test o frame is tested = rw (is, tested) refl

-- a body is received only from a frame that passes the test
comes_of : (test : FrameData → Bool) (o : Option FrameData) (body : BodyData) → option_and_then (passed test) o ≡ Some body
    → (frame : FrameData) × (o ≡ Some frame) × (test frame ≡ true) × (frame.body ≡ body)
comes_of test None body h = absurd cc
comes_of test (Some frame) body h = go (test frame) refl h
  where
    go : (b : Bool) → test frame ≡ b → cond b (Some frame.body) None ≡ Some body
        → (frame' : FrameData) × (Some frame ≡ Some frame') × (test frame' ≡ true) × (frame'.body ≡ body)
    go true is e = (frame, refl, is, cc)
    go false is e = absurd cc

-- ---- the tests

by_kind : (signed known right own : Bool) → known ≡ true → (signed ≡ true → own ≡ true) → (signed ≡ false → right ≡ true)
    → (known && (if signed then own else right)) ≡ true
by_kind true known right own k s u = rw (k, s refl) refl
by_kind false known right own k s u = rw (k, u refl) refl

of_kind : (signed right own : Bool) → (if signed then own else right) ≡ true → (signed ≡ true → own ≡ true) × (signed ≡ false → right ≡ true)
of_kind true right own h = (λ _. h, λ no_way. absurd cc)
of_kind false right own h = (λ no_way. absurd cc, λ _. h)

from_another : (m : Membership) (party : ℕ) (body : BodyData) → has_sender m body ≡ true → body.sender ≢ party → is_from_another m party body ≡ true
from_another m party body known other = and_from (has_sender m body) (not (body.sender == party)) known (rw (ne_eqb body.sender party other) refl)

parts_of_another : (m : Membership) (party : ℕ) (body : BodyData) → is_from_another m party body ≡ true → (has_sender m body ≡ true) × (body.sender ≢ party)
parts_of_another m party body h =
    let parts = and_parts (has_sender m body) (not (body.sender == party)) h in
    (parts.0, eqb-false body.sender party (not-true (body.sender == party) parts.1))

is_heard_of : (m : Membership) (party : ℕ) (frame : FrameData) → is_from_another m party frame.body ≡ true
    → (is_signed frame.body.message ≡ true → has_signature m.publics frame ≡ true)
    → (is_signed frame.body.message ≡ false → is_authentic m.keys party frame ≡ true) → is_authentic_to m party frame ≡ true
is_heard_of m party frame = by_kind (is_signed frame.body.message) (is_from_another m party frame.body) (is_authentic m.keys party frame) (has_signature m.publics frame)

-- the test of a signed body
abbrev is_signed_by : Membership → FrameData → Bool
is_signed_by m frame = is_signed frame.body.message && (has_sender m frame.body && has_signature m.publics frame)

-- ---- the laws

pub opened_is_authentic : OpenedIsAuthentic
unfolding authentic
opened_is_authentic m party bytes frame opens other signed =
    passes (is_authentic_to m party) (frame_of bytes) frame ((reads_frames bytes frame).1 opens.spelled)
    (is_heard_of m party frame (from_another m party frame.body opens.sender other) signed by_macs)
  where
    by_macs : is_signed frame.body.message ≡ false → is_authentic m.keys party frame ≡ true
    by_macs plain =
        let kind : authenticator_is_signed frame.authenticator ≡ false = opens.spelled.valid.proved ∙ plain in
        rw kind at opens.proved

pub authentic_was_opened : AuthenticWasOpened
unfolding authentic
authentic_was_opened m party bytes body h =
    let from = comes_of (is_authentic_to m party) (frame_of bytes) body h in
    let frame = from.0 in
    let spelled : SpellsFrame bytes frame = (reads_frames bytes frame).0 from.1 in
    let parts = and_parts _ _ from.2 in
    let another = parts_of_another m party frame.body parts.0 in
    let kinds = of_kind (is_signed frame.body.message) (is_authentic m.keys party frame) (has_signature m.publics frame) parts.1 in
    record {
      frame = frame;
      opens = record { spelled = spelled; sender = another.0; proved = proved frame spelled kinds.1 (is_signed frame.body.message) refl };
      signed = kinds.0;
      body_is = from.3;
      other = subst (λ (b : BodyData). b.sender ≢ party) from.3 another.1;
    }
  where
    proved : (frame : FrameData) → SpellsFrame bytes frame → (is_signed frame.body.message ≡ false → is_authentic m.keys party frame ≡ true)
        → (b : Bool) → is_signed frame.body.message ≡ b → may_open m.keys party frame ≡ true
    proved frame spelled plain true is = rw (spelled.valid.proved, is) refl
    proved frame spelled plain false is = rw (plain is) (or-true _)

pub signed_is_authentic : SignedIsAuthentic
unfolding authentic signed_body
signed_is_authentic m party bytes body h other =
    let from = comes_of (is_signed_by m) (frame_of bytes) body h in
    let parts = and_parts _ _ from.2 in
    let more = and_parts _ _ parts.1 in
    let another = from_another m party from.0.body more.0 (subst (λ (b : BodyData). b.sender ≢ party) (sym from.3) other) in
    passes (is_authentic_to m party) (frame_of bytes) from.0 from.1 (is_heard_of m party from.0 another (λ _. more.1) (λ plain. absurd (true≢false (sym parts.0 ∙ plain)))) ∙ ap Some from.3

pub authentic_was_signed : AuthenticWasSigned
unfolding authentic signed_body
authentic_was_signed m party bytes body h signed =
    let from = comes_of (is_authentic_to m party) (frame_of bytes) body h in
    let parts = and_parts _ _ from.2 in
    let known = (parts_of_another m party from.0.body parts.0).0 in
    let kind : is_signed from.0.body.message ≡ true = rw from.3 signed in
    let kinds = of_kind (is_signed from.0.body.message) (is_authentic m.keys party from.0) (has_signature m.publics from.0) parts.1 in
    passes (is_signed_by m) (frame_of bytes) from.0 from.1 (and_from _ _ kind (and_from _ _ known (kinds.0 kind))) ∙ ap Some from.3

pub signed_was_signed : SignedWasSigned
unfolding signed_body
signed_was_signed m bytes body h =
    let from = comes_of (is_signed_by m) (frame_of bytes) body h in
    let parts = and_parts _ _ from.2 in
    let more = and_parts _ _ parts.1 in
    record {
      frame = from.0;
      spelled = (reads_frames bytes from.0).0 from.1;
      sender = more.0;
      to_sign = parts.0;
      signed = more.1;
      body_is = from.3;
    }

pub signer_is_authentic : SignerIsAuthentic
unfolding signed_body
signer_is_authentic m seed bytes body leaf within own known spelled =
    passes (is_signed_by m) (frame_of bytes)
    (record { body = body; authenticator = signature (signature_of seed leaf (body_spelling body)) })
    ((reads_frames bytes _).1 spelled)
    (and_from _ _ (sym spelled.valid.proved) (and_from _ _ known
    ((verifies-Decides _ (body_spelling body) _).1
    (subst (λ (public : List ℕ). Verifies public (body_spelling body) (signature_of seed leaf (body_spelling body))) (sym own)
    (signature_of-verifies seed (body_spelling body) leaf within)))))
