-- Sealed and signed frames are sent.
use Rattle.std.proofs.Common.{◌≡◌, ℕ, zero, suc, ◌+◌, ◌*◌, ◌<◌, ◌≤◌, ◌^◌, true, false, List, [], ◌∷◌, ◌++◌, Option, Some, length, slice_get, length-append, arith, Result, Ok, Err, refl, sym, ap, ◌∙◌, subst}
use Rattle.std.specs.Prelude.{IfOk, Vec, option_and_then}
use Rattle.std.specs.Option.{unwrap_or}
use Rattle.std.specs.declared.alloc.Global.{Global}
use Rattle.tuple_tree.specs.Values.{AreBytes}
use Rattle.wire_format.specs.Messages.{BodyData, FrameData, MessageData as Message, signature}
use Rattle.wire_format.specs.Spelling.{IsBody, IsMessage, authenticator_spelling, body_spelling, frame_limit, frame_spelling, is_signed, piece}
use Rattle.std.proofs.lemmas.Option.{unwrap_or-slice_get}
use Rattle.authenticator.specs.Membership.{Membership}
use Rattle.authenticator.specs.Sealing.{IsSealable}
use Rattle.signing.specs.Publics.{public_of}
use Rattle.signing.specs.Signatures.{Verifies, public_key, signature_of}
use Rattle.wire_format.proofs.Saying.{reads_frames}
use Rattle.signing.proofs.AuthenticBody.{verifies-Decides}
use Rattle.protocol.specs.System.Configuration.{Configuration, members}
use Rattle.protocol.specs.System.Frames.{IsOutgoing, leaf_in, leaf_of}
use Rattle.protocol.specs.Replica.RightReplica.{others}
use Rattle.protocol.proofs.Words.Outgoing.{sealed_is_outgoing, signed_is_outgoing}
use Rattle.events.specs.Outputs.{receivers_in}
use Rattle.events.proofs.Meant.{signed_is_for}
use Rattle.frame_endpoint.specs.Endpoint.{AreOutgoingBytes, IsSignedUnder, other_replicas, others_below, says}
use Rattle.frame_endpoint.specs.Frames.{SignedFits, SpellsSealed, SpellsSigned, signed_frame}
use Rattle.frame_endpoint.proofs.Others.{others_ascend, others_few, others_some}

-- ---- bodies that may be sealed

pub one_sealable : (me party : ℕ) (message : Message) (parties : List ℕ) → me < 10 → IsMessage message → is_signed message ≡ false → parties ≡ party ∷ [] → IsSealable (says me message) parties
one_sealable me party message parties known said unsigned one =
    let low : me < 2 ^ 16 = omega arith in
    let n : length (party ∷ []) ≡ 1 = refl in
    subst (IsSealable (says me message)) (sym one) (record {
      said = record { sender = low; message = said };
      unsigned = unsigned;
      some = omega (arith, n);
      few = omega (arith, n);
      ascend = refl;
    })

more_than_one : (n me : ℕ) → 2 ≤ n → 1 ≤ length (others_below n me)
more_than_one zero me l = absurd (omega arith)
more_than_one (suc zero) me l = absurd (omega arith)
more_than_one (suc (suc k)) me l = others_some k me

pub others_sealable : (me faults : ℕ) (message : Message) (parties : List ℕ) → 1 ≤ faults → faults ≤ 3 → me < 3 * faults + 1 → IsMessage message → is_signed message ≡ false
    → parties ≡ others_below (3 * faults + 1) me → IsSealable (says me message) parties
others_sealable me faults message parties some few known said unsigned same =
    let low : me < 2 ^ 16 = omega arith in
    let most : length (others_below (3 * faults + 1) me) ≤ 3 * faults + 1 = others_few (3 * faults + 1) me in
    let least : 1 ≤ length (others_below (3 * faults + 1) me) = more_than_one (3 * faults + 1) me (omega arith) in
    subst (IsSealable (says me message)) (sym same) (record {
      said = record { sender = low; message = said };
      unsigned = unsigned;
      some = least;
      few = omega (arith, most, few);
      ascend = others_ascend (3 * faults + 1) me;
    })

pub may_say : (me faults : ℕ) (message : Message) → me < 3 * faults + 1 → faults ≤ 3 → IsMessage message → IsBody (says me message)
may_say me faults message known few said = let low : me < 2 ^ 16 = omega arith in record { sender = low; message = said }

-- ---- sealed frames

pub sealed_is_sent : (m : Membership) (me : ℕ) (message : Message) (parties bytes : List ℕ) → SpellsSealed m.keys (says me message) parties bytes → AreOutgoingBytes m me message parties bytes
sealed_is_sent m me message parties bytes spells c known =
    sealed_is_outgoing c (says me message) parties bytes (subst (λ (x : Membership). SpellsSealed x.keys (says me message) parties bytes) (sym known) spells)

-- as the laws over histories ask for it
pub outgoing_for_others : (m : Membership) (me : ℕ) (message : Message) (bytes : List ℕ) → AreOutgoingBytes m me message (other_replicas m me) bytes → (c : Configuration) → members c me ≡ m
    → IsOutgoing c me message (others c me) bytes
outgoing_for_others m me message bytes sends_frame c known =
    subst (λ (x : Membership). IsOutgoing c me message (other_replicas x me) bytes) (sym known) (sends_frame c known)

-- ---- signed frames

rest_bytes : (a s : List ℕ) (x : ℕ) → AreBytes (a ++ x ∷ s) → AreBytes s
rest_bytes [] s x h = λ i. h (suc i)
rest_bytes (y ∷ a) s x h = rest_bytes a s x (λ i. h (suc i))

-- the frame of a body's bytes and a signature
pub spells_signed : (seed : List ℕ) (leaf : ℕ) (body : BodyData) (text s whole : List ℕ) → IsBody body → is_signed body.message ≡ true → SignedFits body → text ≡ body_spelling body
    → Verifies (public_key seed) text s → whole ≡ piece (body_spelling body) ++ authenticator_spelling (signature s) → AreBytes whole → slice_get s 0 ≡ Some leaf → SpellsSigned seed leaf body whole
spells_signed seed leaf body text s whole is kind short same verified spelled are by =
    let long : length s ≡ 16577 = verified.formed.whole in
    let bytes : AreBytes s = rest_bytes (piece (body_spelling body)) s 1 (subst AreBytes spelled are) in
    let size = length-append (piece (body_spelling body)) (authenticator_spelling (signature s)) in
    let fits : length (frame_spelling (signed_frame body s)) ≤ frame_limit body.message = omega (arith, size) in
    record {
      signed = s;
      spells = record {
        valid = record { sender = is.sender; message = is.message; authenticator = (long, bytes, verified.formed.leaf); proved = sym kind; short = fits };
        spelled = spelled;
      };
      verifies = subst (λ (x : List ℕ). Verifies (public_key seed) x s) same verified;
      by_leaf = by;
    }

-- the key that is there
key_there : (publics : List (List ℕ)) (me : ℕ) (key : List ℕ) → slice_get publics me ≡ Some key → public_of publics me ≡ key
key_there publics me key there = sym (unwrap_or-slice_get publics me []) ∙ ap (λ (o : Option (List ℕ)). unwrap_or o []) there

pub signed_is_sent : (publics : List (List ℕ)) (me leaf : ℕ) (message : Message) (seed bytes : List ℕ) → slice_get publics me ≡ Some (public_key seed)
    → SpellsSigned seed leaf (says me message) bytes → IsSignedUnder publics me message bytes
signed_is_sent publics me leaf message seed bytes own k c known =
    let key : public_of c.publics me ≡ public_key seed = ap (λ (x : List (List ℕ)). public_of x me) known ∙ key_there publics me (public_key seed) own in
    let v : Verifies (public_of c.publics me) (body_spelling (says me message)) k.signed =
    subst (λ (x : List ℕ). Verifies x (body_spelling (says me message)) k.signed) (sym key) k.verifies in
    signed_is_outgoing c (says me message) k.signed bytes k.spells ((verifies-Decides (public_of c.publics me) (body_spelling (says me message)) k.signed).1 v)

-- of the endpoint's own seed
pub signs_own : {E : Type 0} (r : Result (Vec ℕ Global) E) (publics : List (List ℕ)) (seed : List ℕ) (me leaf : ℕ) (message : Message)
    → IfOk r (λ bytes. SpellsSigned seed leaf (says me message) bytes.items) → slice_get publics me ≡ Some (public_key seed) → IfOk r (λ bytes. IsSignedUnder publics me message bytes.items)
signs_own (Ok bytes) publics seed me leaf message h own = signed_is_sent publics me leaf message seed bytes.items own h
signs_own (Err fault) publics seed me leaf message h own = h

-- ---- the leaf that signs

-- a signature begins with its leaf
pub begins_with_leaf : (seed : List ℕ) (leaf : ℕ) (text : List ℕ) → slice_get (signature_of seed leaf text) 0 ≡ Some leaf
unfolding signature_of
begins_with_leaf seed leaf text = refl

pub signs_by : {E : Type 0} (r : Result (Vec ℕ Global) E) (seed : List ℕ) (leaf : ℕ) (body : BodyData) → IfOk r (λ bytes. SpellsSigned seed leaf body bytes.items) → IfOk r (λ bytes. leaf_of bytes.items ≡ Some leaf)
signs_by (Ok bytes) seed leaf body h =
    ap (option_and_then (λ (f : FrameData). leaf_in f.authenticator)) ((reads_frames bytes.items (signed_frame body h.signed)).1 h.spells) ∙ h.by_leaf
signs_by (Err fault) seed leaf body h = h

-- ---- the receivers of a signed frame

pub signed_goes : (m : Membership) (me faults : ℕ) (message : Message) (numbers bytes frame : List ℕ) → me < 3 * faults + 1 → faults ≡ m.faults → numbers ≡ other_replicas m me → frame ≡ bytes
    → (c : Configuration) → members c me ≡ m → IsOutgoing c me message [] bytes → numbers ≡ receivers_in c me frame
signed_goes m me faults message numbers bytes frame below size goes same c known is_outgoing =
    let count : faults ≡ c.faults = size ∙ ap (λ (x : Membership). x.faults) (sym known) in
    goes ∙ ap (λ (x : Membership). other_replicas x me) (sym known)
    ∙ sym (signed_is_for c me message bytes (subst (λ (f : ℕ). me < 3 * f + 1) count below) is_outgoing) ∙ ap (receivers_in c me) (sym same)
