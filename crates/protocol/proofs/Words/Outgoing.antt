-- Sealed and signed frames are sent, and may be sent if their message may be said. A leaf signs one frame.
use Rattle.std.proofs.Common.{◌≡◌, ℕ, inl, inr, Bool, true, false, List, [], ◌∷◌, Option, Some, None, ◌∙◌, refl, sym, ap, subst}
use Rattle.std.specs.Prelude.{option_and_then}
use Rattle.std.proofs.lemmas.List.Elements.{All-map}
use Rattle.wire_format.specs.Messages.{BodyData as Body, MessageData as Message, FrameData as Frame, MacData, AuthenticatorData as Authenticator, macs, signature}
use Rattle.wire_format.specs.Spelling.{body_spelling, SpellsFrame, is_signed, authenticator_is_signed}
use Rattle.authenticator.specs.Authentic.{mac_of}
use Rattle.authenticator.specs.Sealing.{entry_for, sealed_for}
use Rattle.signing.specs.AuthenticBody.{has_signature}
use Rattle.protocol.specs.System.Configuration.{Configuration, members}
use Rattle.wire_format.specs.Words.{receivers_of, frame_of, said}
use Rattle.protocol.specs.System.Frames.{IsSealed, IsOutgoing, leaf_in, leaf_of}
use Rattle.protocol.specs.System.Trace.{Entry}
use Rattle.protocol.specs.System.Trace.Entry.{Invoke, Sent}
use Rattle.protocol.specs.Replica.RightReplica.{Point, HistoryReaches, IsStep, MaySend, IsFor, IsAddressed, SendsBytes, SentBefore, HasOwnLeaf}
use Rattle.protocol.specs.Laws.Histories.{OutgoingMaySend, LeavesSignOnce}
use Rattle.protocol.proofs.Words.Options.{some_injective}
use Rattle.wire_format.proofs.Saying.{reads_frames, reads_said}

-- ---- sent frames

-- a frame that the bytes spell, if it is sealed well
pub frame_is_outgoing : (c : Configuration) (bytes : List ℕ) (frame : Frame) → SpellsFrame bytes frame → IsSealed c frame
    → IsOutgoing c frame.body.sender frame.body.message (receivers_of frame.authenticator) bytes
frame_is_outgoing c bytes frame spells well = record {
  says = reads_said bytes frame spells;
  is_sealed = λ other is.
      let same : frame ≡ other = some_injective frame other (sym ((reads_frames bytes frame).1 spells) ∙ is) in
      subst (λ (f : Frame). IsSealed c f × (receivers_of f.authenticator ≡ receivers_of frame.authenticator)) same (well, refl);
}

sealed_well : (c : Configuration) (body : Body) (parties : List ℕ) → IsSealed c (sealed_for (members c body.sender).keys body parties)
sealed_well c body parties = All-map (λ (x : MacData). x.mac ≡ mac_of (members c body.sender).keys x.receiver body) (entry_for (members c body.sender).keys body.sender (body_spelling body)) parties (λ k d within. refl)

sealed_receivers : (c : Configuration) (body : Body) (parties : List ℕ) → receivers_of (sealed_for (members c body.sender).keys body parties).authenticator ≡ parties
sealed_receivers c body [] = refl
sealed_receivers c body (p ∷ ps) = ap (λ (xs : List ℕ). p ∷ xs) (sealed_receivers c body ps)

-- a frame that is sealed for these parties
pub sealed_is_outgoing : (c : Configuration) (body : Body) (parties bytes : List ℕ) → SpellsFrame bytes (sealed_for (members c body.sender).keys body parties)
    → IsOutgoing c body.sender body.message parties bytes
sealed_is_outgoing c body parties bytes spells =
    subst (λ (xs : List ℕ). IsOutgoing c body.sender body.message xs bytes) (sealed_receivers c body parties)
    (frame_is_outgoing c bytes (sealed_for (members c body.sender).keys body parties) spells (sealed_well c body parties))

-- a frame that is signed
pub signed_is_outgoing : (c : Configuration) (body : Body) (text bytes : List ℕ) → SpellsFrame bytes (record { body = body; authenticator = signature text })
    → has_signature c.publics (record { body = body; authenticator = signature text }) ≡ true → IsOutgoing c body.sender body.message [] bytes
signed_is_outgoing c body text bytes spells signed = frame_is_outgoing c bytes (record { body = body; authenticator = signature text }) spells signed

-- ---- frames without a leaf

-- the leaf of the frame that the bytes spell
pub leaf_by : (bytes : List ℕ) (frame : Frame) (leaf : Option ℕ) → frame_of bytes ≡ Some frame → leaf_in frame.authenticator ≡ leaf → leaf_of bytes ≡ leaf
leaf_by bytes frame leaf is by = ap (option_and_then (λ (f : Frame). leaf_in f.authenticator)) is ∙ by

none_by : (past : List Entry) (bytes : List ℕ) → leaf_of bytes ≡ None → HasOwnLeaf bytes past
none_by past bytes none leaf sent is other before = absurd (let bad : None ≡ Some leaf = sym none ∙ is in cc)

-- one with MACs
pub macs_have_no_leaf : (past : List Entry) (bytes : List ℕ) (frame : Frame) (entries : List MacData) → frame_of bytes ≡ Some frame → frame.authenticator ≡ macs entries → HasOwnLeaf bytes past
macs_have_no_leaf past bytes frame entries is by = none_by past bytes (leaf_by bytes frame None is (ap leaf_in by))

-- one of a message that isn't signed
pub unsigned_no_leaf : (bytes : List ℕ) (body : Body) → said bytes ≡ Some body → is_signed body.message ≡ false → leaf_of bytes ≡ None
unsigned_no_leaf bytes body says unsigned = go (frame_of bytes) refl
  where
    by : (a : Authenticator) → authenticator_is_signed a ≡ false → leaf_in a ≡ None
    by (macs entries) h = refl
    by (signature s) h = absurd cc

    go : (o : Option Frame) → frame_of bytes ≡ o → leaf_of bytes ≡ None
    go None is = ap (option_and_then (λ (f : Frame). leaf_in f.authenticator)) is
    go (Some frame) is =
        let spells = (reads_frames bytes frame).0 is in
        let same : ◌≡◌ {A = Body} frame.body body = some_injective _ _ (sym (reads_said bytes frame spells) ∙ says) in
        leaf_by bytes frame None is (by frame.authenticator (spells.valid.proved ∙ ap (λ (b : Body). is_signed b.message) same ∙ unsigned))

pub unsigned_have_no_leaf : (past : List Entry) (bytes : List ℕ) (body : Body) → said bytes ≡ Some body → is_signed body.message ≡ false → HasOwnLeaf bytes past
unsigned_have_no_leaf past bytes body says unsigned = none_by past bytes (unsigned_no_leaf bytes body says unsigned)

-- ---- sent frames may be sent

addressed : (c : Configuration) (me : ℕ) (past : List Entry) (message : Message) (authenticator : Authenticator) (receivers : List ℕ) → receivers_of authenticator ≡ receivers → IsFor c me past message receivers
    → IsAddressed c me past message authenticator
addressed c me past message (macs entries) receivers is for = subst (IsFor c me past message) (sym is) for
addressed c me past message (signature s) receivers is for = tt

pub may_send : OutgoingMaySend
may_send c me past point e bytes receivers message is_outgoing for seen allowed leaf once = record {
  body = record { sender = me; message = message };
  says = is_outgoing.says;
  own = refl;
  seen = seen;
  allowed = allowed;
  is_sealed = λ frame is. let sealed = is_outgoing.is_sealed frame is in (sealed.0, addressed c me past message frame.authenticator receivers sealed.1 for);
  leaf = own (is_signed message) refl;
  once = once;
}
  where
    own : (b : Bool) → is_signed message ≡ b → HasOwnLeaf bytes past
    own true is = leaf is
    own false is = unsigned_have_no_leaf past bytes (record { sender = me; message = message }) is_outgoing.says is

-- ---- a leaf signs one frame

module _ (c : Configuration) (me leaf : ℕ) (one other : List ℕ) (by_one : leaf_of one ≡ Some leaf) (by_other : leaf_of other ≡ Some leaf) where
  sent_now : (past : List Entry) (old new : Point) (e : Entry) → IsStep c me past old e new → SendsBytes one past e → SentBefore other past → one ≡ other
  sent_now past old new (Sent p sent) step now before =
      let m : MaySend c me past old (Sent p sent) sent = step.may in
      sym now ∙ sym (m.leaf leaf other (ap leaf_of now ∙ by_one) by_other before)
  sent_now past old new (Invoke x y z) step now before = absurd now
  sent_now past old new _ step now before = absurd now

both_now : (one other : List ℕ) (past : List Entry) (e : Entry) → SendsBytes one past e → SendsBytes other past e → one ≡ other
both_now one other past (Sent p sent) h k = sym h ∙ k
both_now one other past _ h k = absurd h

pub leaf_signs_once : (c : Configuration) (me leaf : ℕ) (one other : List ℕ) → leaf_of one ≡ Some leaf → leaf_of other ≡ Some leaf → (history : List Entry) (point : Point) → HistoryReaches c me history point
    → SentBefore one history → SentBefore other history → one ≡ other
leaf_signs_once c me leaf one other a b [] point leaves h k = absurd h
leaf_signs_once c me leaf one other a b (e ∷ past) point (old, before, step) (inl h) (inl k) = both_now one other past e h k
leaf_signs_once c me leaf one other a b (e ∷ past) point (old, before, step) (inl h) (inr k) = sent_now c me leaf one other a b past old point e step h k
leaf_signs_once c me leaf one other a b (e ∷ past) point (old, before, step) (inr h) (inl k) = sym (sent_now c me leaf other one b a past old point e step k h)
leaf_signs_once c me leaf one other a b (e ∷ past) point (old, before, step) (inr h) (inr k) = leaf_signs_once c me leaf one other a b past old before h k

pub leaves_sign_once : LeavesSignOnce
leaves_sign_once c me leaf one other history right a b h k = leaf_signs_once c me leaf one other a b history right.0 right.1 h k
