-- A replica that is steady over a part of a trace: its past at each entry of the part.
use Rattle.std.proofs.Common.{◌≡◌, ◌≢◌, ℕ, ◌+◌, ◌≤◌, ◌<◌, ◌⊎◌, inl, inr, true, false, not, List, [], ◌∷◌, ◌++◌, Option, Some, None, refl, sym, ap, ◌∙◌, subst, arith, ◌&&◌, eqb-true, eq-eqb}
use Rattle.std.specs.Prelude.{◌==◌, nat_lt, nat_le}
use Rattle.std.specs.List.{range_with_len}
use Rattle.std.proofs.lemmas.Bool.{and_parts, and_from, ltb-true, leb-true, lt-ltb, le-leb, ne_eqb}
use Rattle.wire_format.specs.Messages.{BodyData as Body, MessageData as Message, FrameData as Frame, AuthenticatorData as Authenticator, macs, signature}
use Rattle.wire_format.specs.Spelling.{is_signed, authenticator_is_signed}
use Rattle.wire_format.specs.Words.{said, receivers_of, frame_of}
use Rattle.authenticator.specs.Membership.{sends}
use Rattle.protocol.specs.System.Configuration.{Configuration, replicas, is_replica, span, is_number, signers}
use Rattle.protocol.specs.System.Frames.{IsSealed}
use Rattle.protocol.specs.System.Trace.{Entry, Has, Once}
use Rattle.protocol.specs.System.Trace.Entry.{Sent}
use Rattle.protocol.specs.Replica.Certificates.{view, target, is_active_in, low, is_in_marks, logged, first_given}
use Rattle.protocol.specs.Replica.RightReplica.{Point, HistoryReaches, IsStep, MaySend, IsFor, IsAddressed, others}
use Rattle.quorum.specs.Votes.{or_else}
use Rattle.protocol.proofs.Words.Options.{some_injective}
use Rattle.protocol.proofs.Words.Elements.{has_either, has_filtered}
use Rattle.protocol.proofs.Agreement.Marks.{view_grows, low_grows}
use Rattle.protocol.proofs.Agreement.Changes.{target_grows}
use Rattle.protocol.proofs.Agreement.Voting.{logged_stays, right_always}
use Rattle.protocol.proofs.Agreement.Offers.{logged_view}
use Rattle.evidence.proofs.Knowing.{replicas_exchange}
use Rattle.progress.specs.Delivery.{HasEntry}
use Rattle.progress.proofs.Receiving.{Heard, sealed_is_authentic}
use Rattle.progress.proofs.Answering.{in_range}

-- ---- view, target and marks grow with the past

pub view_later : (c : Configuration) (later past : List Entry) → view c past ≤ view c (later ++ past)
view_later c [] past = omega arith
view_later c (e ∷ later) past = let a = view_later c later past in let b = view_grows c e (later ++ past) in omega arith

pub target_later : (later past : List Entry) → target past ≤ target (later ++ past)
target_later [] past = omega arith
target_later (e ∷ later) past = let a = target_later later past in let b = target_grows e (later ++ past) in omega arith

pub low_later : (c : Configuration) (me : ℕ) (later past : List Entry) → low c me past ≤ low c me (later ++ past)
low_later c me [] past = omega arith
low_later c me (e ∷ later) past = let a = low_later c me later past in let b = low_grows c me e (later ++ past) in omega arith

pub logged_later : (c : Configuration) (me v i : ℕ) (batch : List ℕ) (later past : List Entry) → logged c me past v i ≡ Some batch → logged c me (later ++ past) v i ≡ Some batch
logged_later c me v i batch [] past h = h
logged_later c me v i batch (e ∷ later) past h = logged_stays c me v i batch e (later ++ past) (logged_later c me v i batch later past h)

pub leaves_behind : (c : Configuration) (me : ℕ) (part start : List Entry) (point : Point) → HistoryReaches c me (part ++ start) point → (first : Point) × HistoryReaches c me start first
leaves_behind c me [] start point leaves = (point, leaves)
leaves_behind c me (e ∷ part) start point leaves = leaves_behind c me part start leaves.0 leaves.1

-- ---- between two pasts

pub active_parts : (c : Configuration) (past : List Entry) (v : ℕ) → is_active_in c past v ≡ true → (view c past ≡ v) × (target past ≤ v)
active_parts c past v h =
    let p = and_parts (view c past == v) (nat_le (target past) v) h in
    (eqb-true (view c past) v p.0, leb-true (target past) v p.1)

-- a replica that is active in a view at first and at last is so in between
pub active_between : (c : Configuration) (v : ℕ) (newer middle past : List Entry) → is_active_in c past v ≡ true → is_active_in c (newer ++ (middle ++ past)) v ≡ true → is_active_in c (middle ++ past) v ≡ true
active_between c v newer middle past first last =
    let b = active_parts c (newer ++ (middle ++ past)) v last in
    let x = view_later c middle past in
    let y = view_later c newer (middle ++ past) in
    let z = target_later newer (middle ++ past) in
    let va = (active_parts c past v first).0 in
    let vb = b.0 in
    let tb = b.1 in
    let is : view c (middle ++ past) ≡ v = omega arith in
    let most : target (middle ++ past) ≤ v = omega arith in
    and_from (view c (middle ++ past) == v) (nat_le (target (middle ++ past)) v) (eq-eqb (view c (middle ++ past)) v is) (le-leb (target (middle ++ past)) v most)

-- if something is logged for the view, a replica that is active in it at last is active
pub active_once : (c : Configuration) (me v i : ℕ) (newer now : List Entry) (batch : List ℕ) (point : Point) → HistoryReaches c me (newer ++ now) point → is_active_in c (newer ++ now) v ≡ true → logged c me now v i ≡ Some batch
    → is_active_in c now v ≡ true
active_once c me v i newer now batch point leaves last h =
    let first = leaves_behind c me newer now point leaves in
    let a = logged_view c me v i batch now (right_always c me now first.0 first.1) h in
    let b = active_parts c (newer ++ now) v last in
    let x = view_later c newer now in
    let y = target_later newer now in
    let vb = b.0 in
    let tb = b.1 in
    and_from (view c now == v) (nat_le (target now) v) (eq-eqb (view c now) v (omega arith)) (le-leb (target now) v (omega arith))

pub marks_parts : (c : Configuration) (h i : ℕ) → is_in_marks c h i ≡ true → (h < i) × (i ≤ h + span c) × (is_number i ≡ true)
marks_parts c h i m =
    let p = and_parts (nat_lt h i && nat_le i (h + span c)) (is_number i) m in
    let q = and_parts (nat_lt h i) (nat_le i (h + span c)) p.0 in
    (ltb-true h i q.0, leb-true i (h + span c) q.1, p.1)

-- a number that is within the marks at first and at last is so in between
pub marks_between : (c : Configuration) (me i : ℕ) (newer middle past : List Entry) → is_in_marks c (low c me past) i ≡ true → is_in_marks c (low c me (newer ++ (middle ++ past))) i ≡ true
    → is_in_marks c (low c me (middle ++ past)) i ≡ true
marks_between c me i newer middle past first last =
    let a = marks_parts c (low c me past) i first in
    let x = low_later c me middle past in
    let y = low_later c me newer (middle ++ past) in
    let ha = a.1 in
    let lb = (marks_parts c (low c me (newer ++ (middle ++ past))) i last).0 in
    let above : low c me (middle ++ past) < i = omega arith in
    let within : i ≤ low c me (middle ++ past) + span c = omega arith in
    and_from (nat_lt (low c me (middle ++ past)) i && nat_le i (low c me (middle ++ past) + span c)) (is_number i)
    (and_from (nat_lt (low c me (middle ++ past)) i) (nat_le i (low c me (middle ++ past) + span c)) (lt-ltb (low c me (middle ++ past)) i above) (le-leb i (low c me (middle ++ past) + span c) within)) a.2

-- ---- the first value since some past

pub record Since (emit : List Entry → Entry → Option (List ℕ)) (x : List ℕ) (part start : List Entry) : Type 0 where
  pub newer : List Entry
  pub entry : Entry
  pub middle : List Entry
  pub splits : part ≡ newer ++ entry ∷ middle
  pub gives : emit (middle ++ start) entry ≡ Some x

pub given_since : (emit : List Entry → Entry → Option (List ℕ)) (x : List ℕ) (part start : List Entry) → first_given emit start ≡ None → first_given emit (part ++ start) ≡ Some x → Since emit x part start
given_since emit x [] start none h = absurd (let bad : None ≡ Some x = sym none ∙ h in cc)
given_since emit x (e ∷ part) start none h = go (first_given emit (part ++ start)) refl h (given_since emit x part start none)
  where
    go : (o : Option (List ℕ)) → first_given emit (part ++ start) ≡ o → or_else o (emit (part ++ start) e) ≡ Some x → (first_given emit (part ++ start) ≡ Some x → Since emit x part start) → Since emit x (e ∷ part) start
    go (Some y) is h below = let b = below (is ∙ h) in record { newer = e ∷ b.newer; entry = b.entry; middle = b.middle; splits = ap (λ (xs : List Entry). e ∷ xs) b.splits; gives = b.gives }
    go None is h below = record { newer = []; entry = e; middle = part; splits = refl; gives = h }

-- if a value is given at some entry, one is given first
pub some_given : (emit : List Entry → Entry → Option (List ℕ)) (xs : List Entry) → Once (λ past e. (x : List ℕ) × (emit past e ≡ Some x)) xs → (y : List ℕ) × (first_given emit xs ≡ Some y)
some_given emit [] h = absurd h
some_given emit (e ∷ past) (inl h) = go (first_given emit past)
  where
    go : (o : Option (List ℕ)) → (y : List ℕ) × (or_else o (emit past e) ≡ Some y)
    go None = h
    go (Some y) = (y, refl)
some_given emit (e ∷ past) (inr h) = go (first_given emit past) (some_given emit past h)
  where
    go : (o : Option (List ℕ)) → (y : List ℕ) × (o ≡ Some y) → (y : List ℕ) × (or_else o (emit past e) ≡ Some y)
    go None k = absurd (let bad = k.1 in cc)
    go (Some y) k = (y, refl)

-- ---- frames that are sent in the part

-- the replica sends the frame in this entry, as it may
pub record SentAt (c : Configuration) (me p : ℕ) (bytes : List ℕ) (history : List Entry) : Type 0 where
  pub newer : List Entry
  pub past : List Entry
  pub splits : history ≡ newer ++ Sent p bytes ∷ past
  pub point : Point
  pub own : p ≡ me
  pub may : MaySend c me past point (Sent p bytes) bytes

pub sent_at : (c : Configuration) (me p : ℕ) (bytes : List ℕ) (history : List Entry) (point : Point) → HistoryReaches c me history point → HasEntry (Sent p bytes) history → SentAt c me p bytes history
sent_at c me p bytes [] point leaves h = absurd h
sent_at c me p bytes (e ∷ past) point leaves (inl is) =
    let step = subst (λ (x : Entry). IsStep c me past leaves.0 x point) is leaves.2 in
    record { newer = []; past = past; splits = ap (λ (x : Entry). x ∷ past) is; point = leaves.0; own = step.own; may = step.may }
sent_at c me p bytes (e ∷ past) point leaves (inr h) =
    let below = sent_at c me p bytes past leaves.0 leaves.1 h in
    record { newer = e ∷ below.newer; past = below.past; splits = ap (λ (xs : List Entry). e ∷ xs) below.splits; point = below.point; own = below.own; may = below.may }

-- a frame about a number for which nothing was logged at first is sent in the part
pub sent_in_part : (c : Configuration) (me p v i : ℕ) (bytes : List ℕ) (part start : List Entry) (point : Point) → HistoryReaches c me (part ++ start) point → logged c me start v i ≡ None
    → ((past : List Entry) (at : Point) → MaySend c me past at (Sent p bytes) bytes → (batch : List ℕ) × (logged c me (Sent p bytes ∷ past) v i ≡ Some batch))
    → HasEntry (Sent p bytes) (part ++ start) → HasEntry (Sent p bytes) part
sent_in_part c me p v i bytes part start point leaves none says h = go (has_either (λ x. x ≡ Sent p bytes) part start h)
  where
    go : HasEntry (Sent p bytes) part ⊎ HasEntry (Sent p bytes) start → HasEntry (Sent p bytes) part
    go (inl k) = k
    go (inr k) =
        let first = leaves_behind c me part start point leaves in
        let at = sent_at c me p bytes start first.0 first.1 k in
        let s = says at.past at.point at.may in
        let there : logged c me start v i ≡ Some s.0 = subst (λ (xs : List Entry). logged c me xs v i ≡ Some s.0) (sym at.splits) (logged_later c me v i s.0 at.newer (Sent p bytes ∷ at.past) s.1) in
        absurd (let bad : None ≡ Some s.0 = sym none ∙ there in cc)

-- ---- frames for all other replicas reach each

among_others : (c : Configuration) (r s : ℕ) → s < replicas c → s ≢ r → Has (λ x. x ≡ s) (others c r)
among_others c r s small differ =
    has_filtered (λ x. x ≡ s) (λ x. not (x == r)) (λ x same. ap not (ne_eqb x r (λ e. differ (sym same ∙ e)))) (range_with_len 0 (replicas c))
    (let zero_first : 0 ≤ s = omega arith in let below : s < 0 + replicas c = omega arith in in_range 0 (replicas c) s zero_first below)

for_others : (c : Configuration) (r s : ℕ) (past : List Entry) (message : Message) → ((receivers : List ℕ) → IsFor c r past message receivers → receivers ≡ others c r) → s < replicas c → s ≢ r
    → (a : Authenticator) → authenticator_is_signed a ≡ false → IsAddressed c r past message a → Has (λ x. x ≡ s) (receivers_of a)
for_others c r s past message for small differ (macs entries) plain addressed = subst (λ (xs : List ℕ). Has (λ x. x ≡ s) xs) (sym (for (receivers_of (macs entries)) addressed)) (among_others c r s small differ)
for_others c r s past message for small differ (signature x) plain addressed = absurd cc

pub other_hears : (c : Configuration) (r s : ℕ) (message : Message) (bytes : List ℕ) (past : List Entry) (point : Point) → MaySend c r past point (Sent r bytes) bytes
    → said bytes ≡ Some (record { sender = r; message = message }) → is_signed message ≡ false → sends (signers c) r message ≡ true → is_replica c r ≡ true
    → ((receivers : List ℕ) → IsFor c r past message receivers → receivers ≡ others c r) → s < replicas c → s ≢ r → Heard c r s message bytes
other_hears c r s message bytes past point may says unsigned known replica for small differ =
    sealed_is_authentic c r s message bytes says well unsigned known (replicas_exchange c r s replica (lt-ltb s (replicas c) small) (λ same. differ (sym same)))
  where
    same_body : ◌≡◌ {A = Body} may.body (record { sender = r; message = message })
    same_body = some_injective may.body (record { sender = r; message = message }) (sym may.says ∙ says)

    well : (frame : Frame) → frame_of bytes ≡ Some frame → authenticator_is_signed frame.authenticator ≡ false → IsSealed c frame × Has (λ x. x ≡ s) (receivers_of frame.authenticator)
    well frame is plain =
        let sealed = may.is_sealed frame is in
        (sealed.0, for_others c r s past message for small differ frame.authenticator plain (subst (λ (b : Body). IsAddressed c r past b.message frame.authenticator) same_body sealed.1))
