-- The requests of logged batches were seen.
use Rattle.std.proofs.Common.{◌≡◌, ℕ, zero, suc, ◌-◌, ◌⊎◌, inl, inr, List, [], ◌∷◌, Option, Some, None, slice_get, sym, subst}
use Rattle.std.specs.Prelude.{◌==◌, ◌&&◌, nat_lt, option_and_then}
use Rattle.std.specs.Option.{option_map_or}
use Rattle.wire_format.specs.Messages.{BodyData as Body, MessageData as Message, pre_prepare as PrePrepare}
use Rattle.wire_format.specs.Words.{requests_of, requests_of_all, carried}
use Rattle.protocol.specs.System.Configuration.{Configuration, primary}
use Rattle.protocol.specs.System.Trace.{Entry, Once, Has}
use Rattle.protocol.specs.System.Trace.Entry.{Got, Sent}
use Rattle.protocol.specs.Replica.Certificates.{brought, taken, new_view_from, low, is_in_marks, are_genuine, batch_from, assigned_batch, assigned_proposal, entry_proposal, proposal, logged}
use Rattle.protocol.specs.Replica.RightReplica.{HasSeen}
use Rattle.protocol.proofs.Words.Options.{or_else_cases, and_then_some, then_some_gives, given_once}
use Rattle.protocol.proofs.Words.Temporal.{once_weaker}
use Rattle.protocol.proofs.Words.Elements.{has_left, has_right, each_where}
use Rattle.protocol.proofs.Words.Linking.{heard_said}
use Rattle.protocol.proofs.Agreement.Marks.{takes, begins}
use Rattle.protocol.proofs.Agreement.Offers.{entry_batch}
use Rattle.replica_histories.specs.PqSets.{LoggedAreSeen}
use Rattle.replica_histories.proofs.Words.{passed}

-- an entry carries what it brings
brought_seen : (c : Configuration) (body : Body) (frame : List ℕ) (past : List Entry) (e : Entry) → brought c e ≡ Some body → Has (λ x. x ≡ frame) (carried body.message) → HasSeen frame past e
brought_seen c body frame past (Got p bytes) h has = inr (subst (λ (o : Option Body). Has (λ x. x ≡ frame) (option_map_or (λ (b : Body). carried b.message) o [])) (sym (heard_said c p bytes body h)) has)
brought_seen c body frame past (Sent p bytes) h has = inr (subst (λ (o : Option Body). Has (λ x. x ≡ frame) (option_map_or (λ (b : Body). carried b.message) o [])) (sym h) has)
brought_seen c body frame past _ h has = absurd (let bad : None ≡ Some body = h in cc)

-- a pre-prepare carries the requests of its batch
batch_carried : (c : Configuration) (me v i : ℕ) (text frame : List ℕ) (sender : ℕ) (message : Message) → batch_from c me v i (record { sender = sender; message = message }) ≡ Some text
    → Has (λ x. x ≡ frame) (requests_of text) → Has (λ x. x ≡ frame) (carried message)
batch_carried c me v i text frame sender (PrePrepare view number batch) h has =
    let g = then_some_gives ((view == v) && (number == i) && (sender == primary c v) && are_genuine c me batch) batch text h in
    subst (λ (x : List ℕ). Has (λ y. y ≡ frame) (requests_of x)) (sym g.1) has
batch_carried c me v i text frame sender _ h has = absurd cc

-- and a new view those of its batches
among : (batches : List (List ℕ)) (k : ℕ) (text frame : List ℕ) → slice_get batches k ≡ Some text → Has (λ x. x ≡ frame) (requests_of text) → Has (λ x. x ≡ frame) (requests_of_all batches)
among [] k text frame h has = absurd cc
among (batch ∷ batches) zero text frame h has =
    let same : batch ≡ text = cc in
    has_left (λ x. x ≡ frame) (requests_of batch) (requests_of_all batches) (subst (λ (x : List ℕ). Has (λ y. y ≡ frame) (requests_of x)) (sym same) has)
among (batch ∷ batches) (suc k) text frame h has = has_right (λ x. x ≡ frame) (requests_of batch) (requests_of_all batches) (among batches k text frame h has)

proposed_seen : (c : Configuration) (me v i : ℕ) (text frame : List ℕ) (past : List Entry) (e : Entry) → Has (λ x. x ≡ frame) (requests_of text) → proposal c me past e v i ≡ Some text → HasSeen frame past e
proposed_seen c me v i text frame past e has h = go (or_else_cases (assigned_proposal c me past e v i) (entry_proposal c me past e v i) text h)
  where
    go : (assigned_proposal c me past e v i ≡ Some text) ⊎ (entry_proposal c me past e v i ≡ Some text) → HasSeen frame past e
    go (inr k) = let b = (entry_batch c me v i text past e k).1 in brought_seen c b.0 frame past e b.1 (batch_carried c me v i text frame b.0.sender b.0.message b.2 has)
    go (inl k) =
        let p = passed (is_in_marks c (low c me (e ∷ past)) i) (option_and_then (assigned_batch v i) (taken c past e)) text k in
        let n = and_then_some (assigned_batch v i) (taken c past e) text p.1 in
        let r = and_then_some (new_view_from c) (brought c e) n.0 (takes c me past e n.0 n.1).brought in
        let b = passed ((n.0.view == v) && nat_lt n.0.start i) (slice_get n.0.batches (i - n.0.start - 1)) text n.2 in
        brought_seen c r.0 frame past e r.1
        (subst (λ (m : Message). Has (λ x. x ≡ frame) (carried m)) (sym (begins c r.0 n.0 r.2).message_is)
        (has_right (λ x. x ≡ frame) n.0.changes (requests_of_all n.0.batches) (among n.0.batches (i - n.0.start - 1) text frame b.1 has)))

pub logged_are_seen : LoggedAreSeen
unfolding logged
logged_are_seen c me v i text history h =
    each_where (λ frame. Once (HasSeen frame) history) (requests_of text)
    (λ frame has. once_weaker (λ past e. proposal c me past e v i ≡ Some text) (HasSeen frame) (λ past e k. proposed_seen c me v i text frame past e has k) history
    (given_once (λ earlier e. proposal c me earlier e v i) text history h))
