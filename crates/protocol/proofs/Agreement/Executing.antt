-- Executed batches of one number are one.
use Rattle.std.proofs.Common.{◌≡◌, ℕ, zero, suc, ◌-◌, inl, inr, Bool, true, false, cond, List, [], ◌∷◌, ◌++◌, slice_get, Some, None, refl, subst, arith, ◌&&◌}
use Rattle.std.specs.Prelude.{◌==◌, nat_lt}
use Rattle.sha2.specs.Sha256.{sha256}
use Rattle.quorum.proofs.Counting.{count_mono}
use Rattle.protocol.specs.System.Configuration.{Configuration, replicas, is_correct_replica}
use Rattle.wire_format.specs.Messages.{BodyData as Body, MessageData as Message, NewViewData, pre_prepare as PrePrepare, new_view as NewView}
use Rattle.wire_format.specs.Words.{said}
use Rattle.protocol.specs.System.Trace.{Entry, party_of, history_of, Once, Always, Has}
use Rattle.protocol.specs.System.Trace.Entry.{Invoke, Got, Executed, Sent}
use Rattle.protocol.specs.Replica.Certificates.{proposal, logged, commit_of, commit_from, vote_in, Committed, assigned_batch}
use Rattle.quorum.specs.Votes.{has_digest}
use Rattle.protocol.specs.System.Texts.{IsText, EntryHasBatch, batches_of}
use Rattle.protocol.specs.System.Texts.IsText.{batch}
use Rattle.protocol.specs.Laws.Histories.{AreReplicasSafe, ExecutesBatch, ExecutedAgree}
use Rattle.protocol.proofs.Words.Temporal.{once_weaker, once_stays, once_in_trace, once_in_history}
use Rattle.protocol.proofs.Words.Options.{given_stays, given_once, then_some_gives}
use Rattle.protocol.proofs.Words.Linking.{heard_said}
use Rattle.protocol.proofs.Agreement.Voting.{RightAt, once_right, Brings}
use Rattle.protocol.proofs.Agreement.Offers.{offer_from, proposal_offer}
use Rattle.protocol.proofs.Agreement.Commits.{prepared_stays, digest_stays}
use Rattle.protocol.proofs.Agreement.Staying.{committed_agree}

pub commit_stays : (c : Configuration) (me v i s : ℕ) (d : List ℕ) (e : Entry) (past : List Entry) → commit_of c me past v i s ≡ Some d → commit_of c me (e ∷ past) v i s ≡ Some d
unfolding commit_of
commit_stays c me v i s d e past h = given_stays (λ earlier e. vote_in c me earlier e (commit_from s v i) v i) d e past h

pub committed_later : (c : Configuration) (me v i : ℕ) (a : List ℕ) (e : Entry) (past : List Entry) → Committed c me past v i a → Committed c me (e ∷ past) v i a
committed_later c me v i a e past k =
    let more = count_mono (λ s. has_digest (sha256 a) (commit_of c me past v i s)) (λ s. has_digest (sha256 a) (commit_of c me (e ∷ past) v i s)) (replicas c)
    (λ s l h. digest_stays (sha256 a) (commit_of c me past v i s) (commit_of c me (e ∷ past) v i s) (λ x. commit_stays c me v i s x e past) h) in
    let had = k.commits in
    record { prepared = prepared_stays c me v i a e past k.prepared; commits = omega arith; own = commit_stays c me v i me (sha256 a) e past k.own }

pub committed_remains : (c : Configuration) (me v i : ℕ) (a : List ℕ) (later past : List Entry) → Committed c me past v i a → Committed c me (later ++ past) v i a
committed_remains c me v i a [] past h = h
committed_remains c me v i a (e ∷ later) past h = committed_later c me v i a e (later ++ past) (committed_remains c me v i a later past h)

-- ---- executed batches are committed

pub record Ready (c : Configuration) (me k : ℕ) (a : List ℕ) (past : List Entry) : Type 0 where
  pub view : ℕ
  pub committed : Committed c me past view k a

executed_ready : (c : Configuration) (r k : ℕ) (a : List ℕ) (past : List Entry) (e : Entry) → RightAt c r past e → ExecutesBatch c k a past e → Ready c r k a past
executed_ready c r k a past (Executed p number text) t h =
    let m = t.may in
    let at : Committed c r past m.in_view k text = subst (λ (x : ℕ). Committed c r past m.in_view x text) h.1 m.committed in
    record { view = m.in_view; committed = subst (λ (x : List ℕ). Committed c r past m.in_view k x) h.2 at }
executed_ready c r k a past (Invoke x y z) t h = absurd h
executed_ready c r k a past _ t h = absurd h

-- a correct replica executed the batch
pub executor : (c : Configuration) (k : ℕ) (a : List ℕ) (xs : List Entry) → Once (ExecutesBatch c k a) xs
    → (r : ℕ) × (is_correct_replica c r ≡ true) × Once (ExecutesBatch c k a) (history_of r xs)
executor c k a xs h =
    let w = who xs h in
    (w.0, w.1, once_in_history (ExecutesBatch c k a) w.0 xs w.2)
  where
    at : (past : List Entry) (e : Entry) → ExecutesBatch c k a past e
        → (r : ℕ) × (is_correct_replica c r ≡ true) × ((party_of e ≡ r) × ExecutesBatch c k a (history_of r past) e)
    at past (Executed r number text) h = (r, h.0, (refl, h))
    at past _ h = absurd h

    who : (xs : List Entry) → Once (ExecutesBatch c k a) xs
        → (r : ℕ) × (is_correct_replica c r ≡ true) × Once (λ past e. (party_of e ≡ r) × ExecutesBatch c k a (history_of r past) e) xs
    who [] h = absurd h
    who (e ∷ past) (inl h) = let w = at past e h in (w.0, w.1, inl w.2)
    who (e ∷ past) (inr h) = let w = who past h in (w.0, w.1, inr w.2)

pub executed_committed : (c : Configuration) (trace : List Entry) (r k : ℕ) (a : List ℕ) → AreReplicasSafe c trace → is_correct_replica c r ≡ true
    → Once (ExecutesBatch c k a) (history_of r trace) → Ready c r k a (history_of r trace)
executed_committed c trace r k a right correct h =
    once_stays (Ready c r k a) (λ e past x. record { view = x.view; committed = committed_later c r x.view k a e past x.committed }) (history_of r trace)
    (once_weaker (λ past e. RightAt c r past e × ExecutesBatch c k a past e × Always (RightAt c r) past) (λ past e. Ready c r k a past)
    (λ past e t. executed_ready c r k a past e t.0 t.1) (history_of r trace)
    (once_right c r (ExecutesBatch c k a) (history_of r trace) (right r correct) h))

-- ---- a logged batch is a text

assigned_has : (v i : ℕ) (new : NewViewData) (a : List ℕ) → assigned_batch v i new ≡ Some a → Has (λ x. x ≡ a) new.batches
assigned_has v i new a h = go ((new.view == v) && nat_lt new.start i) h
  where
    get : (xs : List (List ℕ)) (k : ℕ) → slice_get xs k ≡ Some a → Has (λ x. x ≡ a) xs
    get [] k h = absurd cc
    get (x ∷ xs) zero h = let e : x ≡ a = cc in inl e
    get (x ∷ xs) (suc k) h = inr (get xs k h)

    go : (b : Bool) → cond b (slice_get new.batches (i - new.start - 1)) None ≡ Some a → Has (λ x. x ≡ a) new.batches
    go true h = get new.batches (i - new.start - 1) h
    go false h = absurd cc

offer_has : (v i : ℕ) (a : List ℕ) (sender : ℕ) (message : Message) → offer_from v i (record { sender = sender; message = message }) ≡ Some a → Has (λ x. x ≡ a) (batches_of message)
offer_has v i a sender (PrePrepare view number b) h = inl (then_some_gives ((view == v) && (number == i)) b a h).1
offer_has v i a sender (NewView new) h = assigned_has v i new a h
offer_has v i a sender _ h = absurd cc

brought_has : (c : Configuration) (v i : ℕ) (a : List ℕ) (body : Body) → offer_from v i body ≡ Some a → (past : List Entry) (e : Entry) → Brings c body past e → EntryHasBatch a past e
brought_has c v i a body is past (Got p bytes) h =
    let says : said bytes ≡ Some body = heard_said c p bytes body h in
    (body, says, offer_has v i a body.sender body.message is)
brought_has c v i a body is past (Sent p bytes) h = (body, h, offer_has v i a body.sender body.message is)
brought_has c v i a body is past _ h = absurd cc

has_any_past : (text : List ℕ) (past past' : List Entry) (e : Entry) → EntryHasBatch text past e → EntryHasBatch text past' e
has_any_past text past past' (Got p bytes) h = h
has_any_past text past past' (Sent p bytes) h = h
has_any_past text past past' _ h = absurd h

pub logged_text : (c : Configuration) (trace : List Entry) (r v i : ℕ) (a : List ℕ) → AreReplicasSafe c trace → is_correct_replica c r ≡ true
    → logged c r (history_of r trace) v i ≡ Some a → IsText c trace a
unfolding logged
logged_text c trace r v i a right correct h =
    batch a
    (once_weaker (λ past e. (party_of e ≡ r) × EntryHasBatch a (history_of r past) e) (EntryHasBatch a) (λ past e t. has_any_past a (history_of r past) past e t.1) trace
    (once_in_trace (EntryHasBatch a) r trace
    (once_weaker (λ past e. RightAt c r past e × (proposal c r past e v i ≡ Some a) × Always (RightAt c r) past) (EntryHasBatch a)
    (λ past e t. let o = proposal_offer c r v i a past e t.1 in brought_has c v i a o.body o.offers past e o.brings) (history_of r trace)
    (once_right c r (λ past e. proposal c r past e v i ≡ Some a) (history_of r trace) (right r correct) (given_once (λ earlier e. proposal c r earlier e v i) a (history_of r trace) h)))))

pub executed_agree : ExecutedAgree
executed_agree c setting trace right unforged apart k a b x y =
    let p = executor c k a trace x in
    let q = executor c k b trace y in
    let first = executed_committed c trace p.0 k a right p.1 p.2 in
    let second = executed_committed c trace q.0 k b right q.1 q.2 in
    apart a b (logged_text c trace p.0 first.view k a right p.1 first.committed.prepared.logged)
    (logged_text c trace q.0 second.view k b right q.1 second.committed.prepared.logged)
    (committed_agree c setting trace right unforged p.0 q.0 first.view second.view k a b p.1 q.1 first.committed second.committed)
