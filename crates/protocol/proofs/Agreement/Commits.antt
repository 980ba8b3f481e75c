-- From the commits that a replica counts to the batches that the committers had prepared.
use Rattle.std.proofs.Common.{◌≡◌, ℕ, true, List, [], ◌∷◌, ◌++◌, Option, Some, None, refl, sym, ap, ◌∙◌, subst, arith, ◌&&◌, eqb-true}
use Rattle.std.specs.Prelude.{◌==◌}
use Rattle.std.proofs.lemmas.Bool.{and_parts}
use Rattle.sha2.specs.Sha256.{sha256}
use Rattle.quorum.proofs.Counting.{count_mono}
use Rattle.protocol.specs.System.Configuration.{Configuration, is_correct_replica, replicas}
use Rattle.wire_format.specs.Messages.{BodyData as Body, MessageData as Message, commit as Commit}
use Rattle.protocol.specs.System.Trace.{Entry, history_of, Once, Always, Unforged}
use Rattle.protocol.specs.System.Trace.Entry.{Sent}
use Rattle.protocol.specs.Replica.Certificates.{prepare_from, commit_from, vote_in, prepare_of, commit_of, is_active_in, Prepared}
use Rattle.quorum.specs.Votes.{has_digest}
use Rattle.protocol.specs.Replica.RightReplica.{MaySendMessage, MayCommit}
use Rattle.protocol.specs.Laws.Histories.{AreReplicasSafe}
use Rattle.protocol.proofs.Words.Temporal.{once_weaker}
use Rattle.protocol.proofs.Words.Options.{then_some_gives, given_stays, given_once, some_injective}
use Rattle.protocol.proofs.Words.Linking.{Speaks}
use Rattle.protocol.proofs.Agreement.Voting.{vote_brought, RightAt, once_right, Brings, brought_was_said, logged_stays}

abbrev pub committing : ℕ → ℕ → ℕ → List ℕ → Body
committing s v i digest = record { sender = s; message = Commit v i digest }

commit_is : (s v i : ℕ) (d : List ℕ) (sender : ℕ) (message : Message) → commit_from s v i (record { sender = sender; message = message }) ≡ Some d
    → ◌≡◌ {A = Body} (record { sender = sender; message = message }) (committing s v i d)
commit_is s v i d sender (Commit view number digest) h =
    let g = then_some_gives ((sender == s) && (view == v) && (number == i)) digest d h in
    let p = and_parts ((sender == s) && (view == v)) (number == i) g.0 in
    let q = and_parts (sender == s) (view == v) p.0 in
    let es : sender ≡ s = eqb-true sender s q.0 in
    let ev : view ≡ v = eqb-true view v q.1 in
    let ei : number ≡ i = eqb-true number i p.1 in
    rw (es, ev, ei, g.1) refl
commit_is s v i d sender _ h = absurd cc

pub commit_source : (c : Configuration) (me s v i : ℕ) (d : List ℕ) (past : List Entry) (e : Entry) → vote_in c me past e (commit_from s v i) v i ≡ Some d
    → Brings c (committing s v i d) past e
commit_source c me s v i d past e h =
    let r = vote_brought c me v i d (commit_from s v i) past e h in
    r.1 ∙ ap Some (commit_is s v i d r.0.sender r.0.message r.2)

-- ---- prepared batches stay prepared

pub digest_stays : (d : List ℕ) (o o' : Option (List ℕ)) → ((x : List ℕ) → o ≡ Some x → o' ≡ Some x) → has_digest d o ≡ true → has_digest d o' ≡ true
digest_stays d None o' f h = absurd cc
digest_stays d (Some x) o' f h = rw (f x refl) h

pub prepare_stays : (c : Configuration) (me v i s : ℕ) (d : List ℕ) (e : Entry) (past : List Entry) → prepare_of c me past v i s ≡ Some d → prepare_of c me (e ∷ past) v i s ≡ Some d
unfolding prepare_of
prepare_stays c me v i s d e past h = given_stays (λ earlier e. vote_in c me earlier e (prepare_from c s v i) v i) d e past h

pub prepared_stays : (c : Configuration) (me v i : ℕ) (batch : List ℕ) (e : Entry) (past : List Entry) → Prepared c me past v i batch → Prepared c me (e ∷ past) v i batch
prepared_stays c me v i batch e past p =
    let more = count_mono (λ s. has_digest (sha256 batch) (prepare_of c me past v i s)) (λ s. has_digest (sha256 batch) (prepare_of c me (e ∷ past) v i s)) (replicas c)
    (λ s l h. digest_stays (sha256 batch) (prepare_of c me past v i s) (prepare_of c me (e ∷ past) v i s) (λ x. prepare_stays c me v i s x e past) h) in
    let had = p.backups in
    record { logged = logged_stays c me v i batch e past p.logged; backups = omega arith }

-- over all later entries
pub prepared_remains : (c : Configuration) (me v i : ℕ) (batch : List ℕ) (later past : List Entry) → Prepared c me past v i batch → Prepared c me (later ++ past) v i batch
prepared_remains c me v i batch [] past h = h
prepared_remains c me v i batch (e ∷ later) past h = prepared_stays c me v i batch e (later ++ past) (prepared_remains c me v i batch later past h)

-- ---- a counted commit is for a batch that its sender had prepared

pub record Commits (c : Configuration) (me v i : ℕ) (d : List ℕ) (past : List Entry) : Type 0 where
  pub active : is_active_in c past v ≡ true
  pub batch : List ℕ
  pub prepared : Prepared c me past v i batch
  pub digest_is : sha256 batch ≡ d

pub says_prepared : (c : Configuration) (me v i : ℕ) (d : List ℕ) (past : List Entry) (e : Entry) → RightAt c me past e → Speaks (committing me v i d) past e → Commits c me v i d past
says_prepared c me v i d past (Sent p bytes) r h = go r.may.body (some_injective r.may.body (committing me v i d) (sym r.may.says ∙ h)) r.may.allowed
  where
    go : (body : Body) → body ≡ committing me v i d → MaySendMessage c me past r.point (Sent p bytes) bytes body.message → Commits c me v i d past
    go body is allowed =
        let m : MayCommit c me past v i d = subst (λ (x : Body). MaySendMessage c me past r.point (Sent p bytes) bytes x.message) is allowed in
        record { active = m.active; batch = m.batch; prepared = m.prepared; digest_is = m.digest_is }
says_prepared c me v i d past _ r h = absurd h

abbrev pub CommitsAt : Configuration → ℕ → ℕ → ℕ → List ℕ → List Entry → Entry → Type 0
CommitsAt c me v i d past e = Commits c me v i d past × Speaks (committing me v i d) past e

pub voter_commits : (c : Configuration) (trace : List Entry) (p s v i : ℕ) (d : List ℕ) → AreReplicasSafe c trace → Unforged c trace
    → is_correct_replica c p ≡ true → is_correct_replica c s ≡ true
    → commit_of c p (history_of p trace) v i s ≡ Some d → Once (CommitsAt c s v i d) (history_of s trace)
unfolding commit_of
voter_commits c trace p s v i d right unforged correct from h =
    let votes : Once (λ past e. vote_in c p past e (commit_from s v i) v i ≡ Some d) (history_of p trace) =
    given_once (λ past e. vote_in c p past e (commit_from s v i) v i) d (history_of p trace) h in
    let brings : Once (Brings c (committing s v i d)) (history_of p trace) =
    once_weaker (λ past e. vote_in c p past e (commit_from s v i) v i ≡ Some d) (Brings c (committing s v i d)) (commit_source c p s v i d) (history_of p trace) votes in
    let says : Once (Speaks (committing s v i d)) (history_of s trace) = brought_was_said c trace p (committing s v i d) right unforged correct from brings in
    once_weaker (λ past e. RightAt c s past e × Speaks (committing s v i d) past e × Always (RightAt c s) past) (CommitsAt c s v i d)
    (λ past e t. (says_prepared c s v i d past e t.0 t.1, t.1)) (history_of s trace)
    (once_right c s (Speaks (committing s v i d)) (history_of s trace) (right s from) says)
