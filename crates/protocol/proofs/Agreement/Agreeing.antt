-- Two prepared batches of one view and number have one digest.
use Rattle.std.proofs.Common.{◌≡◌, ℕ, ◌+◌, ◌*◌, ◌%◌, ◌≤◌, ◌<◌, ◌⊎◌, inl, inr, true, false, not, List, [], ◌∷◌, Option, Some, None, sym, ap, ◌∙◌, subst, arith, ◌&&◌, ◌||◌, eqb-true, mod-lt}
use Rattle.std.specs.Prelude.{◌==◌}
use Rattle.std.proofs.lemmas.Bool.{and_from, or_cases, lt-ltb, not_from_false}
use Rattle.std.proofs.lemmas.Slice.Eq.{bytes_eq-Decides}
use Rattle.sha2.specs.Sha256.{sha256}
use Rattle.quorum.proofs.Counting.{quorums_meet, count_with, count_members, count_mono}
use Rattle.quorum.specs.Quorum.{count_below}
use Rattle.protocol.specs.System.Configuration.{Configuration, primary, is_correct_replica, is_faulty_replica, is_replica}
use Rattle.wire_format.specs.Messages.{BodyData as Body}
use Rattle.protocol.specs.System.Trace.{Entry, history_of, Once, Always, Unforged}
use Rattle.protocol.specs.System.Trace.Entry.{Sent}
use Rattle.quorum.specs.Votes.{has_digest}
use Rattle.protocol.specs.Replica.Certificates.{proposal, logged, prepare_of, Prepared}
use Rattle.protocol.specs.Laws.Histories.{AreReplicasSafe, PreparedAgree}
use Rattle.protocol.proofs.Words.Temporal.{once_weaker}
use Rattle.protocol.proofs.Words.Options.{given_once, some_injective}
use Rattle.protocol.proofs.Words.Linking.{Speaks}
use Rattle.protocol.proofs.Agreement.Voting.{RightAt, primary_votes_not, right_always, once_right, Brings, brought_was_said, Logs, voter_logs, logs_agree}
use Rattle.protocol.proofs.Agreement.Offers.{offer_from, offer_in, offered, proposal_offer, offers_kept}

-- some value with Q has P at some entry, if an entry has P of a value with Q
pub once_some : {A : Type 0} (P : A → List Entry → Entry → Type 0) (Q : A → Type 0) (xs : List Entry) → Once (λ past e. (x : A) × P x past e × Q x) xs
    → (x : A) × Once (P x) xs × Q x
once_some P Q [] h = absurd h
once_some P Q (e ∷ past) (inl h) = (h.0, inl h.1, h.2)
once_some P Q (e ∷ past) (inr h) = let r = once_some P Q past h in (r.0, inr r.1, r.2)

speaks_offer : (v i : ℕ) (batch : List ℕ) (body : Body) → offer_from v i body ≡ Some batch → (past : List Entry) (e : Entry) → Speaks body past e → offer_in v i e ≡ Some batch
speaks_offer v i batch body is past (Sent p bytes) h = rw h is
speaks_offer v i batch body is past _ h = absurd h

-- a correct primary of the view offered the batch that a right replica logs
pub logged_was_offered : (c : Configuration) (trace : List Entry) (p v i : ℕ) (batch : List ℕ) → AreReplicasSafe c trace → Unforged c trace
    → is_correct_replica c p ≡ true → is_correct_replica c (primary c v) ≡ true
    → logged c p (history_of p trace) v i ≡ Some batch → offered v i (history_of (primary c v) trace) ≡ Some batch
unfolding logged
logged_was_offered c trace p v i batch right unforged correct from h =
    let logs : Once (λ past e. proposal c p past e v i ≡ Some batch) (history_of p trace) = given_once (λ earlier e. proposal c p earlier e v i) batch (history_of p trace) h in
    let offers : Once (λ past e. (body : Body) × Brings c body past e × ((body.sender ≡ primary c v) × (offer_from v i body ≡ Some batch))) (history_of p trace) =
    once_weaker (λ past e. RightAt c p past e × (proposal c p past e v i ≡ Some batch) × Always (RightAt c p) past)
    (λ past e. (body : Body) × Brings c body past e × ((body.sender ≡ primary c v) × (offer_from v i body ≡ Some batch)))
    (λ past e t. let o = proposal_offer c p v i batch past e t.1 in (o.body, o.brings, (o.sender_is, o.offers)))
    (history_of p trace) (once_right c p (λ past e. proposal c p past e v i ≡ Some batch) (history_of p trace) (right p correct) logs) in
    let one = once_some (λ body past e. Brings c body past e) (λ body. (body.sender ≡ primary c v) × (offer_from v i body ≡ Some batch)) (history_of p trace) offers in
    let sender : is_correct_replica c one.0.sender ≡ true = rw one.2.0 from in
    let says : Once (Speaks one.0) (history_of one.0.sender trace) = brought_was_said c trace p one.0 right unforged correct sender one.1 in
    let there : Once (Speaks one.0) (history_of (primary c v) trace) = subst (λ (x : ℕ). Once (Speaks one.0) (history_of x trace)) one.2.0 says in
    let r = right (primary c v) from in
    (offers_kept c (primary c v) v i batch (history_of (primary c v) trace) (right_always c (primary c v) (history_of (primary c v) trace) r.0 r.1)
    (once_weaker (Speaks one.0) (λ earlier x. offer_in v i x ≡ Some batch) (speaks_offer v i batch one.0 one.2.1) (history_of (primary c v) trace) there)).is_offered

pub has_digest_is : (d : List ℕ) (o : Option (List ℕ)) → has_digest d o ≡ true → o ≡ Some d
has_digest_is d None h = absurd cc
has_digest_is d (Some x) h = ap Some (sym ((bytes_eq-Decides d x).0 h))

-- the primary and the backups that prepared are a quorum
prepared_quorum : (c : Configuration) (p : ℕ) (past : List Entry) (v i : ℕ) (batch : List ℕ) → Prepared c p past v i batch
    → 2 * c.faults + 1 ≤ count_below (λ s. (s == primary c v) || has_digest (sha256 batch) (prepare_of c p past v i s)) (3 * c.faults + 1)
prepared_quorum c p past v i batch x =
    let some : 0 < 3 * c.faults + 1 = omega arith in
    let lt : v % (3 * c.faults + 1) < 3 * c.faults + 1 = mod-lt v some in
    let more = count_with (λ s. has_digest (sha256 batch) (prepare_of c p past v i s)) (primary c v) (3 * c.faults + 1) lt in
    let same = count_mono (λ s. has_digest (sha256 batch) (prepare_of c p past v i s)) (λ s. not (s == primary c v) && has_digest (sha256 batch) (prepare_of c p past v i s)) (3 * c.faults + 1)
    (λ s l h. and_from (not (s == primary c v)) (has_digest (sha256 batch) (prepare_of c p past v i s))
    (primary_votes_not c p v i s (sha256 batch) past (has_digest_is (sha256 batch) (prepare_of c p past v i s) h)) h) in
    let had = x.backups in
    omega arith

pub prepared_agree : PreparedAgree
prepared_agree c setting trace right unforged p q v i a b correct correct' x y =
    go s.2 (or_cases (s.0 == primary c v) (has_digest (sha256 a) (prepare_of c p (history_of p trace) v i s.0)) s.3)
    (or_cases (s.0 == primary c v) (has_digest (sha256 b) (prepare_of c q (history_of q trace) v i s.0)) s.4)
  where
    n : ℕ
    n = 3 * c.faults + 1

    few : count_below (is_faulty_replica c) (3 * c.faults + 1) ≤ c.faults
    few = let m = count_members c.faulty_replicas (3 * c.faults + 1) in let k = setting.few in omega arith

    s : (s : ℕ) × (s < 3 * c.faults + 1) × (is_faulty_replica c s ≡ false)
        × (((s == primary c v) || has_digest (sha256 a) (prepare_of c p (history_of p trace) v i s)) ≡ true)
        × (((s == primary c v) || has_digest (sha256 b) (prepare_of c q (history_of q trace) v i s)) ≡ true)
    s = quorums_meet c.faults (is_faulty_replica c)
        (λ s. (s == primary c v) || has_digest (sha256 a) (prepare_of c p (history_of p trace) v i s))
        (λ s. (s == primary c v) || has_digest (sha256 b) (prepare_of c q (history_of q trace) v i s))
        few (prepared_quorum c p (history_of p trace) v i a x) (prepared_quorum c q (history_of q trace) v i b y)

    member_correct : is_correct_replica c s.0 ≡ true
    member_correct = and_from (is_replica c s.0) (not (is_faulty_replica c s.0)) (lt-ltb s.0 (3 * c.faults + 1) s.1) (not_from_false (is_faulty_replica c s.0) s.2)

    at_primary : (s.0 == primary c v) ≡ true → sha256 a ≡ sha256 b
    at_primary e =
        let is : s.0 ≡ primary c v = eqb-true s.0 (primary c v) e in
        let from : is_correct_replica c (primary c v) ≡ true = subst (λ (x : ℕ). is_correct_replica c x ≡ true) is member_correct in
        let first = logged_was_offered c trace p v i a right unforged correct from x.logged in
        let second = logged_was_offered c trace q v i b right unforged correct' from y.logged in
        ap sha256 (some_injective a b (sym first ∙ second))

    go : is_faulty_replica c s.0 ≡ false
        → ((s.0 == primary c v) ≡ true) ⊎ (has_digest (sha256 a) (prepare_of c p (history_of p trace) v i s.0) ≡ true)
        → ((s.0 == primary c v) ≡ true) ⊎ (has_digest (sha256 b) (prepare_of c q (history_of q trace) v i s.0) ≡ true)
        → sha256 a ≡ sha256 b
    go f (inl e) k = at_primary e
    go f (inr d) (inl e) = at_primary e
    go f (inr d) (inr e) =
        let first : Logs c s.0 v i (sha256 a) (history_of s.0 trace) = voter_logs c trace p s.0 v i (sha256 a) right unforged correct member_correct (has_digest_is (sha256 a) (prepare_of c p (history_of p trace) v i s.0) d) in
        let second : Logs c s.0 v i (sha256 b) (history_of s.0 trace) = voter_logs c trace q s.0 v i (sha256 b) right unforged correct' member_correct (has_digest_is (sha256 b) (prepare_of c q (history_of q trace) v i s.0) e) in
        logs_agree c s.0 v i (sha256 a) (sha256 b) (history_of s.0 trace) first second
