-- The replica sent its own votes in a history, and sent them rightly.
use Rattle.std.proofs.Common.{◌≡◌, ◌≢◌, ℕ, ◌⊎◌, inl, inr, true, false, not, List, [], ◌∷◌, Some, refl, sym, ap, ◌∙◌}
use Rattle.std.specs.Prelude.{◌==◌}
use Rattle.sha2.specs.Sha256.{sha256}
use Rattle.wire_format.specs.Messages.{BodyData as Body, MessageData as Message}
use Rattle.signing.specs.AuthenticBody.{authentic}
use Rattle.signing.proofs.AuthenticBody.{authentic_was_opened}
use Rattle.protocol.specs.System.Configuration.{Configuration, primary, members}
use Rattle.protocol.specs.System.Trace.{Entry, is_output, Once, Always}
use Rattle.protocol.specs.System.Trace.Entry.{Got, Sent}
use Rattle.protocol.specs.Replica.Certificates.{prepare_from, commit_from, vote_in, prepare_of, commit_of, Prepared}
use Rattle.protocol.specs.Replica.RightReplica.{Point, HistoryReaches}
use Rattle.protocol.specs.Replica.Owed.{IsSending, SendsMessage}
use Rattle.protocol.proofs.Words.Temporal.{once_weaker, once_stays}
use Rattle.protocol.proofs.Words.Options.{given_once}
use Rattle.protocol.proofs.Words.Linking.{Speaks}
use Rattle.protocol.proofs.Agreement.Voting.{RightAt, once_right, preparing, Brings, vote_brought, primary_votes_not, Logs, logs_stay, says_logged, prepare_is}
use Rattle.protocol.proofs.Agreement.Commits.{Commits as SentCommits, committing, commit_source, prepared_stays, says_prepared}
use Rattle.replica_histories.specs.Events.{Start, after_outputs}

-- received bytes are another's
pub heard_other : (c : Configuration) (me : ℕ) (bytes : List ℕ) (body : Body) → authentic (members c me) me bytes ≡ Some body → body.sender ≢ me
heard_other c me bytes body h = (authentic_was_opened (members c me) me bytes body h).other

-- so the replica sent its own messages in the history
own_said : (c : Configuration) (me : ℕ) (body : Body) → body.sender ≡ me → (past : List Entry) (e : Entry) → RightAt c me past e → Brings c body past e → Speaks body past e
own_said c me body own past (Got p bytes) r h = absurd (heard_other c p bytes body h (own ∙ sym r.own))
own_said c me body own past (Sent p bytes) r h = h
own_said c me body own past _ r h = absurd cc

pub own_spoken : (c : Configuration) (me : ℕ) (body : Body) (past : List Entry) (point : Point) → HistoryReaches c me past point → body.sender ≡ me → Once (Brings c body) past → Once (Speaks body) past
own_spoken c me body past point leaves own h =
    once_weaker (λ past e. RightAt c me past e × Brings c body past e × Always (RightAt c me) past) (Speaks body) (λ past e t. own_said c me body own past e t.0 t.1) past
    (once_right c me (Brings c body) past (point, leaves) h)

-- ---- prepares

prepare_source : (c : Configuration) (me s v i : ℕ) (d : List ℕ) (past : List Entry) (e : Entry) → vote_in c me past e (prepare_from c s v i) v i ≡ Some d → Brings c (preparing s v i d) past e
prepare_source c me s v i d past e h =
    let r = vote_brought c me v i d (prepare_from c s v i) past e h in
    r.1 ∙ ap Some (prepare_is c s v i d r.0.sender r.0.message r.2).0

pub prepare_spoken : (c : Configuration) (me v i : ℕ) (d : List ℕ) (past : List Entry) (point : Point) → HistoryReaches c me past point → prepare_of c me past v i me ≡ Some d → Once (Speaks (preparing me v i d)) past
unfolding prepare_of
prepare_spoken c me v i d past point leaves h =
    own_spoken c me (preparing me v i d) past point leaves refl
    (once_weaker (λ past e. vote_in c me past e (prepare_from c me v i) v i ≡ Some d) (Brings c (preparing me v i d)) (prepare_source c me me v i d) past
    (given_once (λ past e. vote_in c me past e (prepare_from c me v i) v i) d past h))

-- a batch that was prepared was logged then
pub spoken_logged : (c : Configuration) (me v i : ℕ) (d : List ℕ) (past : List Entry) (point : Point) → HistoryReaches c me past point → Once (Speaks (preparing me v i d)) past → Logs c me v i d past
spoken_logged c me v i d past point leaves h =
    once_stays (Logs c me v i d) (logs_stay c me v i d) past
    (once_weaker (λ past e. RightAt c me past e × Speaks (preparing me v i d) past e × Always (RightAt c me) past) (λ past e. Logs c me v i d past)
    (λ past e t. says_logged c me v i d past e t.0 t.1) past
    (once_right c me (Speaks (preparing me v i d)) past (point, leaves) h))

pub prepare_backup : (c : Configuration) (me v i : ℕ) (d : List ℕ) (past : List Entry) → prepare_of c me past v i me ≡ Some d → not (me == primary c v) ≡ true
prepare_backup c me v i d past h = primary_votes_not c me v i me d past h

-- ---- commits

-- a batch of the digest is prepared
pub record Certified (c : Configuration) (me v i : ℕ) (d : List ℕ) (past : List Entry) : Type 0 where
  pub batch : List ℕ
  pub prepared : Prepared c me past v i batch
  pub digest_is : sha256 batch ≡ d

certified_stays : (c : Configuration) (me v i : ℕ) (d : List ℕ) (e : Entry) (past : List Entry) → Certified c me v i d past → Certified c me v i d (e ∷ past)
certified_stays c me v i d e past h = record { batch = h.batch; prepared = prepared_stays c me v i h.batch e past h.prepared; digest_is = h.digest_is }

pub commit_spoken : (c : Configuration) (me v i : ℕ) (d : List ℕ) (past : List Entry) (point : Point) → HistoryReaches c me past point → commit_of c me past v i me ≡ Some d → Once (Speaks (committing me v i d)) past
unfolding commit_of
commit_spoken c me v i d past point leaves h =
    own_spoken c me (committing me v i d) past point leaves refl
    (once_weaker (λ past e. vote_in c me past e (commit_from me v i) v i ≡ Some d) (Brings c (committing me v i d)) (commit_source c me me v i d) past
    (given_once (λ past e. vote_in c me past e (commit_from me v i) v i) d past h))

pub spoken_certified : (c : Configuration) (me v i : ℕ) (d : List ℕ) (past : List Entry) (point : Point) → HistoryReaches c me past point → Once (Speaks (committing me v i d)) past → Certified c me v i d past
spoken_certified c me v i d past point leaves h =
    once_stays (Certified c me v i d) (certified_stays c me v i d) past
    (once_weaker (λ past e. RightAt c me past e × Speaks (committing me v i d) past e × Always (RightAt c me) past) (λ past e. Certified c me v i d past)
    (λ past e t. certified past e (says_prepared c me v i d past e t.0 t.1)) past
    (once_right c me (Speaks (committing me v i d)) past (point, leaves) h))
  where
    certified : (past : List Entry) (e : Entry) → SentCommits c me v i d past → Certified c me v i d past
    certified past e p = record { batch = p.batch; prepared = p.prepared; digest_is = p.digest_is }

-- ---- in the event, or before

pub says : (me : ℕ) (message : Message) (past : List Entry) (e : Entry) → Speaks (record { sender = me; message = message }) past e → IsSending me message e
says me message past (Sent p bytes) h = h
says me message past _ h = h

inputs_say_nothing : (me : ℕ) (message : Message) (e : Entry) → is_output e ≡ false → IsSending me message e → ⊥
inputs_say_nothing me message (Sent p bytes) o h = absurd cc
inputs_say_nothing me message _ o h = h

pub in_event : (me : ℕ) (message : Message) (s : Start) (outputs : List Entry) → is_output s.input ≡ false → Once (Speaks (record { sender = me; message = message })) (after_outputs s outputs)
    → SendsMessage me message outputs ⊎ Once (Speaks (record { sender = me; message = message })) s.before
in_event me message s [] is (inl h) = absurd (inputs_say_nothing me message s.input is (says me message s.before s.input h))
in_event me message s [] is (inr h) = inr h
in_event me message s (e ∷ outputs) is (inl h) = inl (inl (says me message (after_outputs s outputs) e h))
in_event me message s (e ∷ outputs) is (inr h) = go (in_event me message s outputs is h)
  where
    go : SendsMessage me message outputs ⊎ Once (Speaks (record { sender = me; message = message })) s.before → SendsMessage me message (e ∷ outputs) ⊎ Once (Speaks (record { sender = me; message = message })) s.before
    go (inl k) = inl (inr k)
    go (inr k) = inr k
