-- Which entries change no view-change data, and which view changes are signed.
use Rattle.std.proofs.Common.{◌≡◌, ◌≢◌, ℕ, ◌≤◌, ◌<◌, Bool, true, false, ◌&&◌, List, ◌∷◌, Option, Some, None, refl, sym, ap, ◌∙◌, subst, arith, eqb-true}
use Rattle.std.specs.Prelude.{◌==◌, option_and_then, ⊤}
use Rattle.std.specs.Bool.{then_some}
use Rattle.std.specs.Option.{option_map_or}
use Rattle.std.proofs.lemmas.Bool.{and_parts, ne_eqb, le-ltb, lt-ltb}
use Rattle.wire_format.specs.Messages.{BodyData as Body, MessageData as Message, AuthenticatorData as Authenticator, macs, signature, NewViewData, ViewChangeData, commit as Commit, checkpoint as Checkpoint, view_change as ViewChange, new_view as NewView}
use Rattle.wire_format.specs.Spelling.{authenticator_is_signed, is_signed}
use Rattle.wire_format.specs.Words.{said}
use Rattle.wire_format.proofs.Saying.{reads_frames, says_what_is_spelled}
use Rattle.signing.specs.AuthenticBody.{authentic, has_signature, signed_body}
use Rattle.signing.proofs.AuthenticBody.{authentic_was_signed, signed_is_authentic}
use Rattle.ordering.specs.Log as logs
use Rattle.protocol.specs.System.Configuration.{Configuration, replicas, primary, members, signers}
use Rattle.protocol.specs.System.Frames.{IsSealed}
use Rattle.protocol.specs.System.Trace.{Entry}
use Rattle.protocol.specs.System.Trace.Entry.{Got, Tick, Executed, Installed, Sent}
use Rattle.protocol.specs.Replica.Selection.{may_select, change_in, signed_change}
use Rattle.protocol.specs.Replica.Certificates.{brought, checkpoint_from, view, target, taken, is_later, new_view_from, change_sent, change_from, is_active_in, low, is_in_marks, proposal, logged, commit_from, commit_of, change_taken, latest_change}
use Rattle.protocol.proofs.Words.Options.{some_injective, or_else_second, and_then_some}
use Rattle.protocol.proofs.Words.Plain.{IsPlain, Plain, heard_plain, plain_low}
use Rattle.protocol.proofs.Agreement.Executing.{commit_stays}
use Rattle.protocol.proofs.Agreement.Commits.{commit_source}
use Rattle.protocol.proofs.Agreement.Offers.{entry_batch}
use Rattle.view_change.proofs.Opening.{spelled_tells, is_change, signed_is}
use Rattle.replica_histories.specs.Changes.{KeepsViews, KeepsChanges, IsNoNews, CheckpointsAreNoted, IsNoBatch, IsNoChange, SentKeep, SilentKeep, GotKeep, ReceivedKeep, OthersBringNone, ReceivedAreSigned, OwnAreSigned}
use Rattle.replica_histories.proofs.Words.{given_not, marks_are}
use Rattle.replica_histories.proofs.Certified.{active_view}
use Rattle.replica_histories.proofs.Logging.{none_taken, proposal_quiet}
use Rattle.replica_histories.proofs.Speaking.{heard_other}
use Rattle.replica_histories.proofs.NumbersKept.{proposal_said, logged_same}
use Rattle.replica_histories.proofs.Received.{sent_bring_none, unsigned_bring_none, taken_is}
use Rattle.protocol.specs.System.Frames.{leaf_of}
use Rattle.protocol.specs.Replica.RightReplica.{SendsBytes, SentBefore}
use Rattle.replica_histories.proofs.ChangesPassing.{commit_quiet, changes_noted}
use Rattle.replica_histories.proofs.OwnCheckpoints.{IsNoLater, none_later, got_later, sent_later}
use Rattle.replica_histories.proofs.Leaves.{unsigned_sends_none}

-- ---- messages that are sent again

-- a checkpoint needs no condition
abbrev pub IsNoViewNews : Configuration → ℕ → List Entry → Message → Type 0
IsNoViewNews c me past (Checkpoint k root) = ⊤
IsNoViewNews c me past message = IsNoNews c me past message

pub sent_views : (c : Configuration) (me : ℕ) (past : List Entry) (message : Message) (bytes : List ℕ) → said bytes ≡ Some (record { sender = me; message = message }) → IsNoViewNews c me past message
    → (is_signed message ≡ true → SentBefore bytes past) → KeepsViews c me past (Sent me bytes)
sent_views c me past message bytes says news again = record { none = none; target = same_target; logged = same_logged; commits = same_commits; changes = λ s other. sent_bring_none c me s bytes past; leaves = leaves }
  where
    e : Entry
    e = Sent me bytes

    leaves : (sent : List ℕ) (leaf : ℕ) → leaf_of sent ≡ Some leaf → SendsBytes sent past e → SentBefore sent past
    leaves sent leaf is now = go (is_signed message) refl
      where
        go : (b : Bool) → is_signed message ≡ b → SentBefore sent past
        go true signed = subst (λ (x : List ℕ). SentBefore x past) now (again signed)
        go false unsigned = unsigned_sends_none c past e (record { sender = me; message = message }) says unsigned sent leaf is now

    no_view : (m : Message) → IsNoViewNews c me past m
        → option_and_then (λ (new : NewViewData). then_some (is_later (view c past) (target past) new) new) (new_view_from c (record { sender = me; message = m })) ≡ None
    no_view (NewView new) h = at ((me == primary c new.view) && may_select c new) (rw (le-ltb (view c past) new.view h) refl)
      where
        at : (b : Bool) → is_later (view c past) (target past) new ≡ false → option_and_then (λ (x : NewViewData). then_some (is_later (view c past) (target past) x) x) (then_some b new) ≡ None
        at true later = rw later refl
        at false later = refl
    no_view _ h = refl

    none : taken c past e ≡ None
    none = ap (λ (o : Option Body). option_and_then (λ (new : NewViewData). then_some (is_later (view c past) (target past) new) new) (option_and_then (new_view_from c) o)) says ∙ no_view message news

    no_later : (m : Message) → IsNoViewNews c me past m → change_from (record { sender = me; message = m }) ≤ target past
    no_later (ViewChange vc) h = h
    no_later _ h = omega arith

    same_target : target (e ∷ past) ≡ target past
    same_target =
        let most = no_later message news in
        let is : change_sent e ≡ change_from (record { sender = me; message = message }) = ap (λ (o : Option Body). option_map_or change_from o 0) says in
        omega arith

    news_of : (other : Message) (sender : ℕ) → said bytes ≡ Some (record { sender = sender; message = other }) → IsNoViewNews c me past other
    news_of other sender h =
        let same : ◌≡◌ {A = Body} (record { sender = me; message = message }) (record { sender = sender; message = other }) = some_injective _ _ (sym says ∙ h) in
        subst (IsNoViewNews c me past) (ap (λ (b : Body). b.message) same) news

    same_logged : (v i : ℕ) → logged c me (e ∷ past) v i ≡ logged c me past v i
    same_logged v i = logged_same c me v i past e
        (λ batch h free.
        let s = proposal_said c me v i batch past e none h in
        let there : (text : List ℕ) × (logged c me past v i ≡ Some text) = subst (IsNoViewNews c me past) s.2 (news_of s.0.message s.0.sender s.1) in
        given_not (logged c me past v i) there.0 there.1 free)

    same_commits : (v i : ℕ) → commit_of c me (e ∷ past) v i me ≡ commit_of c me past v i me
    same_commits v i = go (option_and_then (commit_from me v i) (said bytes)) refl
      where
        go : (o : Option (List ℕ)) → option_and_then (commit_from me v i) (said bytes) ≡ o → commit_of c me (e ∷ past) v i me ≡ commit_of c me past v i me
        go None h = commit_quiet c me past e v i h
        go (Some d) h =
            let there : (other : List ℕ) × (commit_of c me past v i me ≡ Some other) = news_of (Commit v i d) me (commit_source c me me v i d past e h) in
            commit_stays c me v i me there.0 e past there.1 ∙ sym there.1

no_view_news : (c : Configuration) (me : ℕ) (past : List Entry) (message : Message) → IsNoNews c me past message → IsNoViewNews c me past message
no_view_news c me past (Checkpoint k root) news = tt
no_view_news c me past _ news = news

no_later_checkpoint : (c : Configuration) (me : ℕ) (past : List Entry) (message : Message) → IsNoNews c me past message → IsNoLater c me past message
no_later_checkpoint c me past message news k root is = subst (IsNoNews c me past) is news

pub sent_keep : SentKeep
sent_keep c me past message bytes says news again = record {
  views = sent_views c me past message bytes says (no_view_news c me past message news) again;
  checkpoint = sent_later c me past bytes message says (no_later_checkpoint c me past message news);
}

-- the replica's own checkpoint that is new
pub checkpoints_are_noted : CheckpointsAreNoted
checkpoints_are_noted c me past log after x pq_sets entry bytes p same says latest cuts f =
    changes_noted c me past (Sent me bytes) log after x pq_sets (Some entry) p same
    (sent_views c me past (Checkpoint entry.number entry.digest) bytes says tt (λ signed. absurd cc)) latest cuts f

-- ---- entries that change nothing

nothing_keeps : (c : Configuration) (me : ℕ) (past : List Entry) (e : Entry) → brought c e ≡ None → change_sent e ≡ 0 → ((s : ℕ) → latest_change c (e ∷ past) s ≡ latest_change c past s) → ((sent : List ℕ) → SendsBytes sent past e → ⊥) → KeepsChanges c me past e
nothing_keeps c me past e nothing still changes sends = record {
  views = record {
    none = none;
    target = omega arith;
    logged = λ v i. logged_same c me v i past e (λ batch h free. let s = proposal_said c me v i batch past e none h in given_not (brought c e) s.0 s.1 nothing);
    commits = λ v i. commit_quiet c me past e v i (ap (option_and_then (commit_from me v i)) nothing);
    changes = λ s other. changes s;
    leaves = λ sent leaf is now. absurd (sends sent now);
  };
  checkpoint = none_later c me past e (ap (option_and_then checkpoint_from) nothing);
}
  where
    none : taken c past e ≡ None
    none = none_taken c past e (ap (option_and_then (new_view_from c)) nothing)

pub silent_keep : SilentKeep
silent_keep c me past (Executed p k batch) h = nothing_keeps c me past (Executed p k batch) refl refl (λ s. omega arith) (λ sent now. now)
silent_keep c me past (Installed p k root) h = nothing_keeps c me past (Installed p k root) refl refl (λ s. omega arith) (λ sent now. now)
silent_keep c me past (Tick p) h = nothing_keeps c me past (Tick p) refl refl (λ s. omega arith) (λ sent now. now)
silent_keep c me past _ h = absurd h

-- ---- received bytes

-- the batch that a free number gets
logged_new : (c : Configuration) (me v i : ℕ) (batch : List ℕ) (past : List Entry) (e : Entry) → logged c me past v i ≡ None → proposal c me past e v i ≡ Some batch → logged c me (e ∷ past) v i ≡ Some batch
unfolding logged
logged_new c me v i batch past e free h = or_else_second (logged c me past v i) (proposal c me past e v i) free ∙ h

-- received bytes are no commit of the replica's own
not_own : (me v i sender : ℕ) (message : Message) → sender ≢ me → commit_from me v i (record { sender = sender; message = message }) ≡ None
not_own me v i sender (Commit w j digest) other = rw (ne_eqb sender me other) refl
not_own me v i sender _ other = refl

no_own : (c : Configuration) (me v i : ℕ) (bytes : List ℕ) (o : Option Body) → authentic (members c me) me bytes ≡ o → option_and_then (commit_from me v i) o ≡ None
no_own c me v i bytes None h = refl
no_own c me v i bytes (Some body) h = not_own me v i body.sender body.message (heard_other c me bytes body h)

pub got_keep : GotKeep
got_keep c me past bytes log after p same none batches changes = record {
  views = record {
    none = none;
    target = omega arith;
    logged = λ v i. logged_same c me v i past e (λ batch h free. fresh v i batch h free);
    commits = λ v i. commit_quiet c me past e v i (no_own c me v i bytes (authentic (members c me) me bytes) refl);
    changes = changes;
    leaves = λ sent leaf is now. absurd now;
  };
  checkpoint = got_later c me past bytes;
}
  where
    e : Entry
    e = Got me bytes

    fresh : (v i : ℕ) (batch : List ℕ) → proposal c me past e v i ≡ Some batch → logged c me past v i ≡ None → ⊥
    fresh v i batch h free =
        let s = proposal_said c me v i batch past e none h in
        let t = (entry_batch c me v i batch past e (sym (proposal_quiet c me past e v i none) ∙ h)).0 in
        let a = and_parts (is_active_in c past v) (is_in_marks c (low c me past) i) t in
        let at : v ≡ log.view = active_view c me log past v p.fits a.0 in
        let inside : logs.is_in_marks log i ≡ true = sym (marks_are c me log past i p.fits) ∙ a.1 in
        let plain : Plain c past e = heard_plain c past me bytes s.0 s.1 (subst IsPlain (sym s.2) tt) in
        let behind : logs.is_in_marks after i ≡ true =
        sym (marks_are c me after (e ∷ past) i p.fits_behind) ∙ ap (λ (x : ℕ). is_in_marks c x i) (plain_low c me past e plain) ∙ a.1 in
        let stays : logged c me (e ∷ past) log.view i ≡ logged c me past log.view i =
        ap (λ (w : ℕ). logged c me (e ∷ past) w i) (sym same.view) ∙ p.fits_behind.batches i behind ∙ batches i inside ∙ sym (p.fits.batches i inside) in
        given_not (logged c me (e ∷ past) v i) batch (logged_new c me v i batch past e free h)
        (ap (λ (w : ℕ). logged c me (e ∷ past) w i) at ∙ stays ∙ ap (λ (w : ℕ). logged c me past w i) (sym at) ∙ free)

pub received_keep : ReceivedKeep
received_keep c me past bytes none no_batch changes = record {
  views = record {
    none = none;
    target = omega arith;
    logged = λ v i. logged_same c me v i past (Got me bytes)
        (λ batch h free.
        let s = proposal_said c me v i batch past (Got me bytes) none h in
        subst (λ (m : Message). IsNoBatch (Some (record { sender = s.0.sender; message = m }))) s.2 (subst IsNoBatch s.1 no_batch));
    commits = λ v i. commit_quiet c me past (Got me bytes) v i (no_own c me v i bytes (authentic (members c me) me bytes) refl);
    changes = changes;
    leaves = λ sent leaf is now. absurd now;
  };
  checkpoint = got_later c me past bytes;
}

-- ---- view changes

change_is : (sender : ℕ) (message : Message) (x : ℕ × ViewChangeData) → change_in (record { sender = sender; message = message }) ≡ Some x → (sender ≡ x.0) × (message ≡ ViewChange x.1)
change_is sender (ViewChange vc) x h =
    let same : ◌≡◌ {A = ℕ × ViewChangeData} (sender, vc) x = some_injective {A = ℕ × ViewChangeData} (sender, vc) x h in
    (ap (λ (y : ℕ × ViewChangeData). y.0) same, ap (λ (y : ℕ × ViewChangeData). ViewChange y.1) same)
change_is sender _ x h = absurd cc

-- the replica's own keys don't matter for signed frames
signed_alike : (c : Configuration) (me : ℕ) (bytes : List ℕ) → signed_body (members c me) bytes ≡ signed_body (signers c) bytes
unfolding signed_body
signed_alike c me bytes = refl

pub others_bring_none : OthersBringNone
others_bring_none c me s past bytes silent other = go (signed_change c bytes) refl
  where
    none : (x : ℕ × ViewChangeData) → signed_change c bytes ≡ Some x → (b : Bool) → (x.0 == s) ≡ b → latest_change c (Got me bytes ∷ past) s ≡ latest_change c past s
    none x is true e =
        let b = and_then_some change_in (signed_body (signers c) bytes) x is in
        let k = change_is b.0.sender b.0.message x b.2 in
        let receives : authentic (members c me) me bytes ≡ Some b.0 = signed_is_authentic (members c me) me bytes b.0 (signed_alike c me bytes ∙ b.1) (λ own. other (sym (eqb-true x.0 s e) ∙ sym k.0 ∙ own)) in
        absurd (subst (λ (m : Message). IsNoChange (Some (record { sender = b.0.sender; message = m }))) k.1 (subst IsNoChange receives silent))
    none x is false e =
        let nothing : change_taken c (view c past) s bytes ≡ 0 = taken_is c (view c past) s bytes x is ∙ rw e refl in
        omega arith

    go : (o : Option (ℕ × ViewChangeData)) → signed_change c bytes ≡ o → latest_change c (Got me bytes ∷ past) s ≡ latest_change c past s
    go None is = unsigned_bring_none c me s bytes past is
    go (Some x) is = none x is (x.0 == s) refl

pub received_are_signed : ReceivedAreSigned
received_are_signed c me s vc bytes h = (signed, heard_other c me bytes (record { sender = s; message = ViewChange vc }) h, (signed_is c bytes (s, vc) signed).known)
  where
    signed : signed_change c bytes ≡ Some (s, vc)
    signed = ap (option_and_then change_in) (sym (signed_alike c me bytes) ∙ authentic_was_signed (members c me) me bytes (record { sender = s; message = ViewChange vc }) h refl)

-- a frame that is sealed as it has to be, and signed, has its sender's signature
sealed_signed : (c : Configuration) (body : Body) (a : Authenticator) → authenticator_is_signed a ≡ true → IsSealed c (record { body = body; authenticator = a }) → has_signature c.publics (record { body = body; authenticator = a }) ≡ true
sealed_signed c body (macs entries) h well = absurd cc
sealed_signed c body (signature s) h well = well

pub own_are_signed : OwnAreSigned
own_are_signed c me vc bytes known is_outgoing =
    let s = (says_what_is_spelled bytes (record { sender = me; message = ViewChange vc })).0 is_outgoing.says in
    let sender : s.0.body.sender ≡ me = ap (λ (b : Body). b.sender) s.2 in
    let message : s.0.body.message ≡ ViewChange vc = ap (λ (b : Body). b.message) s.2 in
    let kind : authenticator_is_signed s.0.authenticator ≡ true = s.1.valid.proved ∙ ap is_signed message in
    let well = (is_outgoing.is_sealed s.0 ((reads_frames bytes s.0).1 s.1)).0 in
    spelled_tells c bytes s.0 s.1
    ∙ is_change c s.0 vc (lt-ltb s.0.body.sender (replicas c) (subst (λ (n : ℕ). n < replicas c) (sym sender) known)) (sealed_signed c s.0.body s.0.authenticator kind well) message
    ∙ ap (λ (n : ℕ). Some (let x : ℕ × ViewChangeData = (n, vc) in x)) sender
