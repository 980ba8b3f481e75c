-- The definitions refuse what wrong bodies would do.
use Rattle.std.specs.List.{list_all, range_with_len}
use Rattle.std.proofs.Common.{drop, ◌≢◌, ◌^◌, ◌≡◌, ℕ, suc, not, filter, ◌+◌, ◌-◌, ◌*◌, ◌≤◌, ◌<◌, ◌⊎◌, inl, inr, Bool, true, false, cond, List, [], bytes_eq, None, ◌∷◌, ◌++◌, length, slice_get, refl, sym, ap, ◌∙◌, subst, arith, ◌&&◌, ◌||◌, Option, Some, eqb-true, eq-eqb}
use Rattle.std.specs.Prelude.{◌==◌, nat_le, nat_lt, is_some, ⊤, All}
use Rattle.std.proofs.lemmas.Bool.{and_parts, or_cases, leb-true, ltb-true}
use Rattle.std.proofs.lemmas.Slice.Eq.{bytes_eq-Decides}
use Rattle.tuple_codec.specs.Operations.{Outcome}
use Rattle.tuple_codec.specs.Spelling.{outcome_spelling}
use Rattle.sha2.specs.Sha256.{sha256}
use Rattle.quorum.specs.Quorum.{count_below}
use Rattle.protocol.specs.System.Configuration.{Configuration, replicas, span, is_number, members}
use Rattle.terms.specs.declared.order.Mode.{Mode}
use Rattle.terms.specs.declared.order.Mode.TheVariants as modes
use Rattle.wire_format.specs.Messages.{fetch as Fetch, BodyData as Body, FrameData as Frame, AuthenticatorData as Authenticator, MacData, macs, signature, ViewChangeData, NewViewData, BatchEntryData as BatchEntry, pre_prepare as PrePrepare, prepare as Prepare, commit as Commit, checkpoint as Checkpoint, view_change as ViewChange, new_view as NewView, reply as Reply, meta as Meta, page as Page}
use Rattle.authenticator.specs.Authentic.{mac_of}
use Rattle.signing.specs.AuthenticBody.{authentic}
use Rattle.protocol.specs.System.Trace.{Entry, Once, Always, Has, AreOutputs, Receives}
use Rattle.protocol.specs.System.Trace.Entry.{Invoke, Got, Tick, Executed, Installed, Sent, Accepted}
use Rattle.protocol.specs.Replica.Selection.{is_quorum, is_weak_quorum, passes_by, count_in, vouches, agrees, may_stand_at, may_be_null, null_batch, is_null, is_within, changes_of, how_many_batches}
use Rattle.protocol.specs.Replica.Certificates.{target, view, is_active_in, is_later, new_view_in, logged, low}
use Rattle.reply_cache.specs.Replies.{Kept}
use Rattle.protocol.specs.Replica.State.{State, Ran, opening, kept_of, page_text}
use Rattle.protocol.specs.Replica.RightReplica.{MayNewView, IsRootWanted, MayFetch, MayMeta, MayPage, kept_states, digests_at, IsAddressed, Point, HistoryReaches, SafeReplica, May, MovesPoint, MaySend, MayCheckpoint, MayPrepare, MayCommit, MayPrePrepare, MayReply, MayReplyRead, MayViewChange, SendsBytes, SentInEvent, reply_of, GetsPage}
use Rattle.protocol.specs.Client.RightClient.{Vote, latest, is_alike, count_alike}
use Rattle.evidence.specs.Refused.{SealsWell, SignsWell, SignsOnceByLeaf, SendsNoFrameTwice, PrePreparesAsPrimary, PrePreparesInMarks, NoPrePrepareAfterChange, CheckpointsMultiples, BeginsAsPrimary, ReadsWhatWasAsked, DigestsToWhoAsked, PagesToWhoAsked, IsReplyOf, ExecutesWhatIsCommitted, SendsKeptDigests, SendsKeptPages, SendsAskedDigests, SendsAskedPages, RepliesWhatRan, DropsUnaskedDigests, DropsUnaskedPages, ProposesAuthentic, ReadsNewest, NoChangeWhileActive, DropsReplies, DropsOwnFrames, FetchesWhatIsWanted, FetchesAbove, RepliesToItsClient, CommitsToAll, NoExecution, newest_number, SoManyHave, HasFrom, SaysNothingAgainst, SaysForIt, SaysNothing, RepliesAfterExecution, NoCommitAfterChange, NoPrepareAfterChange, NoEarlyCheckpoint, OnePrePrepare, NoPrepareByPrimary, ExecutesNext, KeepsPrepared, InstallsWhatItHas, InstallsWithHeader, TakesWellSelected, TakesNoLower, AcceptsAtQuorum}
use Rattle.wire_format.specs.Words.{requests_of, frame_of, said}
use Rattle.protocol.specs.Replica.Owed.{IsSending, Owes, Counts, IsReplica}
use Rattle.protocol.proofs.Words.Temporal.{once_weaker, once_stays_from}
use Rattle.protocol.proofs.Words.Options.{and_then_some, then_some_gives, some_injective}
use Rattle.protocol.proofs.Agreement.Voting.{right_always, logged_stays}
use Rattle.protocol.proofs.Agreement.Marks.{Selects, selects, selected_in, takes}
use Rattle.protocol.proofs.Words.Lists.{passes_change, change_there, largest_of-has, stands_at, some_below}
use Rattle.protocol.proofs.Points.Reading.{latest_received, own_entries}
use Rattle.protocol.proofs.Agreement.Changes.{change_target, target_grows}
use Rattle.protocol.proofs.Agreement.Offers.{offer_in, offers_kept, marks_above}
use Rattle.signing.proofs.AuthenticBody.{authentic_was_opened}
use Rattle.protocol.proofs.Words.Linking.{heard_said, Speaks}
use Rattle.protocol.proofs.Words.Leaving.{none_kept, executed_number}
use Rattle.protocol.proofs.Words.Paging.{header_at}
use Rattle.space.specs.Pages.{header_text}
use Rattle.space.specs.Births.{SpaceState}
use Rattle.space.proofs.Determining.{number_split}
use Rattle.std.specs.Int.{w64, to_be_bytes}
use Rattle.protocol.specs.Replica.RightReplica.{IsInstalled}
use Rattle.protocol.proofs.Words.Taking.{is_own_or_got}
use Rattle.std.specs.Bool.{then_some}
use Rattle.protocol.proofs.Words.Elements.{has_of_any, every_has, has_some}
use Rattle.protocol.proofs.Words.Outgoing.{leaf_by}
use Rattle.protocol.specs.System.Frames.{leaf_in}
use Rattle.evidence.proofs.JoiningChanges.{IsSealedBy}
use Rattle.evidence.proofs.Knowing.{body_of_frame}
use Rattle.evidence.proofs.RefusingRuns.{in_range, says_may}

-- ---- before anything is executed

record Untouched (point : Point) : Type 0 where
  state : point.state ≡ opening
  ran : point.ran ≡ []

untouched : (c : Configuration) (me : ℕ) (xs : List Entry) (point : Point) → HistoryReaches c me xs point → Always NoExecution xs → Untouched point
untouched c me [] point h a = record { state = ap (λ (p : Point). p.state) h; ran = ap (λ (p : Point). p.ran) h }
untouched c me (e ∷ past) point h a = go e h.2.may h.2.moves a.0 (untouched c me past h.0 h.1 a.1)
  where
    go : (e : Entry) → May c me past h.0 e → MovesPoint c me past h.0 e point → NoExecution past e → Untouched h.0 → Untouched point
    go (Got p bytes) may move n was = record { state = ap (λ (q : Point). q.state) move ∙ was.state; ran = ap (λ (q : Point). q.ran) move }
    go (Tick p) may move n was = record { state = ap (λ (q : Point). q.state) move ∙ was.state; ran = ap (λ (q : Point). q.ran) move }
    go (Sent p bytes) may move n was = record { state = ap (λ (q : Point). q.state) move ∙ was.state; ran = ap (λ (q : Point). q.ran) move ∙ was.ran }
    go (Invoke x y z) may move n was = absurd may
    go (Accepted x y z) may move n was = absurd may
    go (Executed x y z) may move n was = absurd n
    go (Installed x y z) may move n was = absurd n

pub replies_after_execution : RepliesAfterExecution
replies_after_execution c me client timestamp number answer bytes past says none right =
    go (says_may c me bytes (record { sender = me; message = Reply client timestamp modes.Ordered number answer }) past right says)
  where
    u : Untouched right.1.0
    u = untouched c me past right.1.0 right.1.1 none

    go : MayReply c me past right.1.0 client timestamp modes.Ordered number answer → ⊥
    go (inl h) = subst (λ (rans : List Ran). Has (λ (ran : Ran). reply_of ran.call.client ran.kept ≡ Reply client timestamp modes.Ordered number answer) rans) u.ran h
    go (inr h) = absurd (let none : None ≡ Some h.1 = sym (none_kept h.0) ∙ subst (λ (st : State). kept_of st h.0 ≡ Some h.1) u.state h.2 in cc)

-- ---- after a view change

pub above_target : (me : ℕ) (vc : ViewChangeData) (past : List Entry) → Once (λ earlier. IsSending me (ViewChange vc)) past → vc.view ≤ target past
above_target me vc past h =
    once_stays_from (λ x. vc.view ≤ target x) (λ e x k. let grows = target_grows e x in omega arith) past
    (once_weaker (λ earlier. IsSending me (ViewChange vc)) (λ x e. vc.view ≤ target (e ∷ x)) (λ x e t. change_target me vc x e (speaks x e t)) past h)
  where
    speaks : (x : List Entry) (e : Entry) → IsSending me (ViewChange vc) e → Speaks (record { sender = me; message = ViewChange vc }) x e
    speaks x (Sent p bytes) t = t
    speaks x _ t = absurd t

inactive : (c : Configuration) (me v : ℕ) (vc : ViewChangeData) (past : List Entry) → Once (λ earlier. IsSending me (ViewChange vc)) past → v < vc.view → is_active_in c past v ≡ true → ⊥
inactive c me v vc past h above active =
    let a = above_target me vc past h in
    let b : target past ≤ v = leb-true (target past) v (and_parts (view c past == v) (nat_le (target past) v) active).1 in
    omega arith

pub no_commit_after_change : NoCommitAfterChange
no_commit_after_change c me v i digest bytes vc past says changed above right =
    let m : MayCommit c me past v i digest = says_may c me bytes (record { sender = me; message = Commit v i digest }) past right says in
    inactive c me v vc past changed above m.active

pub no_prepare_after_change : NoPrepareAfterChange
no_prepare_after_change c me v i digest bytes vc past says changed above right =
    let m : MayPrepare c me past v i digest = says_may c me bytes (record { sender = me; message = Prepare v i digest }) past right says in
    inactive c me v vc past changed above m.active

-- ---- checkpoints, pre-prepares, prepares, executions

pub no_early_checkpoint : NoEarlyCheckpoint
no_early_checkpoint c me k root bytes past says never right =
    let m : MayCheckpoint c past right.1.0 k root = says_may c me bytes (record { sender = me; message = Checkpoint k root }) past right says in
    never m.executed

pub one_pre_prepare : OnePrePrepare
one_pre_prepare c me v i a b bytes past says earlier right =
    let m : MayPrePrepare c me past right.1.0 (Sent me bytes) v i b = says_may c me bytes (record { sender = me; message = PrePrepare v i b }) past right says in
    let kept = offers_kept c me v i a past (right_always c me past right.1.0 right.1.1)
    (once_weaker (λ earlier. IsSending me (PrePrepare v i a)) (λ x e. offer_in v i e ≡ Some a) offers past earlier) in
    go m kept.place
  where
    offers : (x : List Entry) (e : Entry) → IsSending me (PrePrepare v i a) e → offer_in v i e ≡ Some a
    offers x (Sent p sent) t = rw t (rw (eq-eqb v v refl, eq-eqb i i refl) refl)
    offers x _ t = absurd t

    go : MayPrePrepare c me past right.1.0 (Sent me bytes) v i b → (logged c me past v i ≡ Some a) ⊎ (i ≤ low c me past) → a ≡ b
    go m (inl l) = some_injective a b (sym (logged_stays c me v i a (Sent me bytes) past l) ∙ m.one)
    go m (inr l) = let above = marks_above c (low c me past) i m.in_marks in absurd (omega arith)

pub no_prepare_by_primary : NoPrepareByPrimary
no_prepare_by_primary c me v i digest bytes past says is right =
    let m : MayPrepare c me past v i digest = says_may c me bytes (record { sender = me; message = Prepare v i digest }) past right says in
    m.is_backup is

-- the state has the newest number
pub newest_state : (c : Configuration) (me : ℕ) (xs : List Entry) (point : Point) → HistoryReaches c me xs point → point.state.number ≡ newest_number xs
newest_state c me [] point h = ap (λ (p : Point). p.state.number) h
newest_state c me (e ∷ past) point h = go e h.2.may h.2.moves (newest_state c me past h.0 h.1)
  where
    go : (e : Entry) → May c me past h.0 e → MovesPoint c me past h.0 e point → h.0.state.number ≡ newest_number past → point.state.number ≡ newest_number (e ∷ past)
    go (Invoke x y z) may move was = absurd may
    go (Accepted x y z) may move was = absurd may
    go (Executed p k batch) may move was = ap (λ (q : Point). q.state.number) move ∙ executed_number c h.0.state batch ∙ sym may.next
    go (Installed p k root) may move was = move.number
    go _ may move was = ap (λ (q : Point). q.state.number) move ∙ was

pub executes_next : ExecutesNext
executes_next c me k batch past right = right.1.2.may.next ∙ ap suc (newest_state c me past right.1.0 right.1.1)

pub executes_what_is_committed : ExecutesWhatIsCommitted
executes_what_is_committed c me k batch past none right = none right.1.2.may.in_view right.1.2.may.committed

pub keeps_prepared : KeepsPrepared
keeps_prepared c me v i batch bytes vc past says new right prepared marks =
    go (says_may c me bytes (record { sender = me; message = ViewChange vc }) past right says)
  where
    go : MayViewChange c me past right.1.0 bytes vc → Has (λ (batch_entry : BatchEntry). batch_entry.number ≡ i) vc.prepared
    go (inl change) = change.prepared.all v i batch marks prepared
    go (inr again) = absurd (new again.2)

pub installs_what_it_has : InstallsWhatItHas
installs_what_it_has c me k root past lacks right = go lack (is_own_or_got c me k lack.0 past right.1.0.state (page_text new lack.0) (installed.pages lack.0 lack.1))
  where
    new : State
    new = right.0.state

    installed : IsInstalled c me past right.1.0 k root right.0
    installed = right.1.2.moves

    lack : (i : ℕ) × (i < 1024) × (page_text new i ≢ page_text right.1.0.state i) × (Once (GetsPage c me i (page_text new i)) past → ⊥)
    lack = lacks right.1.0 right.1.1 new installed.number installed.root_is

    go : (x : (i : ℕ) × (i < 1024) × (page_text new i ≢ page_text right.1.0.state i) × (Once (GetsPage c me i (page_text new i)) past → ⊥)) → (page_text new x.0 ≡ page_text right.1.0.state x.0) ⊎ Once (GetsPage c me x.0 (page_text new x.0)) past → ⊥
    go x (inl same) = x.2 same
    go x (inr got) = x.3 got

pub installs_with_header : InstallsWithHeader
installs_with_header c me k root past right = go (is_own_or_got c me k 512 past old (page_text new 512) (installed.pages 512 (omega arith)))
  where
    old : State
    old = right.1.0.state

    new : State
    new = right.0.state

    installed : IsInstalled c me past right.1.0 k root right.0
    installed = right.1.2.moves

    go : (page_text new 512 ≡ page_text old 512) ⊎ Once (GetsPage c me 512 (page_text new 512)) past → (space : SpaceState) × Once (GetsPage c me 512 (header_text space k)) past
    go (inl same) =
        let above : old.number < k = right.1.2.may.0 in
        let few : new.number < 2 ^ 48 = installed.is_state.space.few in
        let is = installed.number in
        let heads : header_text new.space new.number ≡ header_text old.space old.number = sym (header_at new) ∙ same ∙ header_at old in
        let one = number_split new.number old.number (to_be_bytes w64 new.space.next) (to_be_bytes w64 old.space.next) (omega arith) (omega arith) (ap (drop 1) heads) in
        absurd (let e = one.0 in omega arith)
    go (inr got) = (new.space, subst (λ (text : List ℕ). Once (GetsPage c me 512 text) past) (header_at new ∙ ap (header_text new.space) installed.number) got)

pub proposes_authentic : ProposesAuthentic
proposes_authentic c me v i batch bytes request past says right has =
    let m : MayPrePrepare c me past right.1.0 (Sent me bytes) v i batch = says_may c me bytes (record { sender = me; message = PrePrepare v i batch }) past right says in
    there (authentic (members c me) me request) (every_has (λ (x : List ℕ). is_some (authentic (members c me) me x)) (requests_of batch) request m.genuine has)
  where
    there : (o : Option Body) → is_some o ≡ true → (body : Body) × (o ≡ Some body)
    there None h = absurd cc
    there (Some body) h = (body, refl)

pub pre_prepares_as_primary : PrePreparesAsPrimary
pre_prepares_as_primary c me v i batch bytes past says right =
    let m : MayPrePrepare c me past right.1.0 (Sent me bytes) v i batch = says_may c me bytes (record { sender = me; message = PrePrepare v i batch }) past right says in
    m.is_primary

pub pre_prepares_in_marks : PrePreparesInMarks
pre_prepares_in_marks c me v i batch bytes past says right =
    let m : MayPrePrepare c me past right.1.0 (Sent me bytes) v i batch = says_may c me bytes (record { sender = me; message = PrePrepare v i batch }) past right says in
    let p = and_parts (nat_lt (low c me past) i && nat_le i (low c me past + span c)) (is_number i) m.in_marks in
    let q = and_parts (nat_lt (low c me past) i) (nat_le i (low c me past + span c)) p.0 in
    (ltb-true (low c me past) i q.0, leb-true i (low c me past + span c) q.1, ltb-true i (2 ^ 48) p.1)

pub no_pre_prepare_after_change : NoPrePrepareAfterChange
no_pre_prepare_after_change c me v i batch bytes vc past says changed above right =
    let m : MayPrePrepare c me past right.1.0 (Sent me bytes) v i batch = says_may c me bytes (record { sender = me; message = PrePrepare v i batch }) past right says in
    inactive c me v vc past changed above m.active

pub checkpoints_multiples : CheckpointsMultiples
checkpoints_multiples c me k root bytes past says right =
    let m : MayCheckpoint c past right.1.0 k root = says_may c me bytes (record { sender = me; message = Checkpoint k root }) past right says in
    m.multiple

pub begins_as_primary : BeginsAsPrimary
begins_as_primary c me new bytes past says right =
    let m : MayNewView c me past (Sent me bytes) bytes new = says_may c me bytes (record { sender = me; message = NewView new }) past right says in
    m.0

pub reads_what_was_asked : ReadsWhatWasAsked
reads_what_was_asked c me client timestamp number answer bytes past says right =
    let m : MayReplyRead c me past right.1.0 client timestamp number answer = says_may c me bytes (record { sender = me; message = Reply client timestamp modes.ReadOnly number answer }) past right says in
    (m.op, m.is_read, m.authentic, right.1.0, right.1.1, m.answer_is)

pub reads_newest : ReadsNewest
reads_newest c me client timestamp number answer bytes past says right =
    let m : MayReplyRead c me past right.1.0 client timestamp number answer = says_may c me bytes (record { sender = me; message = Reply client timestamp modes.ReadOnly number answer }) past right says in
    m.number_is ∙ newest_state c me past right.1.0 right.1.1

pub no_change_while_active : NoChangeWhileActive
no_change_while_active c me bytes vc past says before active right = go (says_may c me bytes (record { sender = me; message = ViewChange vc }) past right says)
  where
    sends : (x : List Entry) (e : Entry) → SendsBytes bytes x e → IsSending me (ViewChange vc) e
    sends x (Sent p sent) h = subst (λ (ys : List ℕ). said ys ≡ Some (record { sender = me; message = ViewChange vc })) (sym h) says
    sends x _ h = absurd h

    go : MayViewChange c me past right.1.0 bytes vc → ⊥
    go (inl change) =
        let a = above_target me vc past (once_weaker (SendsBytes bytes) (λ earlier. IsSending me (ViewChange vc)) sends past before) in
        let b = change.newer in
        omega arith
    go (inr again) = let a = again.0 in omega arith

-- ---- the answers

pub gives_kept_digests : SendsKeptDigests
gives_kept_digests c me k index level digests bytes past says none right =
    let m : MayMeta c me past right.1.0 k level index digests = says_may c me bytes (record { sender = me; message = Meta k level index digests }) past right says in
    let x = has_some (λ (st : State). (st.number ≡ k) × (digests ≡ digests_at st level index)) (kept_states (low c me past) right.1.0.snapshots) m.0 in
    none right.1.0 right.1.1 x.0 x.1 x.2.0 (sym x.2.1)

pub gives_kept_pages : SendsKeptPages
gives_kept_pages c me k index text bytes past says none right =
    let m : MayPage c me past right.1.0 k index text = says_may c me bytes (record { sender = me; message = Page k index text }) past right says in
    let x = has_some (λ (st : State). (st.number ≡ k) × (text ≡ page_text st index)) (kept_states (low c me past) right.1.0.snapshots) m.0 in
    none right.1.0 right.1.1 x.0 x.1 x.2.0 (sym x.2.1)

pub gives_asked_digests : SendsAskedDigests
gives_asked_digests c me k index level digests bytes past says right =
    let m : MayMeta c me past right.1.0 k level index digests = says_may c me bytes (record { sender = me; message = Meta k level index digests }) past right says in
    m.1

pub gives_asked_pages : SendsAskedPages
gives_asked_pages c me k index text bytes past says right =
    let m : MayPage c me past right.1.0 k index text = says_may c me bytes (record { sender = me; message = Page k index text }) past right says in
    m.1

pub is_reply : (client timestamp number : ℕ) (answer : Outcome) (k : ℕ) (kept : Kept) → reply_of k kept ≡ Reply client timestamp modes.Ordered number answer → IsReplyOf k kept client timestamp number answer
is_reply client timestamp number answer k kept h = (cc, cc, cc, cc)

pub replies_what_ran : RepliesWhatRan
replies_what_ran c me client timestamp number answer bytes past says none right =
    go (says_may c me bytes (record { sender = me; message = Reply client timestamp modes.Ordered number answer }) past right says)
  where
    go : MayReply c me past right.1.0 client timestamp modes.Ordered number answer → ⊥
    go (inl h) =
        let x = has_some (λ (ran : Ran). reply_of ran.call.client ran.kept ≡ Reply client timestamp modes.Ordered number answer) right.1.0.ran h in
        (none right.1.0 right.1.1 x.0.call.client x.0.kept (is_reply client timestamp number answer x.0.call.client x.0.kept x.2)).0 (same x.0 right.1.0.ran x.1)
      where
        same : (ran : Ran) (xs : List Ran) → Has (λ y. y ≡ ran) xs → Has (λ y. (y.call.client ≡ ran.call.client) × (y.kept ≡ ran.kept)) xs
        same ran [] h = h
        same ran (y ∷ ys) (inl h) = inl (ap (λ (z : Ran). z.call.client) h, ap (λ (z : Ran). z.kept) h)
        same ran (y ∷ ys) (inr h) = inr (same ran ys h)
    go (inr h) = (none right.1.0 right.1.1 h.0 h.1 (is_reply client timestamp number answer h.0 h.1 h.3)).1 h.2

-- ---- dropped messages

record Owed (c : Configuration) (me : ℕ) (bytes : List ℕ) (past outputs : List Entry) : Type 0 where
  old : Point
  new : Point
  now : List Entry
  owes : Owes c me past (Got me bytes) outputs now old new

owed_here : (c : Configuration) (me : ℕ) (bytes later : List ℕ) (past : List Entry) → IsReplica c me (Sent me later ∷ Got me bytes ∷ past) → Owed c me bytes past (Sent me later ∷ [])
owed_here c me bytes later past (inl h) = record { old = _; new = _; now = _; owes = h.1.2.2.0 }
owed_here c me bytes later past (inr h) = absurd h.1

-- if the replica gives an output, it has not dropped the input
not_dropped : (c : Configuration) (me : ℕ) (bytes later : List ℕ) (past : List Entry) (body : Body) → authentic (members c me) me bytes ≡ Some body → IsReplica c me (Sent me later ∷ Got me bytes ∷ past)
    → ((point : Point) → Counts c me past point bytes body.sender body.message → ⊥) → ⊥
not_dropped c me bytes later past body receives h never =
    let o = owed_here c me bytes later past h in
    let none : Sent me later ∷ [] ≡ [] = o.owes.dropped bytes refl (λ other is k.
    never o.old (subst (λ (x : Body). Counts c me past o.old bytes x.sender x.message) (some_injective other body (sym is ∙ receives)) k)) in
    absurd cc

pub drops_replies : DropsReplies
drops_replies c me s client timestamp number mode answer bytes later past receives h =
    not_dropped c me bytes later past (record { sender = s; message = Reply client timestamp mode number answer }) receives h (λ point k. k)

pub drops_unasked_digests : DropsUnaskedDigests
drops_unasked_digests c me s k index level digests bytes later past receives other h =
    not_dropped c me bytes later past (record { sender = s; message = Meta k level index digests }) receives h (λ point counts. other counts.0)

pub drops_unasked_pages : DropsUnaskedPages
drops_unasked_pages c me s k index text bytes later past receives other h =
    not_dropped c me bytes later past (record { sender = s; message = Page k index text }) receives h (λ point counts. other counts.0)

pub drops_own_frames : DropsOwnFrames
drops_own_frames c me body bytes later past says own h =
    let none : Sent me later ∷ [] ≡ [] = (owed_here c me bytes later past h).owes.dropped bytes refl (λ other receives counts.
    let same : other ≡ body = some_injective other body (sym (heard_said c me bytes other receives) ∙ says) in
    absurd ((authentic_was_opened (members c me) me bytes other receives).other (ap (λ (b : Body). b.sender) same ∙ own))) in
    absurd cc

pub fetches_what_is_wanted : FetchesWhatIsWanted
fetches_what_is_wanted c me k index level bytes past says none right =
    go (says_may c me bytes (record { sender = me; message = Fetch k level index }) past right says)
  where
    go : MayFetch c me past right.1.0 k level index → ⊥
    go m = wanted m.root m.may.1
      where
        wanted : (root : List ℕ) → IsRootWanted c past k root → ⊥
        wanted root (inl quorum) = (none root).0 quorum
        wanted root (inr starts) = (none root).1 starts

pub fetches_above : FetchesAbove
fetches_above c me k index level bytes past says below right =
    let m : MayFetch c me past right.1.0 k level index = says_may c me bytes (record { sender = me; message = Fetch k level index }) past right says in
    let above : right.1.0.state.number < k = m.may.0 in
    let number = newest_state c me past right.1.0 right.1.1 in
    absurd (omega arith)

-- ---- whom a frame is for

addressed : (c : Configuration) (me : ℕ) (bytes : List ℕ) (body : Body) (frame : Frame) (entries : List MacData) (past : List Entry) (right : SafeReplica c me (Sent me bytes ∷ past)) → said bytes ≡ Some body
    → frame_of bytes ≡ Some frame → frame.authenticator ≡ macs entries → IsAddressed c me past body.message (macs entries)
addressed c me bytes body frame entries past right says is authenticator =
    let m : MaySend c me past right.1.0 (Sent me bytes) bytes = right.1.2.may in
    let same : m.body ≡ body = some_injective m.body body (sym m.says ∙ says) in
    subst (λ (p : Authenticator). IsAddressed c me past body.message p) authenticator
    (subst (λ (b : Body). IsAddressed c me past b.message frame.authenticator) same (m.is_sealed frame is).1)

sealed : (c : Configuration) (me : ℕ) (bytes : List ℕ) (frame : Frame) (authenticator : Authenticator) (past : List Entry) → frame_of bytes ≡ Some frame → frame.authenticator ≡ authenticator → SafeReplica c me (Sent me bytes ∷ past)
    → IsSealedBy c frame authenticator
sealed c me bytes frame authenticator past is authenticator_is right =
    subst (λ (p : Authenticator). IsSealedBy c frame p) authenticator_is (right.1.2.may.is_sealed frame is).0

pub seals_well : SealsWell
seals_well c me bytes frame entries past is authenticator right =
    let may : MaySend c me past right.1.0 (Sent me bytes) bytes = right.1.2.may in
    let own : frame.body.sender ≡ me = ap (λ (b : Body). b.sender) (body_of_frame bytes frame may.body is may.says) ∙ may.own in
    subst (λ (p : ℕ). All (λ x. x.mac ≡ mac_of (members c p).keys x.receiver frame.body) entries) own
    (sealed c me bytes frame (macs entries) past is authenticator right)

pub signs_well : SignsWell
signs_well c me bytes s frame past is authenticator right = sealed c me bytes frame (signature s) past is authenticator right

pub signs_once_by_leaf : SignsOnceByLeaf
signs_once_by_leaf c me leaf bytes sent s t frame other past is by was earlier before right =
    let m : MaySend c me past right.1.0 (Sent me bytes) bytes = right.1.2.may in
    m.leaf leaf sent (leaf_by bytes frame (Some leaf) is (ap leaf_in by)) (leaf_by sent other (Some leaf) was (ap leaf_in earlier)) before

-- a frame is sent in the current event if only outputs come after it
sent_here : (bytes : List ℕ) (me : ℕ) (outputs past : List Entry) → AreOutputs outputs → SentInEvent bytes (outputs ++ Sent me bytes ∷ past)
sent_here bytes me [] past are = inl refl
sent_here bytes me (e ∷ outputs) past are = rw are.0 (inr (sent_here bytes me outputs past are.1))

pub sends_no_frame_twice : SendsNoFrameTwice
sends_no_frame_twice c me bytes outputs past are right =
    right.1.2.may.once (sent_here bytes me outputs past are)

pub replies_to_its_client : RepliesToItsClient
replies_to_its_client c me client timestamp number mode answer bytes frame entries past says is authenticator right =
    addressed c me bytes (record { sender = me; message = Reply client timestamp mode number answer }) frame entries past right says is authenticator

pub digests_to_who_asked : DigestsToWhoAsked
digests_to_who_asked c me k index level digests bytes frame entries past says is authenticator right =
    addressed c me bytes (record { sender = me; message = Meta k level index digests }) frame entries past right says is authenticator

pub pages_to_who_asked : PagesToWhoAsked
pages_to_who_asked c me k index text bytes frame entries past says is authenticator right =
    addressed c me bytes (record { sender = me; message = Page k index text }) frame entries past right says is authenticator

kept_by_test : (test : ℕ → Bool) (xs : List ℕ) (s : ℕ) → test s ≡ true → Has (λ r. r ≡ s) xs → Has (λ r. r ≡ s) (filter test xs)
kept_by_test test [] s t h = absurd h
kept_by_test test (x ∷ xs) s t h = go (test x) refl h (kept_by_test test xs s t)
  where
    go : (b : Bool) → test x ≡ b → (x ≡ s) ⊎ Has (λ r. r ≡ s) xs → (Has (λ r. r ≡ s) xs → Has (λ r. r ≡ s) (filter test xs)) → Has (λ r. r ≡ s) (cond b (x ∷ filter test xs) (filter test xs))
    go true e (inl k) below = inl k
    go true e (inr k) below = inr (below k)
    go false e (inl k) below = let same : test x ≡ test s = ap test k in let bad : false ≡ true = sym e ∙ same ∙ t in absurd cc
    go false e (inr k) below = below k

pub commits_to_all : CommitsToAll
commits_to_all c me v i s digest bytes frame entries past says is authenticator within other right =
    let e = addressed c me bytes (record { sender = me; message = Commit v i digest }) frame entries past right says is authenticator in
    subst (λ (rs : List ℕ). Has (λ r. r ≡ s) rs) (sym e)
    (kept_by_test (λ r. not (r == me)) (range_with_len 0 (replicas c)) s (differs (s == me) refl) (in_range (replicas c) 0 s (omega arith) (omega arith)))
  where
    differs : (b : Bool) → (s == me) ≡ b → not b ≡ true
    differs true e = absurd (other (eqb-true s me e))
    differs false e = refl

-- ---- new views

pub have_of_count : (c : Configuration) (set : List (ℕ × ViewChangeData)) (count : ℕ) (test : ViewChangeData → Bool) (P : ViewChangeData → Type 0) → ((vc : ViewChangeData) → test vc ≡ true → P vc)
    → count ≤ count_in c test set → SoManyHave count c set P
have_of_count c set count test P f enough = (
  passes_by test set,
  enough,
  λ s h.
      let t = passes_change test set s h in
      (t.0, change_there set s t.0 t.1, f t.0 t.2),
)

pub has_from : (c : Configuration) (new : NewViewData) (count : ℕ) (test : ViewChangeData → Bool) (P : ViewChangeData → Type 0) → ((vc : ViewChangeData) → test vc ≡ true → P vc)
    → count ≤ count_in c test (changes_of c new) → HasFrom count c new P
has_from c new = have_of_count c (changes_of c new)

pub says_nothing_against : (i w : ℕ) (digest : List ℕ) (vc : ViewChangeData) → (nat_lt vc.low i && agrees i w digest vc) ≡ true → SaysNothingAgainst i w digest vc
says_nothing_against i w digest vc h =
    let p = and_parts (nat_lt vc.low i) (agrees i w digest vc) h in
    (ltb-true vc.low i p.0, λ batch_entry has number. by batch_entry number (every_has (λ (batch_entry : BatchEntry). not (batch_entry.number == i) || nat_lt batch_entry.view w || ((batch_entry.view == w) && bytes_eq batch_entry.digest digest)) vc.prepared batch_entry p.1 has))
  where
    last : (batch_entry : BatchEntry) → ((batch_entry.view == w) && bytes_eq batch_entry.digest digest) ≡ true → (batch_entry.view ≡ w) × (batch_entry.digest ≡ digest)
    last batch_entry h =
        let p = and_parts (batch_entry.view == w) (bytes_eq batch_entry.digest digest) h in
        (eqb-true batch_entry.view w p.0, (bytes_eq-Decides batch_entry.digest digest).0 p.1)

    by : (batch_entry : BatchEntry) → batch_entry.number ≡ i → (not (batch_entry.number == i) || nat_lt batch_entry.view w || ((batch_entry.view == w) && bytes_eq batch_entry.digest digest)) ≡ true → (batch_entry.view < w) ⊎ ((batch_entry.view ≡ w) × (batch_entry.digest ≡ digest))
    by batch_entry number t = pick (or_cases (not (batch_entry.number == i) || nat_lt batch_entry.view w) ((batch_entry.view == w) && bytes_eq batch_entry.digest digest) t)
      where
        early : (not (batch_entry.number == i) ≡ true) ⊎ (nat_lt batch_entry.view w ≡ true) → batch_entry.view < w
        early (inl other) = let here = eq-eqb batch_entry.number i number in absurd (let f : not true ≡ true = subst (λ (b : Bool). not b ≡ true) here other in cc)
        early (inr lt) = ltb-true batch_entry.view w lt

        pick : ((not (batch_entry.number == i) || nat_lt batch_entry.view w) ≡ true) ⊎ (((batch_entry.view == w) && bytes_eq batch_entry.digest digest) ≡ true) → (batch_entry.view < w) ⊎ ((batch_entry.view ≡ w) × (batch_entry.digest ≡ digest))
        pick (inl k) = inl (early (or_cases (not (batch_entry.number == i)) (nat_lt batch_entry.view w) k))
        pick (inr k) = inr (last batch_entry k)

pub says_for_it : (i w : ℕ) (digest : List ℕ) (vc : ViewChangeData) → vouches i w digest vc ≡ true → SaysForIt i w digest vc
says_for_it i w digest vc h =
    has_of_any (λ (batch_entry : BatchEntry). (batch_entry.number ≡ i) × (batch_entry.digest ≡ digest) × (w ≤ batch_entry.view)) (λ (batch_entry : BatchEntry). (batch_entry.number == i) && bytes_eq batch_entry.digest digest && nat_le w batch_entry.view)
    each vc.pre_prepared h
  where
    each : (batch_entry : BatchEntry) → ((batch_entry.number == i) && bytes_eq batch_entry.digest digest && nat_le w batch_entry.view) ≡ true → (batch_entry.number ≡ i) × (batch_entry.digest ≡ digest) × (w ≤ batch_entry.view)
    each batch_entry t =
        let p = and_parts ((batch_entry.number == i) && bytes_eq batch_entry.digest digest) (nat_le w batch_entry.view) t in
        let q = and_parts (batch_entry.number == i) (bytes_eq batch_entry.digest digest) p.0 in
        (eqb-true batch_entry.number i q.0, (bytes_eq-Decides batch_entry.digest digest).0 q.1, leb-true w batch_entry.view p.1)

pub says_nothing : (i : ℕ) (vc : ViewChangeData) → (nat_lt vc.low i && list_all (λ (batch_entry : BatchEntry). not (batch_entry.number == i)) vc.prepared) ≡ true → SaysNothing i vc
says_nothing i vc h =
    let p = and_parts (nat_lt vc.low i) (list_all (λ (batch_entry : BatchEntry). not (batch_entry.number == i)) vc.prepared) h in (
      ltb-true vc.low i p.0,
      λ has.
          let x = has_some (λ (batch_entry : BatchEntry). batch_entry.number ≡ i) vc.prepared has in
          let other = every_has (λ (batch_entry : BatchEntry). not (batch_entry.number == i)) vc.prepared x.0 p.1 x.1 in
          absurd (let f : not true ≡ true = subst (λ (b : Bool). not b ≡ true) (eq-eqb x.0.number i x.2) other in cc),
    )

pub takes_well_selected : TakesWellSelected
takes_well_selected c past e new h = record {
  enough = has_from c new (2 * c.faults + 1) (λ vc. true) (λ vc. ⊤) (λ vc t. tt) (leb-true (2 * c.faults + 1) (count_in c (λ vc. true) (changes_of c new)) s.enough);
  of_its_view = λ who vc has.
      let t = every_has (λ (x : ℕ × ViewChangeData). (x.1.view == new.view) && is_within c x.1) (changes_of c new) (who, vc) s.each has in
      eqb-true vc.view new.view (and_parts (vc.view == new.view) (is_within c vc) t).0;
  filled = λ who vc batch_entry has prepared within.
      let n = eqb-true (length new.batches) (how_many_batches c new) s.long in
      let r = largest_of-has (new.start + span c) batch_entry.number who (changes_of c new) vc has (has_number vc batch_entry prepared) within in
      omega arith;
  vouched = vouched;
}
  where
    s : Selects c new
    s = selects c new (selected_in c e new (takes c 0 past e new h).brought)

    has_number : (vc : ViewChangeData) (batch_entry : BatchEntry) → Has (λ x. x ≡ batch_entry) vc.prepared → Has (λ (x : BatchEntry). x.number ≡ batch_entry.number) vc.prepared
    has_number vc batch_entry h = each vc.prepared h
      where
        each : (xs : List BatchEntry) → Has (λ x. x ≡ batch_entry) xs → Has (λ (x : BatchEntry). x.number ≡ batch_entry.number) xs
        each [] h = h
        each (x ∷ xs) (inl h) = inl (ap (λ (y : BatchEntry). y.number) h)
        each (x ∷ xs) (inr h) = inr (each xs h)

    vouched : (i : ℕ) (batch : List ℕ) → slice_get new.batches (i - new.start - 1) ≡ Some batch → new.start < i
        → ((w : ℕ) × (w < new.view) × HasFrom (2 * c.faults + 1) c new (SaysNothingAgainst i w (sha256 batch)) × HasFrom (c.faults + 1) c new (SaysForIt i w (sha256 batch)))
        ⊎ ((batch ≡ null_batch) × HasFrom (2 * c.faults + 1) c new (SaysNothing i))
    vouched i batch get above =
        by (or_cases (nat_lt 0 (count_below (may_stand_at c (changes_of c new) i (sha256 batch)) new.view)) (is_null batch && may_be_null c (changes_of c new) i)
        (stands_at c new.view (changes_of c new) (suc new.start) new.batches (i - new.start - 1) batch s.stand get i (omega arith)))
      where
        by : (nat_lt 0 (count_below (may_stand_at c (changes_of c new) i (sha256 batch)) new.view) ≡ true) ⊎ ((is_null batch && may_be_null c (changes_of c new) i) ≡ true)
            → ((w : ℕ) × (w < new.view) × HasFrom (2 * c.faults + 1) c new (SaysNothingAgainst i w (sha256 batch)) × HasFrom (c.faults + 1) c new (SaysForIt i w (sha256 batch)))
            ⊎ ((batch ≡ null_batch) × HasFrom (2 * c.faults + 1) c new (SaysNothing i))
        by (inl k) =
            let x = some_below (may_stand_at c (changes_of c new) i (sha256 batch)) new.view k in
            let rules = and_parts (is_quorum c (count_in c (λ vc. nat_lt vc.low i && agrees i x.0 (sha256 batch) vc) (changes_of c new))) (is_weak_quorum c (count_in c (vouches i x.0 (sha256 batch)) (changes_of c new))) x.2 in
            inl (
              x.0,
              x.1,
              has_from c new (2 * c.faults + 1) (λ vc. nat_lt vc.low i && agrees i x.0 (sha256 batch) vc) (SaysNothingAgainst i x.0 (sha256 batch)) (says_nothing_against i x.0 (sha256 batch))
                  (leb-true (2 * c.faults + 1) (count_in c (λ vc. nat_lt vc.low i && agrees i x.0 (sha256 batch) vc) (changes_of c new)) rules.0),
              has_from c new (c.faults + 1) (vouches i x.0 (sha256 batch)) (SaysForIt i x.0 (sha256 batch)) (says_for_it i x.0 (sha256 batch))
                  (leb-true (c.faults + 1) (count_in c (vouches i x.0 (sha256 batch)) (changes_of c new)) rules.1),
            )
        by (inr k) =
            let p = and_parts (is_null batch) (may_be_null c (changes_of c new) i) k in
            inr (
              (bytes_eq-Decides batch null_batch).0 p.0,
              has_from c new (2 * c.faults + 1) (λ vc. nat_lt vc.low i && list_all (λ (batch_entry : BatchEntry). not (batch_entry.number == i)) vc.prepared) (SaysNothing i) (says_nothing i)
                  (leb-true (2 * c.faults + 1) (count_in c (λ vc. nat_lt vc.low i && list_all (λ (batch_entry : BatchEntry). not (batch_entry.number == i)) vc.prepared) (changes_of c new)) p.1),
            )

pub takes_no_lower : TakesNoLower
takes_no_lower c me past e new vc h changed =
    let r = and_then_some (λ (x : NewViewData). then_some (is_later (view c past) (target past) x) x) (new_view_in c e) new h in
    let g = then_some_gives (is_later (view c past) (target past) r.0) r.0 new r.2 in
    let t : is_later (view c past) (target past) new ≡ true = subst (λ (x : NewViewData). is_later (view c past) (target past) x ≡ true) g.1 g.0 in
    let p = and_parts (nat_lt (view c past) new.view) (nat_le (target past) new.view) t in
    let a = leb-true (target past) new.view p.1 in
    let b = above_target me vc past changed in
    omega arith

-- ---- clients

pub accepts_at_quorum : AcceptsAtQuorum
accepts_at_quorum c me k timestamp answer past right =
    let m = right.0.1 in
    let full = leb-true (2 * c.faults + 1) (count_alike c me past m.0.timestamp m.1) m.6 in
    let enough = subst (λ (t : ℕ). 2 * c.faults + 1 ≤ count_alike c me past t m.1) m.3 full in (
      m.1.mode,
      m.1.number,
      λ s. is_alike m.1 (latest c me past timestamp m.1.mode s),
      enough,
      λ s h. answers s m.1 m.4 m.1.mode (latest c me past timestamp m.1.mode s) refl h,
    )
  where
    receives : (s : ℕ) (mode : Mode) (v : Vote) → latest c me past timestamp mode s ≡ Some v → Once (Receives c me (record { sender = s; message = Reply me timestamp mode v.number v.answer })) past
    receives s mode v is = latest_received c me timestamp mode s v past (own_entries c me past right.1) is

    answers : (s : ℕ) (vote : Vote) → vote.answer ≡ answer → (mode : Mode) (o : Option Vote) → latest c me past timestamp mode s ≡ o → is_alike vote o ≡ true
        → (other : Outcome) × (outcome_spelling other ≡ outcome_spelling answer) × Once (Receives c me (record { sender = s; message = Reply me timestamp mode vote.number other })) past
    answers s vote same mode None is h = absurd cc
    answers s vote same mode (Some v) is h =
        let q = and_parts (v.number == vote.number) (bytes_eq (outcome_spelling v.answer) (outcome_spelling vote.answer)) h in
        let n : v.number ≡ vote.number = eqb-true v.number vote.number q.0 in
        let spelled = (bytes_eq-Decides (outcome_spelling v.answer) (outcome_spelling vote.answer)).0 q.1 in
        (v.answer, spelled ∙ ap outcome_spelling same, subst (λ (i : ℕ). Once (Receives c me (record { sender = s; message = Reply me timestamp mode i v.answer })) past) n (receives s mode v is))
