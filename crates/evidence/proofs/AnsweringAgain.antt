-- The definitions accept a replica that sends its kept reply again, after the first operation.
use Rattle.std.proofs.Common.{◌≡◌, ℕ, zero, suc, ◌+◌, inl, inr, Bool, true, false, cond, ◌&&◌, List, [], ◌∷◌, fold, refl, sym, ap, ◌∙◌, subst, arith, Option, Some, None}
use Rattle.std.specs.Prelude.{nat_lt, option_and_then}
use Rattle.std.specs.Option.{option_map_or}
use Rattle.tuple_codec.specs.Operations.{Operation}
use Rattle.reply_cache.specs.Replies.{Kept, no_replies}
use Rattle.terms.specs.declared.order.Mode.TheVariants as modes
use Rattle.terms.specs.declared.state.Level.TheVariants as levels
use Rattle.wire_format.specs.Messages.{BodyData as Body, CheckpointEntryData as CheckpointEntry, request as Request, reply as Reply, fetch as Fetch, meta as Meta, page as Page, view_change as ViewChange}
use Rattle.protocol.specs.System.Configuration.{Configuration, members}
use Rattle.signing.specs.AuthenticBody.{authentic}
use Rattle.protocol.specs.System.Trace.{Entry}
use Rattle.protocol.specs.System.Trace.Entry.{Got, Sent}
use Rattle.protocol.specs.Replica.Certificates.{lists_checkpoint, checkpoints_of, count_checkpoints, Prepared}
use Rattle.protocol.specs.Replica.Selection.{is_quorum}
use Rattle.protocol.specs.Replica.State.{Call, opening, kept_of, last_time, kept_by, call_in, run_frame, run_call}
use Rattle.protocol.specs.Replica.RightReplica.{waiting_after, with_waiting, reply_of, MaySend, IsStep}
use Rattle.protocol.specs.Replica.Owed.{SendsMessage, IsDropped, Owes, HistoryIsPrompt, IsReplica}
use Rattle.evidence.specs.Examples.{four}
use Rattle.evidence.specs.FirstOperation.{FirstFrames, first_answer}
use Rattle.evidence.specs.ExamplesOfKept.{KeptReplyGoesAgain}
use Rattle.protocol.proofs.Words.Moving.{no_reason}
use Rattle.protocol.proofs.Words.Starts.{starts_low}
use Rattle.protocol.proofs.Points.Keeping.{executed_kept}
use Rattle.protocol.proofs.Words.Options.{some_injective}
use Rattle.evidence.proofs.FirstBatch.{still}
use Rattle.evidence.proofs.FirstReplicasStages.{Stage, got, sent, stage_request, stage_reply}
use Rattle.evidence.proofs.FirstReplicasOwing.{ready, is_prepared, prepared_ready}
use Rattle.evidence.proofs.FirstReplicasSteps as steps
use Rattle.evidence.proofs.FirstReplicasSteps.{Part, point_of, asks, replies, the_call, after, done}
use Rattle.evidence.proofs.FirstReplicasEvents as events
use Rattle.evidence.proofs.FirstReplicas.{first, second, third}
use Rattle.evidence.proofs.FirstReplicasBackup as backup
use Rattle.evidence.proofs.FirstReplicasPrimary as primary
use Rattle.quorum.proofs.Counting.{count_same}

module _ (o : Part) where
  abbrev op : Operation
  op = o.op

  abbrev batch : List ℕ
  batch = o.batch

  abbrev w : FirstFrames
  w = o.frames

  abbrev me : ℕ
  me = o.me

  abbrev c : Configuration
  c = four o.clients o.seed

  -- ---- the kept reply

  abbrev the_kept : Kept
  the_kept = kept_by opening 1 (the_call op)

  kept_is : kept_of (after c batch) 0 ≡ Some the_kept
  unfolding no_replies
  kept_is =
      executed_kept c opening batch 0
      ∙ ap (λ (frames : List (List ℕ)). kept_of (fold (run_frame c 1) opening frames) 0) o.are_frames.requests
      ∙ ap (λ (call : Option Call). kept_of (option_map_or (run_call opening 1) call opening) 0) (steps.called o)

  last_is : last_time (after c batch) 0 ≡ 1
  last_is = ap (λ (k : Option Kept). option_map_or (λ (x : Kept). x.timestamp) k 0) kept_is

  receives : authentic (members c me) me w.request ≡ Some (asks op)
  receives = steps.hears_request o

  -- the request waits no more
  quiet : done c batch ≡ record (done c batch) { ran = []; waiting = waiting_after c me (done c batch) w.request }
  quiet =
      sym (ap (point_of (after c batch) [])
      (ap (λ (body : Option Body). option_map_or (with_waiting (after c batch) []) (option_and_then (call_in c) body) []) receives
      ∙ ap (λ (call : Option Call). option_map_or (with_waiting (after c batch) []) call []) (steps.calls o)
      ∙ ap (λ (t : ℕ). cond (nat_lt t 1 && true) (the_call op ∷ []) []) last_is))

  module _ (past : List Entry) (p k : ℕ → Bool) (st : Stage o.clients o.seed batch me past true p k) (held : ready true p ≡ true) where
    abbrev asked : List Entry
    asked = Got me w.request ∷ past

    abbrev now : List Entry
    now = Sent me (w.reply me) ∷ asked

    abbrev outputs : List Entry
    outputs = Sent me (w.reply me) ∷ []

    at_request : Stage o.clients o.seed batch me asked true p k
    at_request =
        stage_request o.clients o.seed batch me past (Got me w.request) 256 1 modes.Ordered op true p k st
        (got o.clients o.seed batch me past w.request (asks op) st.plain receives tt)

    at_now : Stage o.clients o.seed batch me now true p k
    at_now =
        stage_reply o.clients o.seed batch me asked (Sent me (w.reply me)) me 256 1 1 modes.Ordered (first_answer op) true p k at_request
        (sent o.clients o.seed batch me asked (w.reply me) (replies op me) (o.are_frames.replies me o.within).says tt)

    -- ---- the replica receives the request

    abbrev IsOrdered : Body → Type 0
    IsOrdered body = elim body.message [ Request t mode o ↦ (body.sender ≡ 256) × (mode ≡ modes.Ordered) | _ ↦ ⊥ ]

    is_ordered : (body : Body) → authentic (members c me) me w.request ≡ Some body → IsOrdered body
    is_ordered body h = subst IsOrdered (some_injective (asks op) body (sym receives ∙ h)) (refl, refl)

    -- ---- what the replica owes

    sends_again : (n : ℕ) (kept : Kept) → 256 + n ≡ 256 → kept_of (after c batch) n ≡ Some kept → SendsMessage me (reply_of n kept) outputs
    sends_again n kept is there =
        let first : n ≡ 0 = omega arith in
        let same : the_kept ≡ kept = some_injective the_kept kept (sym kept_is ∙ subst (λ (m : ℕ). kept_of (after c batch) m ≡ Some kept) first there) in
        subst (λ (m : ℕ). SendsMessage me (reply_of m kept) outputs) (sym first)
        (subst (λ (x : Kept). SendsMessage me (reply_of 0 x) outputs) same (inl (o.are_frames.replies me o.within).says))

    no_quorum : (checkpoint : CheckpointEntry) → is_quorum c (count_checkpoints c now checkpoint) ≡ true → ⊥
    no_quorum checkpoint h =
        let same : count_checkpoints c now checkpoint ≡ 0 = count_same (λ s. lists_checkpoint checkpoint (checkpoints_of c now s)) (λ s. false) (λ s. ap (lists_checkpoint checkpoint) (at_now.checkpoints_are s)) 4 in
        absurd (let worse : false ≡ true = subst (λ (n : ℕ). is_quorum c n ≡ true) same h in cc)

    -- the request counts, since its client's last reply is to it
    not_dropped : IsDropped c me past (done c batch) w.request → ⊥
    not_dropped drops = drops (asks op) receives (0, refl, inl (the_kept, kept_is, refl))

    owes : Owes c me past (Got me w.request) outputs now (done c batch) (done c batch)
    owes = record {
      numbers = λ v i call active is_primary waits free. absurd waits;
      numbers_once = (events.no_pre_prepare o asked (w.reply me) (replies op me) (o.are_frames.replies me o.within).says tt, tt);
      prepares = λ v i b none some active other. absurd (let bad : None ≡ Some b = sym none ∙ st.logged_is v i ∙ sym (at_now.logged_is v i) ∙ some in cc);
      commits = λ v i b none some active.
          let it = (is_prepared o.clients o.seed batch me now true p k at_now v i b some).0 in
          absurd (none (subst (λ (x : ℕ). Prepared c me past x i b) (sym it.view_is) (subst (λ (x : ℕ). Prepared c me past 0 x b) (sym it.number_is)
          (subst (λ (x : List ℕ). Prepared c me past 0 1 x) (sym it.batch_is) (prepared_ready o.clients o.seed batch me past true p k st held)))));
      executes = λ v b h.
          let it = (is_prepared o.clients o.seed batch me now true p k at_now v (suc (after c batch).number) b h.prepared).0 in
          let i = it.number_is in
          let number = steps.after_number o in
          absurd (omega arith);
      replies = λ ran h. absurd h;
      checkpoints = λ n h multiple. absurd (events.none_executed o (w.reply me) n h);
      again = λ n t other kept asks there same. sends_again n kept (is_ordered (record { sender = 256 + n; message = Request t modes.Ordered other }) asks).0 there;
      says_again = λ r. absurd r.1;
      reads = λ s t other asks read_only. absurd (let bad : modes.ReadOnly ≡ modes.Ordered = (is_ordered (record { sender = s; message = Request t modes.ReadOnly other }) asks).1 in cc);
      fetched_digests = λ s n index level children asks state kept. absurd (is_ordered (record { sender = s; message = Fetch n level index }) asks);
      fetched_page = λ s n index asks state kept. absurd (is_ordered (record { sender = s; message = Fetch n levels.Page index }) asks);
      goes_on_by_digests = λ s n index level digests brings awaited. absurd (is_ordered (record { sender = s; message = Meta n level index digests }) brings);
      goes_on_by_page = λ s n index text brings awaited. absurd (is_ordered (record { sender = s; message = Page n index text }) brings);
      fetches = λ n root quorum above newer. absurd (no_quorum (record { number = n; digest = root }) quorum);
      fetches_start = λ n starts above newer. absurd (let most = starts_low c me n now starts in let low = (still c me now at_now.plain).low_is in omega (arith, most, low, above));
      fetches_again = λ n index level tick asked_for above. absurd tick;
      view_changes = λ vc bytes moves may within says. absurd (no_reason c me past w.request (done c batch).waiting vc.view (λ s x asks. is_ordered (record { sender = s; message = ViewChange x }) asks) moves);
      new_views = λ new can. absurd (let left = can.left in let sent = (still c me now at_now.plain).target_is in omega (arith, left, sent));
      dropped = λ bytes same drops. absurd (not_dropped (subst (λ (bs : List ℕ). IsDropped c me past (done c batch) bs) (sym cc) drops));
    }

    -- ---- the steps

    may : MaySend c me asked (done c batch) (Sent me (w.reply me)) (w.reply me)
    may =
        steps.may_send o asked (done c batch) (w.reply me) (Reply 256 1 modes.Ordered 1 (first_answer op)) (256 ∷ []) (o.are_frames.replies me o.within) (λ rs is. is) tt
        (inr (0, the_kept, kept_is, refl, (op, receives))) (λ here. here)

    sends : IsStep c me asked (done c batch) (Sent me (w.reply me)) (done c batch)
    sends = record { own = refl; may = may; moves = refl }

    answers : HistoryIsPrompt c me past [] (done c batch) (done c batch) → IsReplica c me now
    answers before =
        inl (done c batch, (done c batch, sends, (done c batch, record { own = refl; may = tt; moves = quiet }, (owes, before))))

pub kept_reply_goes_again : KeptReplyGoesAgain
kept_reply_goes_again clients seed op batch w setting x zero within =
    answers (primary.self clients seed op batch w setting x) (primary.primary_history clients seed op batch w setting x) _ _ (primary.behind clients seed op batch w setting x) refl
    (primary.proceeds clients seed op batch w setting x)
kept_reply_goes_again clients seed op batch w setting x (suc zero) within =
    answers (backup.self clients seed op batch w setting x 1 2 3 2 3 0 first) (backup.backup_history clients seed op batch w setting x 1 2 3 2 3 0 first) _ _
    (backup.behind clients seed op batch w setting x 1 2 3 2 3 0 first) first.three_prepares (backup.proceeds clients seed op batch w setting x 1 2 3 2 3 0 first)
kept_reply_goes_again clients seed op batch w setting x (suc (suc zero)) within =
    answers (backup.self clients seed op batch w setting x 2 1 3 3 0 1 second) (backup.backup_history clients seed op batch w setting x 2 1 3 3 0 1 second) _ _
    (backup.behind clients seed op batch w setting x 2 1 3 3 0 1 second) second.three_prepares (backup.proceeds clients seed op batch w setting x 2 1 3 3 0 1 second)
kept_reply_goes_again clients seed op batch w setting x (suc (suc (suc zero))) within =
    answers (backup.self clients seed op batch w setting x 3 1 2 2 0 1 third) (backup.backup_history clients seed op batch w setting x 3 1 2 2 0 1 third) _ _
    (backup.behind clients seed op batch w setting x 3 1 2 2 0 1 third) third.three_prepares (backup.proceeds clients seed op batch w setting x 3 1 2 2 0 1 third)
kept_reply_goes_again clients seed op batch w setting x (suc (suc (suc (suc r)))) within = absurd (omega arith)
