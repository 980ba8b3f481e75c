-- A checkpoint arrives. The replica drops or counts it. Then its marks move, or it fetches the state.
use Rattle.std.proofs.Common.{◌≡◌, ◌≤◌, ◌<◌, ◌+◌, ◌*◌, ◌⊎◌, ℕ, suc, inl, inr, Bool, true, false, cond, ◌&&◌, List, [], ◌∷◌, Option, Some, None, refl, sym, ap, ◌∙◌, subst}
use Rattle.std.specs.Prelude.{nat_le}
use Rattle.std.proofs.lemmas.Bool.{leb-true, le-ltb, lt-ltb}
use Rattle.std.proofs.lemmas.List.{length-set}
use Rattle.terms.specs.declared.parties.ReplicaId.{ReplicaId}
use Rattle.terms.specs.declared.state.Level.TheVariants as levels
use Rattle.wire_format.specs.Messages.{BodyData as Body, MessageData as Message, CheckpointEntryData as CheckpointEntry, checkpoint as Checkpoint, fetch as Fetch}
use Rattle.wire_format.specs.declared.messages.Checkpoint.{Checkpoint as WireCheckpoint}
use Rattle.signing.specs.AuthenticBody.{authentic}
use Rattle.events.specs.declared.output.Output.{Output}
use Rattle.ordering.specs.Log as logs
use Rattle.ordering.specs.Log.{LogData}
use Rattle.ordering.specs.Keeping.{IsLog}
use Rattle.ordering.specs.Checkpoints.{lists_checkpoint, with_checkpoint}
use Rattle.ordering.specs.Taking.{checkpoint_fault}
use Rattle.ordering.specs.declared.dropped.Dropped.{Dropped}
use Rattle.protocol.specs.System.Configuration.{Configuration, members}
use Rattle.protocol.specs.System.Trace.{Entry}
use Rattle.protocol.specs.System.Trace.Entry.{Got}
use Rattle.protocol.specs.Replica.Certificates.{taken}
use Rattle.replica_histories.specs.Desk.{Snapshot, Desk, desk_from, kept_from}
use Rattle.replica_histories.specs.Events as histories
use Rattle.replica_histories.specs.Changes.{CutsPqSets, FitsChanges, IsNoBatch, KeepsChanges}
use Rattle.replica_histories.specs.Inputs.{fetch_due}
use Rattle.replica_histories.specs.Marks.{checked_log}
use Rattle.replica_histories.specs.Transfers.{open_number}
use Rattle.replica_histories.proofs.ChangesKept.{received_keep, others_bring_none}
use Rattle.replica_histories.proofs.ChangesPassing.{changes_stay, pq_sets_are_above, inputs_enter}
use Rattle.replica_histories.proofs.Counting.{checkpoints_count, checkpoints_drop, early_checkpoints_drop}
use Rattle.replica_histories.proofs.Entering.{checkpoints_enter}
use Rattle.replica_histories.proofs.Giving.{kept_are_above}
use Rattle.replica_histories.proofs.Questions.{others_owe_none}
use Rattle.replica.specs.declared.taking.DueWork.TheVariants as due_work
use Rattle.pq_sets.specs.PqSetsView.{PqSetsData}
use Rattle.orderer.specs.State.{OrdererData}
use Rattle.replica.specs.State.{BothPartsData, AreOne, Gives, heard}
use Rattle.desk.specs.State.{DeskData}
use Rattle.orderer.specs.Checkpoints.{TakesCheckpoint, counting, said_entry}
use Rattle.replica.specs.Checkpoints.{StartsTransferIfBehind, StabilizesMarks}
use Rattle.orderer.specs.Fitting.{given, FitsEvent, changes_held}
use Rattle.replica.specs.Desks.{PartsFitEvent}
use Rattle.replica.specs.Beginning.{CannotBegin}
use Rattle.replica.specs.Entering.{event_of, IsTakenAlone, IsTakenBeside, IsLeftToDo, TakesBytes, TakesMessage}
use Rattle.desk.specs.Fetching.{target_number, with_target}
use Rattle.desk.specs.DeskOf.{desk_of}
use Rattle.replica.specs.BothParts.{BothPartsMatchHistory, me_of}
use Rattle.replica.specs.Going.{AllIsExecuted, IsOneParty, NothingIsLeft}
use Rattle.orderer.specs.Multicasting.{Multicasts}
use Rattle.orderer.specs.Going.{CommitsNoMore, IsSameLog, IsVotedAll}
use Rattle.replica.proofs.Beginning.{IsNoCall, drops, heard_by, none_taken, rests, some_fault}
use Rattle.replica.proofs.DueCheckpoints.{cut_commits, cut_voted, either, same_cut, settled_pq_sets, settled_desk, settled_orderer, settled_snapshots}
use Rattle.replica_histories.proofs.Counting.{checkpoint_free}
use Rattle.replica.proofs.Following.{aimed_same, aims, aims_desk}
use Rattle.replica.proofs.Choosing.{begins_nothing_stays, settled_choice}
use Rattle.orderer.proofs.Staying.{numbers_alike, numbers_beside, said_on, same_but_checkpoints}

-- ---- the fetch that is due

none_for_stable : (desk : Desk) (log : LogData) (entry : CheckpointEntry) → logs.is_stable log entry ≡ true → fetch_due desk log entry ≡ []
none_for_stable desk log entry stable = rw stable refl

none_for_few : (desk : Desk) (log : LogData) (entry : CheckpointEntry) → logs.is_stable log entry ≡ false → nat_le (2 * log.faults + 1) (logs.count_checkpoints log entry) ≡ false
    → fetch_due desk log entry ≡ []
none_for_few desk log entry unstable few = rw (unstable, few) refl

none_behind : (desk : Desk) (log : LogData) (entry : CheckpointEntry) → logs.is_stable log entry ≡ false → entry.number ≤ open_number desk.state.number desk.transfer
    → fetch_due desk log entry ≡ []
none_behind desk log entry unstable behind = rw (unstable, le-ltb (open_number desk.state.number desk.transfer) entry.number behind) (go (nat_le (2 * log.faults + 1) (logs.count_checkpoints log entry)))
  where
    go : (b : Bool) → cond {A = List Message} (b && false) (Fetch entry.number levels.Root 0 ∷ []) [] ≡ []
    go true = refl
    go false = refl

one_ahead : (desk : Desk) (log : LogData) (entry : CheckpointEntry) → logs.is_stable log entry ≡ false → nat_le (2 * log.faults + 1) (logs.count_checkpoints log entry) ≡ true
    → open_number desk.state.number desk.transfer < entry.number → fetch_due desk log entry ≡ Fetch entry.number levels.Root 0 ∷ []
one_ahead desk log entry unstable quorum ahead = rw (unstable, quorum, lt-ltb (open_number desk.state.number desk.transfer) entry.number ahead) refl

-- ---- the log

counted_is_log : (log : LogData) (s : ℕ) (entry : CheckpointEntry) → IsLog log → IsLog (logs.with_checkpoint_of log s entry)
counted_is_log log s entry is = record {
  some = is.some;
  few = is.few;
  me = is.me;
  span = is.span;
  low = is.low;
  size = is.size;
  rows = is.rows;
  checkpoints = length-set log.checkpoints s (with_checkpoint entry (logs.checkpoints_of log s)) ∙ is.checkpoints;
}

same_counted : (log : LogData) (s : ℕ) (entry : CheckpointEntry) → IsSameLog log (checked_log log s entry)
same_counted log s entry =
    either (λ (m : LogData). IsSameLog log m) (logs.with_checkpoint_of log s entry) entry (same_but_checkpoints log (logs.with_checkpoint_of log s entry).checkpoints)
    (let m = same_cut (logs.with_checkpoint_of log s entry) entry.number in record { me = m.me; faults = m.faults; span = m.span; view = m.view; active = m.active; low = m.low })

none_more : (old new : LogData) (i : ℕ) → CommitsNoMore old new → logs.committed_batch old i ≡ None → logs.committed_batch new i ≡ None
none_more old new i no_more none = go (logs.committed_batch new i) refl
  where
    go : (o : Option (List ℕ)) → logs.committed_batch new i ≡ o → logs.committed_batch new i ≡ None
    go None e = e
    go (Some text) e = let bad : Some text ≡ None = sym (no_more i text e) ∙ none in absurd cc

-- ---- it comes

module _ (r : BothPartsData) (one : AreOne r.orderer r.desk) (s : ℕ) (entry : CheckpointEntry) (bytes : List ℕ)
    (h : heard r.orderer bytes ≡ Some (record { sender = s; message = Checkpoint entry.number entry.digest })) where
  abbrev body : Body
  body = record { sender = s; message = Checkpoint entry.number entry.digest }

  receives : (c : Configuration) → Gives c r.orderer → authentic (members c (me_of r)) (me_of r) bytes ≡ Some body
  receives c known = heard_by r one c bytes body known h

  no_call : (c : Configuration) → Gives c r.orderer → IsNoCall c (authentic (members c (me_of r)) (me_of r) bytes)
  no_call c known = subst (IsNoCall c) (sym (receives c known)) (record { call = refl; asks = λ st. refl; parts = refl; views = refl; changes = tt })

  -- it is dropped
  faulty_dropped : (fault : Dropped) → checkpoint_fault r.orderer.log s entry.number entry.digest ≡ Some fault → TakesBytes bytes r due_work.Nothing r []
  faulty_dropped fault is =
      drops r one bytes (λ c past runs known. (checkpoints_drop c (me_of r) r.orderer.log past s entry bytes fault runs.holds.of_log.fits (receives c known) is, no_call c known))

  counted_party : IsOneParty r (record r { orderer = counting r.orderer s entry })
  counted_party = record { endpoint = refl; me = refl; membership = refl }

  early_dropped : lists_checkpoint entry (logs.checkpoints_of (logs.with_checkpoint_of r.orderer.log s entry) s) ≡ false
      → TakesBytes bytes r due_work.Nothing (record r { orderer = counting r.orderer s entry }) []
  early_dropped early = record {
    party = counted_party;
    begins = λ c past runs known.
        subst (λ (log : LogData). let o : OrdererData = record r.orderer { log = log } in PartsFitEvent c (event_of c r past runs bytes) o r.desk [] []
        × IsLeftToDo c (event_of c r past runs bytes) due_work.Nothing (record r { orderer = o }) [] × CannotBegin c o)
        (sym (early_checkpoints_drop c (me_of r) r.orderer.log past s entry bytes runs.holds.of_log.fits (receives c known) early).0)
        ((drops r one bytes (λ d before held same.
        ((early_checkpoints_drop d (me_of r) r.orderer.log before s entry bytes held.holds.of_log.fits (receives d same) early).1, no_call d same))).begins c past runs known);
  }

  -- or it is counted
  module _ (none : checkpoint_fault r.orderer.log s entry.number entry.digest ≡ None) (latest : lists_checkpoint entry (logs.checkpoints_of (logs.with_checkpoint_of r.orderer.log s entry) s) ≡ true) where
    abbrev counted : LogData
    counted = logs.with_checkpoint_of r.orderer.log s entry

    abbrev with_it : BothPartsData
    with_it = record r { orderer = counting r.orderer s entry }

    abbrev after : LogData
    after = checked_log r.orderer.log s entry

    abbrev checked : PqSetsData → OrdererData
    checked pq_sets = record r.orderer { log = after; pq_sets = pq_sets }

    -- a rule takes it
    counts : (c : Configuration) (past : List Entry) (runs : BothPartsMatchHistory c r past) → Gives c r.orderer → IsTakenBeside c (me_of r) (event_of c r past runs bytes)
    counts c past runs known = (
      (body, receives c known, checkpoints_count c (me_of r) r.orderer.log past runs.holds.of_desk.point s entry bytes runs.holds.of_log.fits (receives c known) none latest),
      (no_call c known).parts,
    )

    module _ (c : Configuration) (past : List Entry) (runs : BothPartsMatchHistory c r past) (known : Gives c r.orderer) (pq_sets : PqSetsData)
        (cuts : CutsPqSets r.orderer.log.low r.orderer.pq_sets r.orderer.pq_sets → CutsPqSets after.low r.orderer.pq_sets pq_sets) where
      abbrev e : Entry
      e = Got (me_of r) bytes

      free : taken c past e ≡ None
      free = none_taken c past e (no_call c known).views

      fitting : histories.BothFitWithinEvent c (me_of r) (event_of c r past runs bytes) (desk_from after.low (desk_of c r.desk)) after (fetch_due (desk_of c r.desk) counted entry) []
      fitting = checkpoints_enter c (me_of r) (desk_of c r.desk) r.orderer.log past s entry bytes runs.holds (receives c known) none

      keeps : KeepsChanges c (me_of r) past e
      keeps = received_keep c (me_of r) past bytes free (subst IsNoBatch (sym (receives c known)) tt) (λ other ne. others_bring_none c (me_of r) other past bytes (no_call c known).changes ne)

      changing : FitsChanges c (me_of r) after (changes_held (checked pq_sets)) (e ∷ past)
      changing = changes_stay c (me_of r) past e r.orderer.log after (changes_held r.orderer) pq_sets
          (inputs_enter c (me_of r) (desk_of c r.desk) (desk_from after.low (desk_of c r.desk)) r.orderer.log after (fetch_due (desk_of c r.desk) counted entry) past e runs.holds fitting)
          (let same = same_counted r.orderer.log s entry in record { view = same.view; active = same.active }) keeps
          (cuts (pq_sets_are_above c (me_of r) r.orderer.log past r.orderer.pq_sets runs.holds.of_log.fits runs.changes.pq_sets)) runs.changes

      enters : FitsEvent c (me_of r) (event_of c r past runs bytes) (checked pq_sets) (desk_from after.low (desk_of c r.desk)) r.desk.waiting (fetch_due (desk_of c r.desk) counted entry) []
      enters = record {
        fits = fitting;
        numbers = numbers_alike c (me_of r) r.desk.waiting r.orderer (checked pq_sets) (desk_of c r.desk) (e ∷ past) (same_counted r.orderer.log s entry) refl
            (numbers_beside c (me_of r) r.desk.waiting r.orderer (desk_of c r.desk) past e runs.holds.of_log.fits.faults runs.holds.of_log.fits.own
            (record { here = refl; none = free; sends = refl }) runs.numbers);
        said = said_on (me_of r) r.orderer.last_checkpoint past e runs.said;
        changes = changing;
        meant = tt;
      }

    -- the kept states are those from the low mark on
    kept : (c : Configuration) (past : List Entry) (runs : BothPartsMatchHistory c r past) → kept_from r.orderer.log.low r.desk.snapshots ≡ r.desk.snapshots
    kept c past runs =
        let above = kept_are_above c (me_of r) (desk_of c r.desk) r.orderer.log runs.holds.of_desk.point.snapshots past runs.holds.of_log.fits runs.holds.of_desk.kept in
        ap (λ (d : Desk). d.snapshots) above

    module _ (n : BothPartsData) (b : Bool) (settles : StabilizesMarks entry with_it n b) where
      orderer_is : n.orderer ≡ checked n.orderer.pq_sets
      orderer_is = settled_orderer entry with_it n b settles

      desk_is : n.desk ≡ record r.desk { snapshots = n.desk.snapshots }
      desk_is = settled_desk entry with_it n b settles

      stands : (c : Configuration) (past : List Entry) (runs : BothPartsMatchHistory c r past) → Gives c r.orderer
          → PartsFitEvent c (event_of c r past runs bytes) n.orderer n.desk (fetch_due (desk_of c r.desk) counted entry) []
      stands c past runs known =
          subst (λ (k : OrdererData). PartsFitEvent c (event_of c r past runs bytes) k n.desk (fetch_due (desk_of c r.desk) counted entry) []) (sym orderer_is)
          (subst (λ (k : DeskData). PartsFitEvent c (event_of c r past runs bytes) (checked n.orderer.pq_sets) k (fetch_due (desk_of c r.desk) counted entry) []) (sym desk_is) (record {
            is = record {
              members_are = runs.is_desk.members_are;
              period_is = runs.is_desk.period_is;
              rests = runs.is_desk.rests;
              calls = runs.is_desk.calls;
              differ = runs.is_desk.differ;
            };
            fits = subst (λ (xs : List Snapshot). FitsEvent c r.desk.me (event_of c r past runs bytes) (checked n.orderer.pq_sets) (record (desk_of c r.desk) { snapshots = xs }) r.desk.waiting (fetch_due (desk_of c r.desk) counted entry) [])
                (settled_snapshots entry with_it n b settles (kept c past runs))
                (subst (λ (m : ℕ). FitsEvent c m (event_of c r past runs bytes) (checked n.orderer.pq_sets) (desk_from after.low (desk_of c r.desk)) r.desk.waiting (fetch_due (desk_of c r.desk) counted entry) []) (sym one.0)
                (enters c past runs known n.orderer.pq_sets (settled_pq_sets entry with_it n b settles)));
          }))

      party : IsOneParty r n
      party = record {
        endpoint = ap (λ (k : OrdererData). k.endpoint) orderer_is;
        me = ap (λ (d : DeskData). d.me) desk_is;
        membership = ap (λ (d : DeskData). d.membership) desk_is;
      }

      rests_on : (c : Configuration) (past : List Entry) (runs : BothPartsMatchHistory c r past) → NothingIsLeft n
      rests_on c past runs =
          let before = rests c r past runs in
          let is_log = counted_is_log r.orderer.log s entry runs.holds.of_log.fits.is_log in (
            subst (λ (k : OrdererData). IsVotedAll k.log) (sym orderer_is) (either IsVotedAll counted entry before.0 (cut_voted counted entry.number is_log before.0)),
            subst (λ (k : OrdererData). AllIsExecuted k.log n.desk) (sym orderer_is)
                (subst (λ (k : DeskData). AllIsExecuted after k) (sym desk_is)
                (none_more r.orderer.log after (suc r.desk.executed.state.number)
                (either (CommitsNoMore r.orderer.log) counted entry (λ i text is. is) (cut_commits counted entry.number is_log)) before.1)),
          )

    -- The marks move.
    settled : (n : BothPartsData) → StabilizesMarks entry with_it n true → TakesBytes bytes r due_work.Waiting n []
    settled n settles = record {
      party = party n true settles;
      begins = λ c past runs known. (
        subst (λ (due : List Message). PartsFitEvent c (event_of c r past runs bytes) n.orderer n.desk due []) (none_for_stable (desk_of c r.desk) counted entry settles.0) (stands n true settles c past runs known),
        (rests_on n true settles c past runs, subst (λ (k : OrdererData). IsTakenAlone c k.endpoint.me (event_of c r past runs bytes)) (sym (orderer_is n true settles)) (alone c past runs known)),
        begins_nothing_stays c r.orderer n.orderer (subst (λ (k : OrdererData). IsSameLog r.orderer.log k.log) (sym (orderer_is n true settles)) (same_counted r.orderer.log s entry))
            (ap (λ (k : OrdererData). k.target) (orderer_is n true settles))
            (λ off. let k = settled_choice entry with_it n true settles in record { received = k.received; spent = k.spent; logged = k.logged }) runs.nothing_begins,
      );
    }
      where
        alone : (c : Configuration) (past : List Entry) (runs : BothPartsMatchHistory c r past) → Gives c r.orderer → IsTakenAlone c (me_of r) (event_of c r past runs bytes)
        alone c past runs known =
            let t = counts c past runs known in
            (t.0, λ outputs executed. others_owe_none c (me_of r) past (Got (me_of r) bytes) outputs runs.holds.of_desk.point executed t.1)

    -- a checkpoint that is counted begins no view
    begins_nothing_still : (c : Configuration) → CannotBegin c r.orderer → CannotBegin c with_it.orderer
    begins_nothing_still c = begins_nothing_stays c r.orderer with_it.orderer (same_but_checkpoints r.orderer.log counted.checkpoints) refl (λ off. record { received = refl; spent = refl; logged = λ pq_entry has. has })

    -- Or they don't, and the replica may fetch a state.
    module _ (unstable : logs.is_stable counted entry ≡ false) where
      waits : (nat_le (2 * counted.faults + 1) (logs.count_checkpoints counted entry) ≡ false) ⊎ (entry.number ≤ target_number r.desk) → TakesBytes bytes r due_work.Nothing with_it []
      waits why = record {
        party = counted_party;
        begins = λ c past runs known. (
          subst (λ (due : List Message). PartsFitEvent c (event_of c r past runs bytes) with_it.orderer r.desk due []) (none_now c past runs why) (stands with_it false (unstable, refl) c past runs known),
          (rests c r past runs, runs.all, others_owe_none c (me_of r) past (Got (me_of r) bytes) [] runs.holds.of_desk.point r.desk.executed.state.number (no_call c known).parts, inl refl),
          begins_nothing_still c runs.nothing_begins,
        );
      }
        where
          none_now : (c : Configuration) (past : List Entry) (runs : BothPartsMatchHistory c r past)
              → (nat_le (2 * counted.faults + 1) (logs.count_checkpoints counted entry) ≡ false) ⊎ (entry.number ≤ target_number r.desk) → fetch_due (desk_of c r.desk) counted entry ≡ []
          none_now c past runs (inl few) = none_for_few (desk_of c r.desk) counted entry unstable few
          none_now c past runs (inr behind) = none_behind (desk_of c r.desk) counted entry unstable (subst (λ (k : ℕ). entry.number ≤ k) (sym (aimed_same r.desk.executed.state.number r.desk.transfer)) behind)

      fetches : (outs : List Output) → nat_le (2 * counted.faults + 1) (logs.count_checkpoints counted entry) ≡ true → target_number r.desk < entry.number
          → Multicasts with_it.orderer (Fetch entry.number levels.Root 0) [] outs → TakesBytes bytes r due_work.Nothing (record with_it { desk = with_target entry r.desk }) outs
      fetches outs quorum ahead says = record {
        party = record { endpoint = refl; me = refl; membership = refl };
        begins = λ c past runs known. (
          asked c past runs known,
          (rests c r past runs, runs.all, others_owe_none c (me_of r) past (Got (me_of r) bytes) (given (me_of r) outs) runs.holds.of_desk.point r.desk.executed.state.number (no_call c known).parts, inr (counts c past runs known).0),
          begins_nothing_still c runs.nothing_begins,
        );
      }
        where
          over : r.orderer.log.low < entry.number
          over = (checkpoint_free r.orderer.log s entry.number entry.digest none).above

          asked : (c : Configuration) (past : List Entry) (runs : BothPartsMatchHistory c r past) → Gives c r.orderer
              → PartsFitEvent c (event_of c r past runs bytes) with_it.orderer (with_target entry r.desk) [] outs
          asked c past runs known =
              let due = one_ahead (desk_of c r.desk) counted entry unstable quorum (subst (λ (k : ℕ). k < entry.number) (sym (aimed_same r.desk.executed.state.number r.desk.transfer)) ahead) in
              let st = subst (λ (due : List Message). PartsFitEvent c (event_of c r past runs bytes) with_it.orderer r.desk due []) due (stands with_it false (unstable, refl) c past runs known) in
              record {
                is = aims_desk c (event_of c r past runs bytes) with_it.orderer r.desk r.desk.waiting entry [] outs st.is;
                fits = subst (λ (m : ℕ). FitsEvent c m (event_of c r past runs bytes) with_it.orderer (desk_of c (with_target entry r.desk)) r.desk.waiting [] outs) (sym one.0)
                    (aims c (event_of c r past runs bytes) with_it.orderer r.desk r.desk.waiting entry [] outs [] known
                    (leb-true (2 * counted.faults + 1) (logs.count_checkpoints counted entry) quorum) over ahead says
                    (subst (λ (m : ℕ). FitsEvent c m (event_of c r past runs bytes) with_it.orderer (desk_of c r.desk) r.desk.waiting (Fetch entry.number levels.Root 0 ∷ []) []) one.0 st.fits));
              }

      followed : (n : BothPartsData) (outs : List Output) → StartsTransferIfBehind entry with_it [] n outs → TakesBytes bytes r due_work.Nothing n outs
      followed n outs (inl (why, same, silent)) =
          subst (λ (k : BothPartsData). TakesBytes bytes r due_work.Nothing k outs) (sym same) (subst (λ (os : List Output). TakesBytes bytes r due_work.Nothing with_it os) (sym silent) (waits why))
      followed n outs (inr (quorum, ahead, same, says)) = subst (λ (k : BothPartsData). TakesBytes bytes r due_work.Nothing k outs) (sym same) (fetches outs quorum ahead says)

-- ---- as the program takes it

module _ (r : BothPartsData) (one : AreOne r.orderer r.desk) (sender : ReplicaId) (m : WireCheckpoint) where
  pub checkpoint_dropped : (o : OrdererData) → TakesCheckpoint r.orderer sender m o false → TakesMessage sender (Checkpoint m.number.0 m.root) r due_work.Nothing (record r { orderer = o }) []
  checkpoint_dropped o (inl (fault, same)) bytes h =
      let why = some_fault _ fault in
      subst (λ (k : OrdererData). TakesBytes bytes r due_work.Nothing (record r { orderer = k }) []) (sym same) (faulty_dropped r one sender.0 (said_entry m) bytes h why.0 why.1)
  checkpoint_dropped o (inr (counted, early)) bytes h =
      subst (λ (k : OrdererData). TakesBytes bytes r due_work.Nothing (record r { orderer = k }) []) (sym counted)
      (early_dropped r one sender.0 (said_entry m) bytes h (subst (λ (k : OrdererData). lists_checkpoint (said_entry m) (logs.checkpoints_of k.log sender.0) ≡ false) counted early))

  module _ (o : OrdererData) (takes : TakesCheckpoint r.orderer sender m o true) where
    latest_then : lists_checkpoint (said_entry m) (logs.checkpoints_of (logs.with_checkpoint_of r.orderer.log sender.0 (said_entry m)) sender.0) ≡ true
    latest_then = subst (λ (k : OrdererData). lists_checkpoint (said_entry m) (logs.checkpoints_of k.log sender.0) ≡ true) takes.1 takes.2

    pub checkpoint_settled : (n : BothPartsData) → StabilizesMarks (said_entry m) (record r { orderer = o }) n true → TakesMessage sender (Checkpoint m.number.0 m.root) r due_work.Waiting n []
    checkpoint_settled n settles bytes h =
        settled r one sender.0 (said_entry m) bytes h takes.0 latest_then n (subst (λ (k : OrdererData). StabilizesMarks (said_entry m) (record r { orderer = k }) n true) takes.1 settles)

    pub checkpoint_followed : (x n : BothPartsData) (outs : List Output) → StabilizesMarks (said_entry m) (record r { orderer = o }) x false → StartsTransferIfBehind (said_entry m) x [] n outs
        → TakesMessage sender (Checkpoint m.number.0 m.root) r due_work.Nothing n outs
    checkpoint_followed x n outs settles follows bytes h =
        let unstable = subst (λ (k : OrdererData). logs.is_stable k.log (said_entry m) ≡ false) takes.1 settles.0 in
        let x_is = settles.1 ∙ ap (λ (k : OrdererData). record r { orderer = k }) takes.1 in
        followed r one sender.0 (said_entry m) bytes h takes.0 latest_then unstable n outs (subst (λ (k : BothPartsData). StartsTransferIfBehind (said_entry m) k [] n outs) x_is follows)
