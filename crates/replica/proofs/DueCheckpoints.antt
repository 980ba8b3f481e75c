-- The checkpoint that is due, and the marks that it moves.
use Rattle.std.proofs.Common.{◌≡◌, ℕ, ◌%◌, ◌≤◌, Bool, true, false, cond, List, [], ◌∷◌, Some, inl, refl, sym, ap, ◌∙◌, subst, arith, ◌==◌, min, ◌-◌}
use Rattle.std.specs.Prelude.{nat_le}
use Rattle.std.proofs.lemmas.Bool.{leb-false}
use Rattle.wire_format.specs.Messages.{MessageData as Message, CheckpointEntryData as CheckpointEntry, checkpoint as Checkpoint}
use Rattle.wire.proofs.Skipping.{none_chosen}
use Rattle.events.specs.declared.output.Output.{Output}
use Rattle.ordering.specs.Log as logs
use Rattle.ordering.specs.Log.{LogData}
use Rattle.ordering.specs.Keeping.{IsLog}
use Rattle.protocol.specs.System.Configuration.{Configuration, is_number}
use Rattle.protocol.specs.System.Trace.{Entry, Once, Has}
use Rattle.protocol.specs.System.Trace.Entry.{Sent}
use Rattle.protocol.specs.Replica.State.{State, root_of}
use Rattle.protocol.specs.Replica.RightReplica.{Point, MayCheckpoint, others}
use Rattle.protocol.specs.Replica.Owed.{IsSending, latest_checkpoint}
use Rattle.protocol.proofs.Words.Options.{some_injective}
use Rattle.replica_histories.specs.Desk.{Snapshot, Desk, point_of, desk_from, kept_from}
use Rattle.replica_histories.specs.Events as events
use Rattle.replica_histories.specs.Events.{Start, after_outputs}
use Rattle.replica_histories.specs.Changes.{CutsPqSets, FitsChanges}
use Rattle.replica_histories.specs.Marks.{cut_if_stable, checked_log}
use Rattle.replica_histories.specs.Outputs.{checkpoint_due}
use Rattle.replica_histories.proofs.Words.{passed}
use Rattle.replica_histories.proofs.Asking.{cuts_ask_no_more}
use Rattle.replica_histories.proofs.Cutting.{cut_same}
use Rattle.replica_histories.proofs.Ending.{steps_leave}
use Rattle.replica_histories.proofs.OwnCheckpoints.{checkpoints_are_latest}
use Rattle.replica_histories.proofs.ChangesKept.{checkpoints_are_noted}
use Rattle.replica_histories.proofs.ChangesPassing.{pq_sets_are_above, outputs_pass}
use Rattle.replica_histories.proofs.Giving.{checkpoints_fit, kept_are_above}
use Rattle.pq_sets.specs.PqSetsView.{PqSetsData}
use Rattle.orderer.specs.State.{OrdererData}
use Rattle.replica.specs.State.{BothPartsData, AreOne, Gives}
use Rattle.desk.specs.State.{DeskData}
use Rattle.desk.specs.Waiting.{WaitingData}
use Rattle.orderer.specs.Fitting.{given, FitsWaiting, FitsEvent, changes_held}
use Rattle.replica.specs.Desks.{PartsFitEvent}
use Rattle.orderer.specs.Going.{CommitsNoMore, IsSameLog, IsSameOrderer, IsVotedAll, KeepsChoice}
use Rattle.replica.proofs.Choosing.{settled_choice}
use Rattle.desk.specs.Desking.{due_entry, checkpoint_is_due, newest_entry}
use Rattle.desk.specs.DeskOf.{desk_of}
use Rattle.replica.specs.Checkpoints.{IsDueKept, MulticastsDueCheckpoint, StabilizesMarks}
use Rattle.orderer.specs.Multicasting.{Multicasts}
use Rattle.orderer.proofs.Staying.{numbers_alike, numbers_beside, sent_beside}
use Rattle.orderer.proofs.Voting.{SaidIn, said_in}
use Rattle.orderer.specs.Checkpoints.{MulticastsCheckpoint}

-- ---- due messages

-- the checkpoint of a state
abbrev entry_at : State → CheckpointEntry
entry_at st = record { number = st.number; digest = root_of st }

abbrev message_at : State → Message
message_at st = Checkpoint st.number (root_of st)

pub record IsDueEntry (d : DeskData) (entry : CheckpointEntry) : Type 0 where
  pub due : checkpoint_is_due d ≡ true
  pub is : entry ≡ entry_at d.executed.state

pub entry_due : (d : DeskData) (entry : CheckpointEntry) → IsDueKept d → due_entry d ≡ Some entry → IsDueEntry d entry
entry_due d entry kept is =
    let a = passed (checkpoint_is_due d) (newest_entry d.snapshots) entry is in
    record { due = a.0; is = some_injective entry (entry_at d.executed.state) (sym a.1 ∙ kept a.0) }

due_when : (c : Configuration) (d : DeskData) (b : Bool) → c.period ≡ d.period → checkpoint_is_due d ≡ b → checkpoint_due c d.executed.state ≡ cond b (message_at d.executed.state ∷ []) []
due_when c d b period is =
    ap (λ (p : ℕ). cond (d.executed.state.number % p == 0) (message_at d.executed.state ∷ []) []) period
    ∙ ap (λ (t : Bool). cond t (message_at d.executed.state ∷ []) []) is

-- ---- a cut

pub same_cut : (log : LogData) (h : ℕ) → IsSameLog log (logs.cut_to log h)
same_cut log h = record {
  me = cut_same (λ m. m.me) (λ m k rows. refl) log h;
  faults = cut_same (λ m. m.faults) (λ m k rows. refl) log h;
  span = cut_same (λ m. m.span) (λ m k rows. refl) log h;
  view = cut_same (λ m. m.view) (λ m k rows. refl) log h;
  active = cut_same (λ m. m.active) (λ m k rows. refl) log h;
  low = go (nat_le h log.low) refl;
}
  where
    go : (b : Bool) → nat_le h log.low ≡ b → log.low ≤ (cond b log (record log { low = h; rows = logs.cut_rows (min (h - log.low) log.span) log.rows })).low
    go true e = omega arith
    go false e = let l = leb-false h log.low e in omega (arith, l)

pub cut_voted : (log : LogData) (h : ℕ) → IsLog log → IsVotedAll log → IsVotedAll (logs.cut_to log h)
cut_voted log h is voted i =
    let a = cuts_ask_no_more log h i is in
    (a.0 ∙ none_chosen (logs.is_in_marks (logs.cut_to log h) i) (logs.due_prepare log i) (voted i).0, a.1 ∙ none_chosen (logs.is_in_marks (logs.cut_to log h) i) (logs.due_commit log i) (voted i).1)

pub cut_commits : (log : LogData) (h : ℕ) → IsLog log → CommitsNoMore log (logs.cut_to log h)
cut_commits log h is i text has =
    (passed (logs.is_in_marks (logs.cut_to log h) i) (logs.committed_batch log i) text (sym (cuts_ask_no_more log h i is).2 ∙ has)).1

-- what holds of a log and of its cut holds of the settled one
pub either : (P : LogData → Type 0) (log : LogData) (entry : CheckpointEntry) → P log → P (logs.cut_to log entry.number) → P (cut_if_stable log entry)
either P log entry whole cut = go (logs.is_stable log entry)
  where
    go : (b : Bool) → P (cond b (logs.cut_to log entry.number) log)
    go true = cut
    go false = whole

-- ---- the orderer sends it

-- the checkpoint is counted, and the log cut if it is stable
abbrev checking : OrdererData → CheckpointEntry → PqSetsData → OrdererData
checking o entry pq_sets = record o { log = checked_log o.log o.log.me entry; pq_sets = pq_sets; last_checkpoint = Some entry }

same_checked : (log : LogData) (entry : CheckpointEntry) → IsSameLog log (checked_log log log.me entry)
same_checked log entry =
    either (λ (m : LogData). IsSameLog log m) (logs.with_checkpoint_of log log.me entry) entry (record { me = refl; faults = refl; span = refl; view = refl; active = refl; low = omega arith })
    (let s = same_cut (logs.with_checkpoint_of log log.me entry) entry.number in record { me = s.me; faults = s.faults; span = s.span; view = s.view; active = s.active; low = s.low })

module _ (c : Configuration) (s : Start) (o : OrdererData) (desk : Desk) (w : WaitingData) (entry : CheckpointEntry) (pq_sets : PqSetsData) (before after : List Output) (known : Gives c o)
    (says : Multicasts o (Checkpoint entry.number entry.digest) before after) (voted : IsVotedAll o.log) (f : FitsEvent c o.endpoint.me s o desk w (Checkpoint entry.number entry.digest ∷ []) before)
    (cuts : CutsPqSets o.log.low o.pq_sets o.pq_sets → CutsPqSets (checked_log o.log o.log.me entry).low o.pq_sets pq_sets) (here : entry.number ≡ desk.state.number) where
  abbrev me : ℕ
  me = o.endpoint.me

  abbrev past : List Entry
  past = after_outputs s (given me before)

  abbrev later : Desk
  later = desk_from (checking o entry pq_sets).log.low desk

  said : SaidIn c o (Checkpoint entry.number entry.digest) before after
  said = said_in c o (Checkpoint entry.number entry.digest) before after known says

  fitting : events.BothFitWithinEvent c me s later (checking o entry pq_sets).log [] (Sent me said.bytes ∷ given me before)
  fitting = subst (λ (m : ℕ). events.BothFitWithinEvent c me s (desk_from (checked_log o.log m entry).low desk) (checked_log o.log m entry) [] (Sent me said.bytes ∷ given me before)) (sym f.fits.of_log.own)
      (checkpoints_fit c me s desk o.log [] (given me before) entry said.bytes (λ i. (voted i).0) (λ i. (voted i).1) said.is_outgoing f.fits)

  numbering : FitsWaiting c me (checking o entry pq_sets) w later (Sent me said.bytes ∷ past)
  numbering = numbers_alike c me w o (checking o entry pq_sets) desk (Sent me said.bytes ∷ past) (same_checked o.log entry) refl
      (numbers_beside c me w o desk past (Sent me said.bytes) f.fits.of_log.faults f.fits.of_log.own
      (sent_beside c me (Checkpoint entry.number entry.digest) (others c me) said.bytes past tt said.is_outgoing) f.numbers)

  -- it is the latest of the replica's own
  latest : latest_checkpoint c me (Sent me said.bytes ∷ past) ≡ Some entry
  latest =
      let point : Point = point_of desk f.fits.of_desk.states f.fits.of_desk.ran in
      let may : MayCheckpoint c past point entry.number entry.digest × (is_number entry.number ≡ true) = f.fits.of_desk.rightly (Checkpoint entry.number entry.digest) (inl refl) in
      checkpoints_are_latest c me past point entry said.bytes (steps_leave c me s (given me before) point f.fits.of_desk.leaves f.fits.of_desk.steps) may.0 here may.1 said.is_outgoing.says

  changing : FitsChanges c me (checking o entry pq_sets).log (changes_held (checking o entry pq_sets)) (Sent me said.bytes ∷ past)
  changing =
      let same = same_checked o.log entry in
      checkpoints_are_noted c me past o.log (checking o entry pq_sets).log (changes_held o) pq_sets entry said.bytes
      (outputs_pass c me s desk later o.log (checking o entry pq_sets).log (Checkpoint entry.number entry.digest ∷ []) [] (given me before) (Sent me said.bytes) f.fits fitting)
      (record { view = same.view; active = same.active }) said.is_outgoing.says latest
      (cuts (pq_sets_are_above c me o.log past o.pq_sets f.fits.of_log f.changes.pq_sets)) f.changes

  says_due : FitsEvent c me s (checking o entry pq_sets) later w [] after
  says_due = record {
    fits = subst (λ (es : List Entry). events.BothFitWithinEvent c me s later (checking o entry pq_sets).log [] es) (sym said.is.is) fitting;
    numbers = subst (λ (es : List Entry). FitsWaiting c me (checking o entry pq_sets) w later (after_outputs s es)) (sym said.is.is) numbering;
    said = λ other is. subst (λ (es : List Entry). Once (λ earlier e. IsSending me (Checkpoint other.number other.digest) e) (after_outputs s es)) (sym said.is.is)
        (inl (subst (λ (z : CheckpointEntry). IsSending me (Checkpoint z.number z.digest) (Sent me said.bytes)) (some_injective entry other is) said.is_outgoing.says));
    changes = subst (λ (es : List Entry). FitsChanges c me (checking o entry pq_sets).log (changes_held (checking o entry pq_sets)) (after_outputs s es)) (sym said.is.is) changing;
    meant = said.is.meant f.meant;
  }

-- ---- both parts

pub settled_orderer : (entry : CheckpointEntry) (m n : BothPartsData) (b : Bool) → StabilizesMarks entry m n b
    → n.orderer ≡ record m.orderer { log = cut_if_stable m.orderer.log entry; pq_sets = n.orderer.pq_sets }
settled_orderer entry m n true (stable, (o, (pq_sets, cuts, o_is), moves)) =
    subst (λ (r : BothPartsData). r.orderer ≡ record m.orderer { log = cut_if_stable m.orderer.log entry; pq_sets = r.orderer.pq_sets }) (sym moves)
    (subst (λ (k : OrdererData). k ≡ record m.orderer { log = cut_if_stable m.orderer.log entry; pq_sets = k.pq_sets }) (sym o_is)
    (ap (λ (b : Bool). let k : OrdererData = record m.orderer { log = cond b (logs.cut_to m.orderer.log entry.number) m.orderer.log; pq_sets = pq_sets } in k) (sym stable)))
settled_orderer entry m n false (stable, same) =
    subst (λ (r : BothPartsData). r.orderer ≡ record m.orderer { log = cut_if_stable m.orderer.log entry; pq_sets = r.orderer.pq_sets }) (sym same)
    (ap (λ (b : Bool). let k : OrdererData = record m.orderer { log = cond b (logs.cut_to m.orderer.log entry.number) m.orderer.log } in k) (sym stable))

-- the entries of P and Q up to the low mark are dropped
pub settled_pq_sets : (entry : CheckpointEntry) (m n : BothPartsData) (b : Bool) → StabilizesMarks entry m n b → CutsPqSets m.orderer.log.low m.orderer.pq_sets m.orderer.pq_sets
    → CutsPqSets (cut_if_stable m.orderer.log entry).low m.orderer.pq_sets n.orderer.pq_sets
settled_pq_sets entry m n true (stable, (o, (pq_sets, cuts, o_is), moves)) above =
    subst (λ (b : Bool). CutsPqSets (cond b (logs.cut_to m.orderer.log entry.number) m.orderer.log).low m.orderer.pq_sets n.orderer.pq_sets) (sym stable)
    (subst (λ (x : PqSetsData). CutsPqSets (logs.cut_to m.orderer.log entry.number).low m.orderer.pq_sets x) (sym (ap (λ (r : BothPartsData). r.orderer.pq_sets) moves ∙ ap (λ (k : OrdererData). k.pq_sets) o_is)) cuts)
settled_pq_sets entry m n false (stable, same) above =
    subst (λ (b : Bool). CutsPqSets (cond b (logs.cut_to m.orderer.log entry.number) m.orderer.log).low m.orderer.pq_sets n.orderer.pq_sets) (sym stable)
    (subst (λ (r : BothPartsData). CutsPqSets m.orderer.log.low m.orderer.pq_sets r.orderer.pq_sets) (sym same) above)

pub settled_desk : (entry : CheckpointEntry) (m n : BothPartsData) (b : Bool) → StabilizesMarks entry m n b → n.desk ≡ record m.desk { snapshots = n.desk.snapshots }
settled_desk entry m n true (stable, (o, cuts, moves)) = subst (λ (r : BothPartsData). r.desk ≡ record m.desk { snapshots = r.desk.snapshots }) (sym moves) refl
settled_desk entry m n false (stable, same) = subst (λ (r : BothPartsData). r.desk ≡ record m.desk { snapshots = r.desk.snapshots }) (sym same) refl

-- the kept states are those from the mark on
pub settled_snapshots : (entry : CheckpointEntry) (m n : BothPartsData) (b : Bool) → StabilizesMarks entry m n b → kept_from m.orderer.log.low m.desk.snapshots ≡ m.desk.snapshots
    → kept_from (cut_if_stable m.orderer.log entry).low m.desk.snapshots ≡ n.desk.snapshots
settled_snapshots entry m n true (stable, (o, cuts, moves)) kept =
    ap (λ (b : Bool). kept_from (cond b (logs.cut_to m.orderer.log entry.number) m.orderer.log).low m.desk.snapshots) stable
    ∙ sym (ap (λ (r : BothPartsData). r.desk.snapshots) moves)
settled_snapshots entry m n false (stable, same) kept =
    ap (λ (b : Bool). kept_from (cond b (logs.cut_to m.orderer.log entry.number) m.orderer.log).low m.desk.snapshots) stable
    ∙ kept ∙ sym (ap (λ (r : BothPartsData). r.desk.snapshots) same)

module _ (a : BothPartsData) (o : OrdererData) (n : BothPartsData) (entry : CheckpointEntry) (x y : List Output) (b : Bool) (one : AreOne a.orderer a.desk) (due : IsDueEntry a.desk entry)
    (says : MulticastsCheckpoint entry a.orderer x o y) (settles : StabilizesMarks entry (record a { orderer = o }) n b) (is_log : IsLog o.log) where
  abbrev counted : LogData
  counted = logs.with_checkpoint_of a.orderer.log a.orderer.log.me entry

  orderer_is : n.orderer ≡ checking a.orderer entry n.orderer.pq_sets
  orderer_is = settled_orderer entry (record a { orderer = o }) n b settles
      ∙ ap (λ (k : OrdererData). let x : OrdererData = record k { log = cut_if_stable k.log entry; pq_sets = n.orderer.pq_sets } in x) says.new_is

  desk_is : n.desk ≡ record a.desk { snapshots = n.desk.snapshots }
  desk_is = settled_desk entry (record a { orderer = o }) n b settles

  snapshots_are : kept_from a.orderer.log.low a.desk.snapshots ≡ a.desk.snapshots → kept_from (checking a.orderer entry n.orderer.pq_sets).log.low a.desk.snapshots ≡ n.desk.snapshots
  snapshots_are kept =
      ap (λ (k : OrdererData). kept_from (cut_if_stable k.log entry).low a.desk.snapshots) (sym says.new_is)
      ∙ settled_snapshots entry (record a { orderer = o }) n b settles (ap (λ (k : OrdererData). kept_from k.log.low a.desk.snapshots) says.new_is ∙ kept)

  pq_sets_are : CutsPqSets a.orderer.log.low a.orderer.pq_sets a.orderer.pq_sets → CutsPqSets (checked_log a.orderer.log a.orderer.log.me entry).low a.orderer.pq_sets n.orderer.pq_sets
  pq_sets_are above =
      subst (λ (k : OrdererData). CutsPqSets (cut_if_stable k.log entry).low k.pq_sets n.orderer.pq_sets) says.new_is
      (settled_pq_sets entry (record a { orderer = o }) n b settles (subst (λ (k : OrdererData). CutsPqSets k.log.low k.pq_sets k.pq_sets) (sym says.new_is) above))

  counted_is_log : IsLog counted
  counted_is_log = subst (λ (k : OrdererData). IsLog k.log) says.new_is is_log

  chosen : KeepsChoice a.orderer (checking a.orderer entry n.orderer.pq_sets)
  chosen =
      let k = settled_choice entry (record a { orderer = o }) n b settles in
      record {
        received = refl;
        spent = refl;
        logged = λ pq_entry has. subst (λ (x : OrdererData). Has (λ y. y ≡ pq_entry) x.pq_sets.logged) says.new_is (k.logged pq_entry has);
      }

  abbrev noted : OrdererData
  noted = checking a.orderer entry n.orderer.pq_sets

  due_stands : (c : Configuration) (s : Start) → Gives c a.orderer → IsVotedAll a.orderer.log
      → PartsFitEvent c s a.orderer a.desk (checkpoint_due c a.desk.executed.state) x → PartsFitEvent c s n.orderer n.desk [] y
  due_stands c s known voted st =
      subst (λ (k : OrdererData). PartsFitEvent c s k n.desk [] y) (sym orderer_is)
      (subst (λ (k : DeskData). PartsFitEvent c s (checking a.orderer entry n.orderer.pq_sets) k [] y) (sym desk_is) (record {
        is = record {
          members_are = st.is.members_are;
          period_is = st.is.period_is;
          rests = st.is.rests;
          calls = st.is.calls;
          differ = st.is.differ;
        };
        fits = subst (λ (xs : List Snapshot). FitsEvent c a.desk.me s noted (record (desk_of c a.desk) { snapshots = xs }) a.desk.waiting [] y)
            (snapshots_are (ap (λ (d : Desk). d.snapshots) above))
            (subst (λ (m : ℕ). FitsEvent c m s noted (desk_from noted.log.low (desk_of c a.desk)) a.desk.waiting [] y) (sym one.0)
            (says_due c s a.orderer (desk_of c a.desk) a.desk.waiting entry n.orderer.pq_sets x y known says.says voted
            (subst (λ (m : ℕ). FitsEvent c m s a.orderer (desk_of c a.desk) a.desk.waiting (Checkpoint entry.number entry.digest ∷ []) x) one.0 fits) pq_sets_are
            (ap (λ (e : CheckpointEntry). e.number) due.is)));
      }))
    where
      fits : FitsEvent c a.desk.me s a.orderer (desk_of c a.desk) a.desk.waiting (Checkpoint entry.number entry.digest ∷ []) x
      fits = subst (λ (ms : List Message). FitsEvent c a.desk.me s a.orderer (desk_of c a.desk) a.desk.waiting ms x)
          (due_when c a.desk true st.is.period_is due.due ∙ ap (λ (e : CheckpointEntry). Checkpoint e.number e.digest ∷ []) (sym due.is)) st.fits

      above : desk_from a.orderer.log.low (desk_of c a.desk) ≡ (desk_of c a.desk)
      above = kept_are_above c a.desk.me (desk_of c a.desk) a.orderer.log st.fits.fits.of_desk.states (after_outputs s (given a.desk.me x)) st.fits.fits.of_log st.fits.fits.of_desk.kept

  pub says_due_checkpoint : MulticastsDueCheckpoint a x n y
  says_due_checkpoint = record {
    stands = due_stands;
    party = record {
      orderer = subst (λ (k : OrdererData). IsSameOrderer a.orderer k) (sym orderer_is) (record { endpoint = refl; log = same_checked a.orderer.log entry; target = refl; choice = λ off. chosen });
      me = ap (λ (d : DeskData). d.me) desk_is;
      membership = ap (λ (d : DeskData). d.membership) desk_is;
    };
    used = ap (λ (k : OrdererData). k.used) orderer_is;
    desk = desk_is;
    voted = λ voted. subst (λ (k : OrdererData). IsVotedAll k.log) (sym orderer_is) (either IsVotedAll counted entry voted (cut_voted counted entry.number counted_is_log voted));
    commits = subst (λ (k : OrdererData). CommitsNoMore a.orderer.log k.log) (sym orderer_is)
        (either (CommitsNoMore a.orderer.log) counted entry (λ i text h. h) (cut_commits counted entry.number counted_is_log));
  }
