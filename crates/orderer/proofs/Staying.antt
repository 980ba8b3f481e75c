-- What stays after an output that is no pre-prepare: which requests have numbers, that the last checkpoint was sent,
-- and the view-change data.
use Rattle.std.proofs.Common.{◌≡◌, ℕ, List, [], ◌∷◌, ◌++◌, map, reverse, ap, ◌∙◌, false, Option, None, inr, refl, sym, subst, arith}
use Rattle.std.proofs.lemmas.List.{map-append, reverse-append}
use Rattle.events.specs.declared.output.Output.{Output}
use Rattle.events.specs.Outputs.{entry_of, IsSentAsMeant, AreSentAsMeant}
use Rattle.events.proofs.Meant.{one_more_meant}
use Rattle.protocol.specs.System.Configuration.{Configuration}
use Rattle.protocol.specs.System.Trace.{Entry, party_of}
use Rattle.orderer.specs.Fitting.{given, FitsWaiting, WasSent, FitsEvent, changes_held}
use Rattle.std.specs.Prelude.{option_and_then, ⊤}
use Rattle.std.specs.Option.{option_map_or}
use Rattle.std.specs.Bool.{then_some}
use Rattle.wire_format.specs.Messages.{BodyData as Body, MessageData as Message, CheckpointEntryData as CheckpointEntry, NewViewData, pre_prepare as PrePrepare, new_view as NewView}
use Rattle.ordering.specs.Log as logs
use Rattle.ordering.specs.Log.{Row, LogData}
use Rattle.protocol.specs.System.Frames.{IsOutgoing}
use Rattle.protocol.specs.System.Trace.Entry.{Executed, Installed, Sent}
use Rattle.protocol.specs.Replica.Certificates.{view, target, is_later, new_view_from, taken}
use Rattle.replica_histories.specs.Desk.{Desk}
use Rattle.replica_histories.specs.Events as events
use Rattle.replica_histories.specs.Events.{Start, after_outputs}
use Rattle.replica_histories.specs.Numbers.{KeepsNumbers, is_pre_prepare, sends_pre_prepare}
use Rattle.replica_histories.specs.Changes.{Changes, CutsPqSets, FitsChanges, KeepsChanges}
use Rattle.replica_histories.proofs.NumbersKept.{others_keep_numbers}
use Rattle.replica_histories.proofs.Words.{primary_same}
use Rattle.orderer.specs.State.{OrdererData}
use Rattle.desk.specs.Waiting.{WaitingData}
use Rattle.orderer.specs.Flags.{FitsFlags}
use Rattle.orderer.specs.Going.{IsSameLog}
use Rattle.orderer.proofs.Flags.{flags_stay}
use Rattle.replica_histories.proofs.ChangesPassing.{changes_stay, pq_sets_are_above, outputs_pass}

pub given_one : (me : ℕ) (outs more : List Output) (o : Output) → more ≡ outs ++ o ∷ [] → given me more ≡ entry_of me o ∷ given me outs
given_one me outs more o same =
    ap (given me) same ∙ ap reverse (map-append (entry_of me) outs (o ∷ [])) ∙ reverse-append (map (entry_of me) outs) (entry_of me o ∷ [])

-- The event has one output more, of this entry. If it is a frame, it goes to the parties for whom it is.
pub record EmitsOne (c : Configuration) (me : ℕ) (before after : List Output) (e : Entry) : Type 0 where
  pub is : given me after ≡ e ∷ given me before
  pub meant : AreSentAsMeant c me before → AreSentAsMeant c me after

pub emits_one : (c : Configuration) (me : ℕ) (before after : List Output) (output : Output) (e : Entry) → after ≡ before ++ output ∷ [] → entry_of me output ≡ e → IsSentAsMeant c me output
    → EmitsOne c me before after e
emits_one c me before after output e more same meant = record {
  is = given_one me before after output more ∙ ap (λ (x : Entry). x ∷ given me before) same;
  meant = one_more_meant c me before after output more meant;
}

-- ---- entries that assign no number

-- the replica's own, with no new view that is taken and no pre-prepare
pub record IsBeside (c : Configuration) (me : ℕ) (past : List Entry) (e : Entry) : Type 0 where
  pub here : party_of e ≡ me
  pub none : taken c past e ≡ None
  pub sends : sends_pre_prepare e ≡ false

-- messages that are no pre-prepare and no new view
abbrev pub AssignsNoNumber : Message → Type 0
AssignsNoNumber message = elim message [ PrePrepare v i batch ↦ ⊥ | NewView new ↦ ⊥ | _ ↦ ⊤ ]

begins_none : (c : Configuration) (me : ℕ) (message : Message) → AssignsNoNumber message → new_view_from c (record { sender = me; message = message }) ≡ None
begins_none c me (NewView new) h = absurd h
begins_none c me _ h = refl

proposes_none : (message : Message) → AssignsNoNumber message → is_pre_prepare message ≡ false
proposes_none (PrePrepare v i batch) h = absurd h
proposes_none _ h = refl

pub sent_beside : (c : Configuration) (me : ℕ) (message : Message) (receivers bytes : List ℕ) (past : List Entry) → AssignsNoNumber message → IsOutgoing c me message receivers bytes → IsBeside c me past (Sent me bytes)
sent_beside c me message receivers bytes past none is_outgoing = record {
  here = refl;
  none = ap (option_and_then (λ (new : NewViewData). then_some (is_later (view c past) (target past) new) new))
      (ap (option_and_then (new_view_from c)) is_outgoing.says ∙ begins_none c me message none);
  sends = ap (λ (o : Option Body). option_map_or (λ (b : Body). is_pre_prepare b.message) o false) is_outgoing.says ∙ proposes_none message none;
}

pub executed_beside : (c : Configuration) (me number : ℕ) (batch : List ℕ) (past : List Entry) → IsBeside c me past (Executed me number batch)
executed_beside c me number batch past = record { here = refl; none = refl; sends = refl }

pub installed_beside : (c : Configuration) (me number : ℕ) (root : List ℕ) (past : List Entry) → IsBeside c me past (Installed me number root)
installed_beside c me number root past = record { here = refl; none = refl; sends = refl }

-- ---- what stays

-- with other rows the log is the same, and so with other checkpoints
pub same_rows : (m : LogData) (rows : List Row) → IsSameLog m (record m { rows = rows })
same_rows m rows = record { me = refl; faults = refl; span = refl; view = refl; active = refl; low = omega arith }

pub same_but_checkpoints : (m : LogData) (checkpoints : List (List CheckpointEntry)) → IsSameLog m (record m { checkpoints = checkpoints })
same_but_checkpoints m checkpoints = record { me = refl; faults = refl; span = refl; view = refl; active = refl; low = omega arith }

-- the numbers after such an entry
pub keeps_beside : (c : Configuration) (me : ℕ) (log : LogData) (past : List Entry) (e : Entry) → log.faults ≡ c.faults → log.me ≡ me → logs.primary log log.view ≡ log.me → IsBeside c me past e
    → KeepsNumbers c me log.view past e
keeps_beside c me log past e faults is own beside =
    others_keep_numbers c me log.view past e (sym (primary_same c log log.view faults) ∙ own ∙ is) beside.here beside.none beside.sends

pub numbers_beside : (c : Configuration) (me : ℕ) (w : WaitingData) (o : OrdererData) (desk : Desk) (past : List Entry) (e : Entry) → o.log.faults ≡ c.faults → o.log.me ≡ me → IsBeside c me past e
    → FitsWaiting c me o w desk past → FitsWaiting c me o w desk (e ∷ past)
numbers_beside c me w o desk past e faults is beside f own =
    flags_stay c me o.log.view o.used w desk.state desk.waiting past e (keeps_beside c me o.log past e faults is own beside) (f own)

-- and with a log of the same view
pub numbers_alike : (c : Configuration) (me : ℕ) (w : WaitingData) (old new : OrdererData) (desk : Desk) (history : List Entry) → IsSameLog old.log new.log → new.used ≡ old.used
    → FitsWaiting c me old w desk history → FitsWaiting c me new w desk history
numbers_alike c me w old new desk history same used f own =
    let was : logs.primary old.log old.log.view ≡ old.log.me = rw (← same.view, ← same.faults, ← same.me) own in
    subst (λ (v : ℕ). FitsFlags c me v new.used w desk.state desk.waiting history) (sym same.view)
    (subst (λ (u : ℕ). FitsFlags c me old.log.view u w desk.state desk.waiting history) (sym used) (f was))

-- what the replica sent, after any entry
pub said_on : (me : ℕ) (last : Option CheckpointEntry) (past : List Entry) (e : Entry) → WasSent me last past → WasSent me last (e ∷ past)
said_on me last past e h entry is = inr (h entry is)

-- ---- view-change data

-- If the low mark moves, the entries of P and Q up to it are dropped.
pub changes_cut : (c : Configuration) (me : ℕ) (s : Start) (old new : OrdererData) (desk later : Desk) (due rest : List Message) (outputs : List Entry) (e : Entry)
    → events.BothFitWithinEvent c me s desk old.log due outputs → events.BothFitWithinEvent c me s later new.log rest (e ∷ outputs) → KeepsChanges c me (after_outputs s outputs) e → IsSameLog old.log new.log
    → CutsPqSets new.log.low old.pq_sets new.pq_sets → changes_held new ≡ record (changes_held old) { pq_sets = new.pq_sets }
    → FitsChanges c me old.log (changes_held old) (after_outputs s outputs) → FitsChanges c me new.log (changes_held new) (e ∷ after_outputs s outputs)
changes_cut c me s old new desk later due rest outputs e f on keeps same cuts held x =
    subst (λ (y : Changes). FitsChanges c me new.log y (e ∷ after_outputs s outputs)) (sym held)
    (changes_stay c me (after_outputs s outputs) e old.log new.log (changes_held old) new.pq_sets (outputs_pass c me s desk later old.log new.log due rest outputs e f on)
    (record { view = same.view; active = same.active }) keeps cuts x)

-- If it stays, nothing changes.
pub changes_still : (c : Configuration) (me : ℕ) (s : Start) (old new : OrdererData) (desk later : Desk) (due rest : List Message) (outputs : List Entry) (e : Entry)
    → events.BothFitWithinEvent c me s desk old.log due outputs → events.BothFitWithinEvent c me s later new.log rest (e ∷ outputs) → KeepsChanges c me (after_outputs s outputs) e → IsSameLog old.log new.log
    → new.log.low ≡ old.log.low → changes_held new ≡ changes_held old
    → FitsChanges c me old.log (changes_held old) (after_outputs s outputs) → FitsChanges c me new.log (changes_held new) (e ∷ after_outputs s outputs)
changes_still c me s old new desk later due rest outputs e f on keeps same low held x =
    subst (λ (y : Changes). FitsChanges c me new.log y (e ∷ after_outputs s outputs)) (sym held)
    (changes_stay c me (after_outputs s outputs) e old.log new.log (changes_held old) old.pq_sets (outputs_pass c me s desk later old.log new.log due rest outputs e f on)
    (record { view = same.view; active = same.active }) keeps
    (subst (λ (n : ℕ). CutsPqSets n old.pq_sets old.pq_sets) (sym low) (pq_sets_are_above c me old.log (after_outputs s outputs) old.pq_sets f.of_log x.pq_sets)) x)

-- ---- in an event

-- If desk and log fit the history after one output more, and so do the numbers and the view-change data, all fits it.
pub fits_behind : (c : Configuration) (me : ℕ) (s : Start) (old new : OrdererData) (desk later : Desk) (w more : WaitingData) (due rest : List Message) (before after : List Output) (e : Entry)
    → EmitsOne c me before after e → new.last_checkpoint ≡ old.last_checkpoint → FitsEvent c me s old desk w due before
    → events.BothFitWithinEvent c me s later new.log rest (e ∷ given me before) → FitsWaiting c me new more later (e ∷ after_outputs s (given me before))
    → FitsChanges c me new.log (changes_held new) (e ∷ after_outputs s (given me before))
    → FitsEvent c me s new later more rest after
fits_behind c me s old new desk later w more due rest before after e gives last f on numbers changes = record {
  fits = subst (λ (es : List Entry). events.BothFitWithinEvent c me s later new.log rest es) (sym gives.is) on;
  numbers = subst (λ (es : List Entry). FitsWaiting c me new more later (after_outputs s es)) (sym gives.is) numbers;
  said = subst (λ (es : List Entry). WasSent me new.last_checkpoint (after_outputs s es)) (sym gives.is)
      (subst (λ (x : Option CheckpointEntry). WasSent me x (e ∷ after_outputs s (given me before))) (sym last) (said_on me old.last_checkpoint (after_outputs s (given me before)) e f.said));
  changes = subst (λ (es : List Entry). FitsChanges c me new.log (changes_held new) (after_outputs s es)) (sym gives.is) changes;
  meant = gives.meant f.meant;
}

-- So does all after an entry that assigns no number, if the log stays in its view.
pub fits_with : (c : Configuration) (me : ℕ) (s : Start) (old new : OrdererData) (desk : Desk) (w : WaitingData) (due rest : List Message) (before after : List Output) (e : Entry)
    → EmitsOne c me before after e → IsBeside c me (after_outputs s (given me before)) e
    → IsSameLog old.log new.log → new.used ≡ old.used → new.last_checkpoint ≡ old.last_checkpoint
    → FitsChanges c me new.log (changes_held new) (e ∷ after_outputs s (given me before))
    → FitsEvent c me s old desk w due before → events.BothFitWithinEvent c me s desk new.log rest (e ∷ given me before)
    → FitsEvent c me s new desk w rest after
fits_with c me s old new desk w due rest before after e is beside same used last changes f on =
    fits_behind c me s old new desk desk w w due rest before after e is last f on
    (numbers_alike c me w old new desk (e ∷ after_outputs s (given me before)) same used
    (numbers_beside c me w old desk (after_outputs s (given me before)) e f.fits.of_log.faults f.fits.of_log.own beside f.numbers)) changes

-- And if it changes no view-change data, and the low mark stays.
pub fits_on : (c : Configuration) (me : ℕ) (s : Start) (old new : OrdererData) (desk : Desk) (w : WaitingData) (due rest : List Message) (before after : List Output) (e : Entry)
    → EmitsOne c me before after e → IsBeside c me (after_outputs s (given me before)) e → KeepsChanges c me (after_outputs s (given me before)) e
    → IsSameLog old.log new.log → new.log.low ≡ old.log.low → new.used ≡ old.used → new.last_checkpoint ≡ old.last_checkpoint → changes_held new ≡ changes_held old
    → FitsEvent c me s old desk w due before → events.BothFitWithinEvent c me s desk new.log rest (e ∷ given me before)
    → FitsEvent c me s new desk w rest after
fits_on c me s old new desk w due rest before after e is beside keeps same low used last held f on =
    fits_with c me s old new desk w due rest before after e is beside same used last
    (changes_still c me s old new desk desk due rest (given me before) e f.fits on keeps same low held f.changes) f on
