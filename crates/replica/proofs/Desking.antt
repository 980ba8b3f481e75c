-- What a desk does fits: its replies, and its executions.
use Rattle.std.proofs.Common.{◌≡◌, ◌≢◌, ℕ, suc, ◌+◌, ◌≤◌, List, [], ◌∷◌, ◌++◌, map, filter, Option, option_map, Some, refl, sym, ap, ◌∙◌, subst, nat_lt, eq-eqb}
use Rattle.std.proofs.lemmas.List.Kept.{AllPairs-filter}
use Rattle.std.proofs.lemmas.Simd.{map-map}
use Rattle.state_transfer.specs.Transfer.{TransferData}
use Rattle.terms.specs.declared.order.Timestamp.{Timestamp}
use Rattle.terms.specs.declared.parties.ClientId.{ClientId}
use Rattle.wire_format.specs.Messages.{MessageData as Message}
use Rattle.wire_format.specs.Words.{requests_of}
use Rattle.reply_cache.specs.Replies.{Kept}
use Rattle.events.specs.declared.output.Output.{Output}
use Rattle.events.specs.declared.output.Output.TheVariants as outputs
use Rattle.events.specs.Outputs.{entry_of, IsSentAsMeant}
use Rattle.execution.specs.declared.running.Ran.{Ran}
use Rattle.execution.specs.Executed.{ExecutedData, IsAfter, told, told_of}
use Rattle.ordering.specs.Log as logs
use Rattle.protocol.specs.System.Configuration.{Configuration}
use Rattle.protocol.specs.System.Trace.{Entry, Has}
use Rattle.protocol.specs.System.Trace.Entry.{Executed, Sent}
use Rattle.protocol.specs.Replica.State.{State, IsReplicatedState, Call, call_of, Ran as RanData, execute, kept_of, last_time, ran_in}
use Rattle.protocol.specs.Replica.RightReplica.{reply_of, still_waiting}
use Rattle.protocol.proofs.Words.Elements.{each_filtered, has_filter, has_map, has_mapped}
use Rattle.replica_histories.specs.Desk.{Desk, Snapshot}
use Rattle.replica_histories.specs.Events as events
use Rattle.replica_histories.specs.Events.{Start, after_outputs}
use Rattle.replica_histories.specs.Inputs.{again_for}
use Rattle.replica_histories.specs.Outputs.{checkpoint_due, executed_desk, replies_to, snapshots_behind}
use Rattle.replica_histories.specs.Transfers.{still_open}
use Rattle.replica_histories.proofs.Giving.{replies_fit}
use Rattle.replica_histories.proofs.Executing.{executes_fit}
use Rattle.replica_histories.specs.Numbers.{NoneFalls}
use Rattle.replica_histories.proofs.NumbersLists.{mapped_kept}
use Rattle.replica_histories.proofs.NumbersWaiting.{executions_raise}
use Rattle.replica_histories.proofs.ChangesKept.{sent_keep, silent_keep}
use Rattle.desk.specs.declared.waiting.WaitingRequest.{WaitingRequest}
use Rattle.desk.specs.Keeping.{AreFew}
use Rattle.orderer.specs.State.{OrdererData}
use Rattle.desk.specs.State.{DeskData, IsDesk}
use Rattle.desk.specs.Waiting.{frames_waiting, is_new, forgotten}
use Rattle.orderer.specs.Flags.{FitsFlags}
use Rattle.replica.specs.Desks.{PartsFitEvent}
use Rattle.orderer.specs.Fitting.{FitsWaiting, FitsEvent, given}
use Rattle.desk.specs.Desking.{RepliesAgain, RepliesToAll, RunsBatch, RunsWhole, SendsReply, snapshots_with}
use Rattle.desk.specs.DeskOf.{waiting_call, waiting_calls, desk_of, SpellCalls, IsDeskOf}
use Rattle.desk.proofs.Running.{behind_run}
use Rattle.orderer.proofs.Staying.{EmitsOne, emits_one, changes_still, executed_beside, fits_behind, fits_on, numbers_beside, sent_beside}
use Rattle.replica.proofs.Newest.{all_kept, all_with}
use Rattle.orderer.proofs.Parties.{same_log}
use Rattle.orderer.proofs.Flags.{flags_forgotten}
use Rattle.replica.proofs.Closing.{above_same, rests_above}

-- ---- replies

-- If an event stands with the messages `due`, it stands with `rest` after these outputs, whatever the orderer.
abbrev pub Pays : DeskData → List Message → List Output → List Message → List Output → Type 0
Pays d due before rest after =
    (c : Configuration) (s : Start) (o : OrdererData) → PartsFitEvent c s o d due before
    → PartsFitEvent c s o d rest after

-- the reply to a request that ran
abbrev reply_for : ℕ × Kept → Message
reply_for p = reply_of p.0 p.1

abbrev replies_for : List Ran → List Message
replies_for ran = map (λ r. reply_for (told r)) ran

pub pays_one : (d : DeskData) (client : ClientId) (kept : Kept) (before after : List Output) → SendsReply d client kept before after → (rest : List Message)
    → Pays d (reply_of client.number kept ∷ rest) before rest after
pays_one d client kept before after r rest c s o st = record {
  is = st.is;
  fits = fits_on c d.me s o o (desk_of c d) d.waiting (reply ∷ rest) rest before after (Sent d.me r.sends_frame.bytes)
      (emits_one c d.me before after r.output (Sent d.me r.sends_frame.bytes) r.given_is r.sends_frame.sends (r.sends_frame.meant c st.is.members_are))
      (sent_beside c d.me reply ((256 + client.number) ∷ []) r.sends_frame.bytes (after_outputs s (given d.me before)) tt (r.sends_frame.is_outgoing c st.is.members_are))
      (sent_keep c d.me (after_outputs s (given d.me before)) reply r.sends_frame.bytes (r.sends_frame.is_outgoing c st.is.members_are).says tt (λ signed. absurd cc)) (same_log o.log) refl refl refl refl st.fits
      (replies_fit c d.me s (desk_of c d) o.log rest (given d.me before) client.number kept r.sends_frame.bytes (r.sends_frame.is_outgoing c st.is.members_are) st.fits.fits);
}
  where
    reply : Message
    reply = reply_of client.number kept

-- The desk sends each due reply, before all else that is due.
pays_all : (d : DeskData) (ran : List Ran) (x y : List Output) → RepliesToAll d ran x y → (rest : List Message) → Pays d (replies_for ran ++ rest) x rest y
pays_all d [] x y same rest c s o st = subst (λ (outs : List Output). PartsFitEvent c s o d rest outs) (sym same) st
pays_all d (r ∷ ran) x y (between, says, replies) rest c s o st =
    pays_all d ran between y replies rest c s o (pays_one d r.client (told r).1 x between says (replies_for ran ++ rest) c s o st)

-- The kept reply to the client goes again, if it has this timestamp, and nothing else is due.
abbrev pub PaysAgain : DeskData → ClientId → Timestamp → List Output → List Output → Type 0
PaysAgain d client timestamp before after =
    Pays d (again_for client.number timestamp.0 (kept_of d.executed.state client.number)) before [] after

pays_again : (d : DeskData) (client : ClientId) (t : ℕ) (kept : Kept) (x y : List Output) → kept_of d.executed.state client.number ≡ Some kept → kept.timestamp ≡ t → SendsReply d client kept x y
    → Pays d (again_for client.number t (kept_of d.executed.state client.number)) x [] y
pays_again d client t kept x y has same r c s o st = pays_one d client kept x y r [] c s o (subst (λ (ms : List Message). PartsFitEvent c s o d ms x) due st)
  where
    due : again_for client.number t (kept_of d.executed.state client.number) ≡ reply_of client.number kept ∷ []
    due = rw (has, eq-eqb kept.timestamp t same) refl

pub pays_kept : (d : DeskData) (client : ClientId) (timestamp : Timestamp) (x y : List Output) → RepliesAgain d client timestamp x y → PaysAgain d client timestamp x y
pays_kept d client timestamp x y (kept, has, same, says) = pays_again d client timestamp.0 kept x y has same says

-- ---- waiting requests

-- A desk with the waiting requests that are newer than a later state.
pub frames_behind : (later : State) (d : DeskData) (frame : List ℕ) → Has (λ x. x ≡ frame) (frames_waiting (forgotten later d.waiting)) → Has (λ x. x ≡ frame) (frames_waiting d.waiting)
frames_behind later d frame h =
    has_mapped (λ x. x ≡ frame) (λ (r : WaitingRequest). r.frame.items) d.waiting.requests
    (has_filter (λ (r : WaitingRequest). r.frame.items ≡ frame) (is_new later) d.waiting.requests (has_map (λ x. x ≡ frame) (λ (r : WaitingRequest). r.frame.items) (forgotten later d.waiting).requests h))

pub calls_behind : (c : Configuration) (later : State) (rs : List WaitingRequest) → still_waiting later (waiting_calls c rs) ≡ waiting_calls c (filter (is_new later) rs)
calls_behind c later rs = sym (mapped_kept (waiting_call c) (λ x. nat_lt (last_time later x.client) x.timestamp) rs)

pub spelled_behind : (c : Configuration) (later : State) (rs : List WaitingRequest) → SpellCalls c rs → SpellCalls c (filter (is_new later) rs)
spelled_behind c later rs h =
    each_filtered (λ (r : WaitingRequest). call_of c r.frame.items ≡ Some (waiting_call c r)) (λ r. call_of c r.frame.items ≡ Some (waiting_call c r)) (is_new later) (λ r e x. x) rs h

-- ---- an execution

replies_same : (ran : List Ran) (rs : List RanData) → map told ran ≡ map told_of rs → replies_to rs ≡ replies_for ran
replies_same ran rs e = sym (map-map reply_for told_of rs) ∙ ap (map reply_for) (sym e) ∙ map-map reply_for told ran

-- an execution of the text at a desk that stands, with the history's configuration and desk
record Run (c : Configuration) (d : DeskData) (text : List ℕ) (ran : List Ran) (executed : ExecutedData) : Type 0 where
  is : IsDeskOf c d
  ex : IsAfter c d.executed text (map told ran) executed
  number : executed.state.number ≡ suc d.executed.state.number
  kept : snapshots_with d.period executed.state d.snapshots ≡ all_with d.period executed.state d.snapshots
  is_state : IsReplicatedState d.executed.state
  few : c.clients ≤ 256

module _ (c : Configuration) (d : DeskData) (text : List ℕ) (ran : List Ran) (executed : ExecutedData) (r : Run c d text ran executed) where
  abbrev old : State
  old = d.executed.state

  abbrev later : DeskData
  later = behind_run d executed

  abbrev calls : List Call
  calls = waiting_calls c d.waiting.requests

  run_is : IsDeskOf c later
  run_is = record {
    members_are = r.is.members_are;
    period_is = r.is.period_is;
    rests = rests_above old executed.state d.transfer r.number r.is.rests;
    calls = spelled_behind c executed.state d.waiting.requests r.is.calls;
    differ = AllPairs-filter (λ (x y : WaitingRequest). x.client.number ≢ y.client.number) (is_new executed.state) d.waiting.requests r.is.differ;
  }

  -- the history's desk then, by parts that the state leaves
  abbrev desk_at : (State → List Snapshot) → (State → List Call) → State → Desk
  desk_at kept waiting st = record {
    state = st;
    snapshots = kept st;
    waiting = waiting st;
    frames = frames_waiting later.waiting;
    transfer = still_open st.number (option_map (λ o. o.transfer) d.transfer);
  }

  run_desk : executed_desk c (desk_of c d) text (frames_waiting later.waiting) ≡ desk_of c later
  run_desk =
      ap (desk_at (λ st. snapshots_behind c st d.snapshots) (λ st. still_waiting st calls)) (sym r.ex.state)
      ∙ ap (λ (n : ℕ). desk_at (λ st. all_with n st d.snapshots) (λ st. still_waiting st calls) executed.state) r.is.period_is
      ∙ ap (λ (xs : List Snapshot). desk_at (λ st. xs) (λ st. still_waiting st calls) executed.state) (sym r.kept)
      ∙ ap (λ (xs : List Call). desk_at (λ st. later.snapshots) (λ st. xs) executed.state) (calls_behind c executed.state d.waiting.requests)
      ∙ ap (λ (t : Option TransferData). record (desk_of c later) { transfer = t }) (above_same executed.state.number d.transfer)

  run_due : replies_to (ran_in c (suc old.number) old (requests_of text)) ++ checkpoint_due c (execute c old text) ≡ replies_for ran ++ checkpoint_due c executed.state
  run_due =
      ap (λ (ms : List Message). ms ++ checkpoint_due c (execute c old text)) (replies_same ran (ran_in c (suc old.number) old (requests_of text)) r.ex.ran)
      ∙ ap (λ (x : State). replies_for ran ++ checkpoint_due c x) (sym r.ex.state)

  module _ (s : Start) (o : OrdererData) (before after : List Output) (gives : EmitsOne c d.me before after (Executed d.me (suc old.number) text))
      (committed : logs.committed_batch o.log (suc old.number) ≡ Some text) (f : FitsEvent c d.me s o (desk_of c d) d.waiting [] before) where
    abbrev e : Entry
    e = Executed d.me (suc old.number) text

    abbrev past : List Entry
    past = after_outputs s (given d.me before)

    abbrev due : List Message
    due = replies_for ran ++ checkpoint_due c executed.state

    run_on : events.BothFitWithinEvent c d.me s (desk_of c later) o.log due (e ∷ given d.me before)
    run_on = subst (λ (desk : Desk). events.BothFitWithinEvent c d.me s desk o.log due (e ∷ given d.me before)) run_desk
        (subst (λ (ms : List Message). events.BothFitWithinEvent c d.me s (executed_desk c (desk_of c d) text (frames_waiting later.waiting)) o.log ms (e ∷ given d.me before)) run_due
        (executes_fit c d.me s (desk_of c d) o.log (given d.me before) text (frames_waiting later.waiting) r.is_state r.few committed (frames_behind executed.state d) f.fits))

    -- which waiting requests have numbers
    run_numbers : FitsWaiting c d.me o later.waiting (desk_of c later) (e ∷ past)
    run_numbers own =
        subst (λ (xs : List Call). FitsFlags c d.me o.log.view o.used later.waiting executed.state xs (e ∷ past)) (calls_behind c executed.state d.waiting.requests)
        (flags_forgotten c d.me o.log.view o.used d.waiting old executed.state calls (e ∷ past) (subst (NoneFalls old) (sym r.ex.state) (executions_raise c old text))
        (numbers_beside c d.me d.waiting o (desk_of c d) past e f.fits.of_log.faults f.fits.of_log.own (executed_beside c d.me (suc old.number) text past) f.numbers own))

    run_fits : FitsEvent c d.me s o (desk_of c later) later.waiting due after
    run_fits =
        fits_behind c d.me s o o (desk_of c d) (desk_of c later) d.waiting later.waiting [] due before after e gives refl f run_on run_numbers
        (changes_still c d.me s o o (desk_of c d) (desk_of c later) [] due (given d.me before) e f.fits run_on
        (silent_keep c d.me past e tt) (same_log o.log) refl refl f.changes)

-- an execution is no frame
executions_meant : (c : Configuration) (me number : ℕ) (text : List ℕ) (output : Output) → entry_of me output ≡ Executed me number text → IsSentAsMeant c me output
executions_meant c me number text (outputs.Send receivers frame) e = absurd cc
executions_meant c me number text _ e = tt

run_stands : (d : DeskData) (executed : ExecutedData) (text : List ℕ) (ran : List Ran) (output : Output) (before after : List Output) (c : Configuration) (s : Start) (o : OrdererData) → IsDesk d → IsReplicatedState d.executed.state → c.clients ≤ 256 → AreFew d.snapshots → IsAfter c d.executed text (map told ran) executed
    → executed.state.number ≡ suc d.executed.state.number → entry_of d.me output ≡ Executed d.me (suc d.executed.state.number) text → after ≡ before ++ output ∷ []
    → logs.committed_batch o.log (suc d.executed.state.number) ≡ Some text → PartsFitEvent c s o d [] before
    → PartsFitEvent c s o (behind_run d executed) (replies_for ran ++ checkpoint_due c executed.state) after
run_stands d executed text ran output before after c s o own is_state clients few ex number entry more committed st = record {
  is = run_is c d text ran executed run;
  fits = run_fits c d text ran executed run s o before after
      (emits_one c d.me before after output (Executed d.me (suc d.executed.state.number) text) more entry (executions_meant c d.me (suc d.executed.state.number) text output entry)) committed st.fits;
}
  where
    run : Run c d text ran executed
    run = record { is = st.is; ex = ex; number = number; kept = all_kept c s o d before text executed.state own few number committed st; is_state = is_state; few = clients }

runs_batch : (old new : DeskData) (text : List ℕ) (ran : List Ran) (before after : List Output) → RunsBatch old text before new ran after → (c : Configuration) (s : Start) (o : OrdererData)
    → logs.committed_batch o.log (suc old.executed.state.number) ≡ Some text → PartsFitEvent c s o old [] before → PartsFitEvent c s o new (replies_for ran ++ checkpoint_due c new.executed.state) after
runs_batch old new text ran before after r c s o committed st =
    subst (λ (d : DeskData). PartsFitEvent c s o d (replies_for ran ++ checkpoint_due c new.executed.state) after) (sym r.same)
    (run_stands old new.executed text ran r.output before after c s o r.held.is r.held.is_state (subst (λ (n : ℕ). n ≤ 256) (sym clients) r.held.clients) r.held.few (r.executes c clients) r.number r.entry_is r.given_is committed st)
  where
    clients : c.clients ≡ old.executed.clients
    clients = ap (λ m. m.clients) st.is.members_are ∙ sym r.held.is.0

-- What stood at the committed batch of the next number stands, with the checkpoint of the new state due.
pub record RunsOn (old : DeskData) (text : List ℕ) (before : List Output) (new : DeskData) (after : List Output) : Type 0 where
  pub membership : new.membership ≡ old.membership
  pub me : new.me ≡ old.me
  pub waiting : new.waiting ≡ forgotten new.executed.state old.waiting
  pub number : new.executed.state.number ≡ suc old.executed.state.number
  pub stands : (c : Configuration) (s : Start) (o : OrdererData)
      → logs.committed_batch o.log (suc old.executed.state.number) ≡ Some text → PartsFitEvent c s o old [] before
      → PartsFitEvent c s o new (checkpoint_due c new.executed.state) after

pub runs_on : (old new : DeskData) (text : List ℕ) (before after : List Output) → RunsWhole old text before new after → RunsOn old text before new after
runs_on old new text before after r = record {
  membership = ap (λ (d : DeskData). d.membership) r.runs.same;
  me = ap (λ (d : DeskData). d.me) r.runs.same;
  waiting = ap (λ (d : DeskData). d.waiting) r.runs.same;
  number = r.runs.number;
  stands = λ c s o committed st.
      pays_all new r.ran r.between after r.replies (checkpoint_due c new.executed.state) c s o
      (runs_batch old new text r.ran before r.between r.runs c s o committed st);
}
