-- The executions of a desk, and their replies.
use Rattle.std.proofs.Common.{◌≡◌, ℕ, suc, ◌+◌, Bool, true, false, cond, List, [], ◌∷◌, ◌++◌, map, refl, sym, ap, ◌∙◌, subst, arith}
use Rattle.events.specs.declared.output.Output.{Output}
use Rattle.events.specs.Outputs.{entry_of}
use Rattle.execution.specs.declared.running.Ran.{Ran}
use Rattle.execution.specs.Executed.{ExecutedData, ExecutesBatchText, told}
use Rattle.protocol.specs.System.Trace.Entry.{Executed}
use Rattle.replica_histories.specs.Desk.{snapshot_of}
use Rattle.desk.specs.Keeping.{newest_with}
use Rattle.desk.specs.State.{DeskData}
use Rattle.desk.specs.Waiting.{WaitingData, forgotten}
use Rattle.desk.specs.Desking.{HoldsState, RepliesToAll, RunsBatch, SendsReply, above_number, checkpoint_is_due, keeping_due, keeping_state, snapshots_with}
use Rattle.desk.specs.Fetching.{closing_reached}

-- ---- executions

-- the desk after an execution that leaves this state
abbrev pub behind_run : DeskData → ExecutedData → DeskData
behind_run d executed = record d {
  executed = executed;
  snapshots = snapshots_with d.period executed.state d.snapshots;
  transfer = above_number executed.state.number d.transfer;
  waiting = forgotten executed.state d.waiting;
}

-- the state is kept if it is due, a reached transfer is closed, and requests that ran wait no more
keeping_is : (d : DeskData) → keeping_due d ≡ record d { snapshots = snapshots_with d.period d.executed.state d.snapshots }
keeping_is d = go (checkpoint_is_due d)
  where
    go : (b : Bool) → cond b (keeping_state d) d ≡ record d { snapshots = cond b (newest_with (snapshot_of d.executed.state) d.snapshots) d.snapshots }
    go true = refl
    go false = refl

pub kept_executed : (d kept : DeskData) → kept ≡ keeping_due d → kept.executed ≡ d.executed
kept_executed d kept is = ap (λ (x : DeskData). x.executed) (is ∙ keeping_is d)

pub ran_so : (old kept new : DeskData) (executed : ExecutedData) (waiting : WaitingData) → kept ≡ keeping_due (record old { executed = executed }) → waiting ≡ forgotten kept.executed.state kept.waiting
    → new ≡ closing_reached (record kept { waiting = waiting }) → new ≡ behind_run old executed
ran_so old kept new executed waiting kept_is waits is =
    is ∙ ap (λ (w : WaitingData). closing_reached (record kept { waiting = w })) waits
    ∙ ap (λ (k : DeskData). closing_reached (record k { waiting = forgotten k.executed.state k.waiting })) (kept_is ∙ keeping_is (record old { executed = executed }))

pub one_more : (n : ℕ) → n + 1 ≡ suc n
one_more n = omega arith

pub runs_batch : (old new : DeskData) (executed : ExecutedData) (text : List ℕ) (ran : List Ran) (output : Output) (before after : List Output) → new ≡ behind_run old executed → HoldsState old
    → ExecutesBatchText old.executed text (map told ran) executed → executed.state.number ≡ old.executed.state.number + 1
    → entry_of old.me output ≡ Executed old.me (suc old.executed.state.number) text → after ≡ before ++ output ∷ [] → RunsBatch old text before new ran after
runs_batch old new executed text ran output before after same held runs number entry more = subst (λ (d : DeskData). RunsBatch old text before d ran after) (sym same) (record {
  held = held;
  same = refl;
  number = number ∙ one_more old.executed.state.number;
  executes = runs;
  output = output;
  entry_is = entry;
  given_is = more;
})

-- ---- replies

-- To reply to those that are left is to reply to all.
abbrev pub RepliesLeft : DeskData → List Ran → List Output → List Ran → List Output → Type 0
RepliesLeft d due before left after = (end : List Output) → RepliesToAll d left after end → RepliesToAll d due before end

pub replies_start : (d : DeskData) (due left : List Ran) (outs : List Output) → left ≡ due → RepliesLeft d due outs left outs
replies_start d due left outs same end h = subst (λ (xs : List Ran). RepliesToAll d xs outs end) same h

pub replies_end : (d : DeskData) (due left : List Ran) (x y : List Output) → left ≡ [] → RepliesLeft d due x left y → RepliesToAll d due x y
replies_end d due left x y none p = p y (subst (λ (xs : List Ran). RepliesToAll d xs y y) (sym none) refl)

pub replies_next : (d cur : DeskData) (due : List Ran) (it : Ran) (xs ys : List Ran) (x y z : List Output) → cur ≡ d → xs ≡ it ∷ ys → RepliesLeft d due x xs y
    → SendsReply cur it.client (told it).1 y z → RepliesLeft d due x ys z
replies_next d cur due it xs ys x y z same items p says end h =
    p end (subst (λ (rs : List Ran). RepliesToAll d rs y end) (sym items) (z, subst (λ (e : DeskData). SendsReply e it.client (told it).1 y z) same says, h))
