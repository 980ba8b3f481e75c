use Rattle.std.proofs.Common.{◌∙◌, ap, sym, arith}
use Rattle.tuple_tree.specs.Reading.{rest_of}
use Rattle.wire_format.specs.Lists.{listed}
use Rattle.wire_format.specs.Spelling.{checkpoint_entry_before}
use Rattle.wire_format.specs.Views.{checkpoint_entry_data}
use Rattle.wire_format.specs.Reading.{checkpoint_entry_at}
use Rattle.wire.proofs.Steps.{checkpoint_entries_from}
use Rattle.wire.proofs.Skipping.{skip_goes_on, skip_ends, skip_refuses, skip_done, checkpoint_entries_uncounted, checkpoint_entries_many}
use Rattle.wire.proofs.changes.skip_checkpoint_entries.Goals as goal

pub returns-in_err-count : goal.returns-in_err-count
returns-in_err-count c = rw c.from_residual.ensures (checkpoint_entries_uncounted c.args.bytes.now (c.in_err-count.ensures {u = tt}))

pub returns-then-count-gt-MAX_CHECKPOINTS : goal.returns-then-count-gt-MAX_CHECKPOINTS
returns-then-count-gt-MAX_CHECKPOINTS c = checkpoint_entries_many c.args.bytes.now c.in_ok-count.front.now c.in_ok-count.count c.in_ok-count.ensures (omega arith)

pub returns-in_err-entry : goal.returns-in_err-entry
returns-in_err-entry c =
    rw c.from_residual-in_err-entry.ensures
    (ap rest_of (checkpoint_entries_from c.args.bytes.now c.in_ok-count.front.now c.in_ok-count.count c.in_ok-count.ensures (omega arith)) ∙ sym c.loop-i.invariant ∙ skip_ends checkpoint_entry_at checkpoint_entry_before _ _ (listed checkpoint_entry_data c.loop-i.last) c.loop-i.rest.now (omega arith) (c.in_err-entry.ensures {u = tt}))

pub returns-then-not-checkpoint_entry_comes_next : goal.returns-then-not-checkpoint_entry_comes_next
returns-then-not-checkpoint_entry_comes_next c =
    ap rest_of (checkpoint_entries_from c.args.bytes.now c.in_ok-count.front.now c.in_ok-count.count c.in_ok-count.ensures (omega arith)) ∙ sym c.loop-i.invariant
    ∙ skip_refuses checkpoint_entry_at checkpoint_entry_before _ _ (listed checkpoint_entry_data c.loop-i.last) (checkpoint_entry_data c.in_ok-entry.entry) c.loop-i.rest.now c.in_ok-entry.after.now (omega arith) c.in_ok-entry.ensures (sym c.checkpoint_entry_comes_next.ensures ∙ c.if-not-checkpoint_entry_comes_next.true)

pub loop-i-preserved : goal.loop-i-preserved
loop-i-preserved c =
    skip_goes_on checkpoint_entry_at checkpoint_entry_before _ _ (listed checkpoint_entry_data c.loop-i.last) (checkpoint_entry_data c.in_ok-entry.entry) c.loop-i.rest.now c.in_ok-entry.after.now (omega arith) c.in_ok-entry.ensures (sym c.checkpoint_entry_comes_next.ensures ∙ c.if-not-checkpoint_entry_comes_next.false)
    ∙ c.loop-i.invariant

pub returns : goal.returns
returns c = ap rest_of (checkpoint_entries_from c.args.bytes.now c.in_ok-count.front.now c.in_ok-count.count c.in_ok-count.ensures (omega arith)) ∙ sym c.loop-i.invariant ∙ skip_done checkpoint_entry_at checkpoint_entry_before _ _ (listed checkpoint_entry_data c.loop-i.last) c.loop-i.rest.now (omega arith)
