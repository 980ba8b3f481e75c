use Rattle.std.proofs.Common.{◌∙◌, ap, sym, arith}
use Rattle.tuple_tree.specs.Reading.{rest_of}
use Rattle.wire_format.specs.Reading.{batch_text_at}
use Rattle.wire.proofs.Steps.{batches_from}
use Rattle.wire.proofs.Carrying.{skip_goes_on}
use Rattle.wire.proofs.InPlace.{skip_stops, skip_ended, batches_uncounted, batches_many}
use Rattle.wire.proofs.carried.skip_batches.Goals as goal

pub returns-in_err-count : goal.returns-in_err-count
returns-in_err-count c = rw c.from_residual.ensures (ap rest_of (batches_uncounted c.args.bytes.now (c.in_err-count.ensures {u = tt})))

pub returns-then-count-gt-MAX_BATCHES : goal.returns-then-count-gt-MAX_BATCHES
returns-then-count-gt-MAX_BATCHES c = ap rest_of (batches_many c.args.bytes.now c.in_ok-count.front.now c.in_ok-count.count c.in_ok-count.ensures (omega arith))

pub returns-in_err-_text : goal.returns-in_err-_text
returns-in_err-_text c =
    rw c.from_residual-in_err-_text.ensures
    (ap rest_of (batches_from c.args.bytes.now c.in_ok-count.front.now c.in_ok-count.count c.in_ok-count.ensures (omega arith)) ∙ sym c.loop-i.invariant ∙ skip_stops (batch_text_at 0) _ _ _ (omega arith) (c.in_err-_text.ensures {u = tt}))

pub loop-i-preserved : goal.loop-i-preserved
loop-i-preserved c = skip_goes_on (batch_text_at 0) _ _ _ _ (omega arith) (ap rest_of c.in_ok-_text.ensures) ∙ c.loop-i.invariant

pub returns : goal.returns
returns c = ap rest_of (batches_from c.args.bytes.now c.in_ok-count.front.now c.in_ok-count.count c.in_ok-count.ensures (omega arith)) ∙ sym c.loop-i.invariant ∙ skip_ended (batch_text_at 0) _ _ _ (omega arith)
