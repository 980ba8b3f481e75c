use Rattle.std.proofs.Common.{◌∙◌, ap, sym, arith}
use Rattle.tuple_tree.specs.Reading.{Reader, rest_of}
use Rattle.std.specs.Prelude.{ℕ, List}
use Rattle.wire_format.specs.Lists.{listed}
use Rattle.wire_format.specs.Spelling.{sender_before}
use Rattle.wire_format.specs.Reading.{passing, piece_at, is_change}
use Rattle.wire.proofs.Carrying.{changes_from, changes_uncounted}
use Rattle.wire.proofs.Skipping.{skip_goes_on, skip_ends, skip_refuses, skip_done}
use Rattle.wire.proofs.carried.skip_changes.Goals as goal

abbrev change_at : Reader (List ℕ)
change_at = passing is_change piece_at

pub returns-in_err-count : goal.returns-in_err-count
returns-in_err-count c = rw c.from_residual.ensures (ap rest_of (changes_uncounted c.args.bytes.now (c.in_err-count.ensures {u = tt})))

pub returns-in_err-change : goal.returns-in_err-change
returns-in_err-change c =
    rw c.from_residual-in_err-change.ensures
    (ap rest_of (changes_from c.args.bytes.now c.in_ok-count.front.now c.in_ok-count.count c.in_ok-count.ensures (omega arith) (omega arith)) ∙ sym c.loop-i.invariant
    ∙ skip_ends change_at sender_before _ _ (listed (λ x. x.now) c.loop-i.last) c.loop-i.rest.now (omega arith) (c.in_err-change.ensures {u = tt}))

pub returns-then-not-change_comes_next : goal.returns-then-not-change_comes_next
returns-then-not-change_comes_next c =
    ap rest_of (changes_from c.args.bytes.now c.in_ok-count.front.now c.in_ok-count.count c.in_ok-count.ensures (omega arith) (omega arith)) ∙ sym c.loop-i.invariant
    ∙ skip_refuses change_at sender_before _ _ (listed (λ x. x.now) c.loop-i.last) c.in_ok-change.change.now c.loop-i.rest.now c.in_ok-change.after.now (omega arith) c.in_ok-change.ensures (sym c.change_comes_next.ensures ∙ c.if-not-change_comes_next.true)

pub loop-i-preserved : goal.loop-i-preserved
loop-i-preserved c =
    skip_goes_on change_at sender_before _ _ (listed (λ x. x.now) c.loop-i.last) c.in_ok-change.change.now c.loop-i.rest.now c.in_ok-change.after.now (omega arith) c.in_ok-change.ensures (sym c.change_comes_next.ensures ∙ c.if-not-change_comes_next.false)
    ∙ c.loop-i.invariant

pub returns : goal.returns
returns c =
    ap rest_of (changes_from c.args.bytes.now c.in_ok-count.front.now c.in_ok-count.count c.in_ok-count.ensures (omega arith) (omega arith)) ∙ sym c.loop-i.invariant
    ∙ skip_done change_at sender_before _ _ (listed (λ x. x.now) c.loop-i.last) c.loop-i.rest.now (omega arith)
