use Rattle.std.proofs.Common.{sym}
use Rattle.std.specs.Prelude.{codes}
use Rattle.wire_format.specs.Views.{checkpoint_entry_data}
use Rattle.trace_text.specs.Frames.{shown_checkpoint_entry}
use Rattle.std.proofs.lemmas.Bool.{eqb-false}
use Rattle.std.proofs.lemmas.Result.{err_from_is_err_and}
use Rattle.trace_text.proofs.Joined.{none_yet, one_more_at, stopped, all_listed}
use Rattle.trace_text.proofs.lists.put_checkpoints.Goals as goal

pub loop-item-init : goal.loop-item-init
loop-item-init c = none_yet (codes ",") (λ entry. shown_checkpoint_entry (checkpoint_entry_data entry)) c.args.out.now.items

pub returns-in_err-put_checkpoint : goal.returns-in_err-put_checkpoint
returns-in_err-put_checkpoint c =
    let p = err_from_is_err_and c.from_residual.result c.from_residual.ensures.1 in
    rw (p.1) (stopped (codes ",") (λ entry. shown_checkpoint_entry (checkpoint_entry_data entry)) c.args.out.now.items c.loop-item.out.items _ _ _ c.loop-item.invariant c.in_err-put_checkpoint.ensures)

pub loop-item-preserved : goal.loop-item-preserved
loop-item-preserved c =
    one_more_at (codes ",") (λ entry. shown_checkpoint_entry (checkpoint_entry_data entry)) c.args.out.now.items c.loop-item.out.items _ c.put_checkpoint.new.out.items c.args.items.now c.loop-item.item-index _
    c.loop-item-test.true c.loop-item.invariant c.in_ok-put_checkpoint.ensures

pub returns : goal.returns
returns c =
    all_listed (codes ",") (λ entry. shown_checkpoint_entry (checkpoint_entry_data entry)) (codes "-") c.args.out.now.items c.loop-item.out.items _ c.args.items.now c.loop-item.item-index c.loop-item-test.false (eqb-false _ 0 (sym (c.if-is_empty.ensures {u = tt}))) c.loop-item.invariant
