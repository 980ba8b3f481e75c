use Rattle.std.proofs.Common.{refl, arith}
use Rattle.std.specs.Prelude.{option_map}
use Rattle.view_change.specs.ReceivedData.{pairs_for}
use Rattle.view_change.specs.ReceivedView.{held_by, held_data}
use Rattle.view_change.specs.Sets.{changes_by_sender}
use Rattle.view_change.proofs.Holding.{pairs_then, one_on, all_on}
use Rattle.view_change.proofs.copying.copy_changes.Goals as goal

pub loop-signed-preserved : goal.loop-signed-preserved
loop-signed-preserved c =
    one_on (λ xs. pairs_for c.args.view.0 (held_by xs)) (λ x rest. pairs_then c.args.view.0 (option_map held_data x) (held_by rest)) c.args.held.now c.loop-signed.signed-index _
    (changes_by_sender c.loop-signed.changes.items) _ c.loop-signed-test.true c.signed-item.is c.loop-signed.invariant c.in_ok-add_change.ensures

pub returns : goal.returns
returns c =
    all_on (λ xs. pairs_for c.args.view.0 (held_by xs)) refl c.args.held.now c.loop-signed.signed-index (changes_by_sender c.loop-signed.changes.items) (omega arith) c.loop-signed.invariant
