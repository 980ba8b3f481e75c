use Rattle.std.proofs.Common.{◌<◌, ◌^◌, ℕ, [], length, None, sym, ap, subst, arith}
use Rattle.std.specs.Arc.{arc_value}
use Rattle.std.proofs.lemmas.List.{length-map}
use Rattle.wire_format.specs.Views.{new_view_data}
use Rattle.replica_histories.proofs.Words.{apart}
use Rattle.replica.specs.EnteringViews.{EntersView}
use Rattle.replica.specs.BothPartsView.{both_parts_data}
use Rattle.replica.specs.State.{BothPartsData}
use Rattle.replica.proofs.NewViewsCome.{enters_with, new_view_dropped, new_view_entered, right_views_are_small}
use Rattle.replica.proofs.ViewsEntered.{start_in}
use Rattle.wire_format.specs.Lists.{Each}
use Rattle.wire_format.specs.Spelling.{IsBatch}
use Rattle.replica.proofs.both_parts.BothParts.on_new_view.Goals as goal

pub returns-then-not-branch-clause-ok : goal.returns-then-not-branch-clause-ok
returns-then-not-branch-clause-ok c = rw (← c.self.view_is, c.requires.first)
    (new_view_dropped c.refusals_decide.ensures.new_views c.sizes_decide.ensures.decide (both_parts_data c.self.inside) c.args.sender (new_view_data c.args.message) c.self.invariant c.keeps.ensures.own
    (λ none. apart c.in_ok-may_enter.field-0 (c.in_ok-may_enter.ensures.1 none) c.if-not-branch.true))

pub enter-requires-clause-start : goal.enter-requires-clause-start
enter-requires-clause-start c =
    subst (λ (n : ℕ). n < 2 ^ 48) (sym c.in_ok-selection.ensures.start)
    (right_views_are_small c.refusals_decide.ensures.new_views c.self.inside.orderer.received c.self.inside.orderer.log.view c.self.inside.orderer.target c.args.sender.0 (new_view_data c.args.message)
    (c.in_ok-may_enter.ensures.0 c.if-not-branch.false)).0

pub enter-requires-clause-few : goal.enter-requires-clause-few
enter-requires-clause-few c =
    let few = (right_views_are_small c.refusals_decide.ensures.new_views c.self.inside.orderer.received c.self.inside.orderer.log.view c.self.inside.orderer.target c.args.sender.0 (new_view_data c.args.message)
    (c.in_ok-may_enter.ensures.0 c.if-not-branch.false)).1 in
    let texts = ap length c.in_ok-selection.ensures.batches in
    let many = length-map c.in_ok-selection.selection.batches.items arc_value in
    omega (arith, few, texts, many)

pub returns-clause-ok : goal.returns-clause-ok
returns-clause-ok c = rw (← c.self.view_is)
    (new_view_entered c.refusals_decide.ensures.new_views c.sizes_decide.ensures.decide (both_parts_data c.self.inside) c.args.sender (new_view_data c.args.message) c.enter.new.self c.enter.new.outputs.items
    c.self.invariant c.keeps.ensures.own c.keeps-2.ensures.0 (c.in_ok-may_enter.ensures.0 c.if-not-branch.false)
    (subst (λ (r : BothPartsData). EntersView (new_view_data c.args.message).view (start_in (new_view_data c.args.message)) (new_view_data c.args.message).batches None r [] c.enter.new.self c.enter.new.outputs.items) (sym c.self.view_is)
    (enters_with (new_view_data c.args.message) c.in_ok-selection.selection.start.0 c.in_ok-selection.selection.root _ c.args.self.now c.enter.new.self c.args.outputs.now.items c.enter.new.outputs.items
    c.in_ok-selection.ensures.start c.in_ok-selection.ensures.root c.in_ok-selection.ensures.batches c.requires.first c.in_ok-enter.ensures.ok)))

pub enter-requires-clause-batches : goal.enter-requires-clause-batches
enter-requires-clause-batches c = subst (Each (IsBatch 0)) (sym c.in_ok-selection.ensures.batches) c.requires.batches
