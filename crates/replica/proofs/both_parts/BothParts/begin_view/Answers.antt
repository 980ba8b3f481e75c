use Rattle.std.proofs.Common.{◌≡◌, ◌+◌, ap, ◌∙◌}
use Rattle.view_change.specs.declared.changes.Selection.{Selection}
use Rattle.view_change.specs.Sets.{texts_of}
use Rattle.orderer.specs.State.{OrdererData}
use Rattle.replica.specs.State.{BothPartsData}
use Rattle.replica.specs.BothPartsView.{both_parts_data}
use Rattle.orderer.specs.EnterView.{IsSelection, new_view_of}
use Rattle.orderer.proofs.ChangingViews.{of_some}
use Rattle.replica.proofs.Choosing.{unselected, unsigned}
use Rattle.replica.proofs.OwnViews.{begins_so, signs_in, selects_few, starts_small}
use Rattle.wire_format.specs.Lists.{Each}
use Rattle.wire_format.specs.Spelling.{IsBatch}
use Rattle.replica.proofs.both_parts.BothParts.begin_view.Goals as goal

pub enter-requires-clause-start : goal.enter-requires-clause-start
enter-requires-clause-start c =
    let s = c.in-Some.selection in
    let o = c.self.inside.orderer in
    starts_small o s.start.0 s.root c.in-Some-2.frame.items (texts_of s.batches.items)
    (signs_in o (new_view_of o s.start.0 s.root (texts_of s.batches.items)) c.sign_new_view.new.self c.in_ok-frame.field-0 c.in-Some-2.frame c.in-Some-2.is c.in_ok-frame.ensures.signs).0

pub enter-requires-clause-few : goal.enter-requires-clause-few
enter-requires-clause-few c =
    let s = c.in-Some.selection in
    selects_few c.self.inside.orderer s.start.0 s.root s.batches.items
    (of_some (λ (x : Selection). IsSelection c.self.inside.orderer x.start.0 x.root (texts_of x.batches.items)) c.in_ok-selection.field-0 s c.in-Some.is c.in_ok-selection.ensures.selects)

pub returns-clause-ok : goal.returns-clause-ok
returns-clause-ok c =
    let s = c.in-Some.selection in
    let o = c.self.inside.orderer in
    let same : c.sign_new_view.new.self ≡ record o { spent = o.spent + 1 } =
    (signs_in o (new_view_of o s.start.0 s.root (texts_of s.batches.items)) c.sign_new_view.new.self c.in_ok-frame.field-0 c.in-Some-2.frame c.in-Some-2.is c.in_ok-frame.ensures.signs).1 in
    let with_orderer : OrdererData → BothPartsData = λ x. record (both_parts_data c.self.inside) { orderer = x } in
    let mid_is = ap with_orderer same in
    rw (← c.self.view_is)
    (begins_so c.sizes_decide.ensures.decide (both_parts_data c.self.inside) s.start.0 s.root c.in-Some-2.frame.items (texts_of s.batches.items) c.args.outputs.now.items c.multicast_frame.new.outputs.items
    c.enter.new.outputs.items c.enter.new.self _ c.deref.result.now c.sign_new_view.new.self _ c.self.invariant c.keeps.ensures.own c.keeps.ensures.log c.keeps-2.ensures.0
    (of_some (λ (x : Selection). IsSelection o x.start.0 x.root (texts_of x.batches.items)) c.in_ok-selection.field-0 s c.in-Some.is c.in_ok-selection.ensures.selects)
    (signs_in o (new_view_of o s.start.0 s.root (texts_of s.batches.items)) c.sign_new_view.new.self c.in_ok-frame.field-0 c.in-Some-2.frame c.in-Some-2.is c.in_ok-frame.ensures.signs).0
    same c.deref.ensures.value c.in_ok-multicast_frame.ensures (c.target-view.ensures ∙ ap (λ (x : BothPartsData). x.orderer.target) mid_is) mid_is c.in_ok-enter.ensures.ok)

pub sign_new_view-requires-clause-batches : goal.sign_new_view-requires-clause-batches
sign_new_view-requires-clause-batches c =
    of_some (λ (x : Selection). Each (IsBatch 0) (texts_of x.batches.items)) c.in_ok-selection.field-0 c.in-Some.selection c.in-Some.is c.in_ok-selection.ensures.batches

pub enter-requires-clause-batches : goal.enter-requires-clause-batches
enter-requires-clause-batches c =
    of_some (λ (x : Selection). Each (IsBatch 0) (texts_of x.batches.items)) c.in_ok-selection.field-0 c.in-Some.selection c.in-Some.is c.in_ok-selection.ensures.batches

pub returns-in_default-clause-ok : goal.returns-in_default-clause-ok
returns-in_default-clause-ok c = rw (← c.self.view_is)
    (unselected (both_parts_data c.self.inside) c.args.outputs.now.items c.in_ok-selection.field-0 c.self.invariant c.keeps.ensures.own c.in_default.is c.in_ok-selection.ensures.none)

pub returns-in_default-2-clause-ok : goal.returns-in_default-2-clause-ok
returns-in_default-2-clause-ok c =
    let s = c.in-Some.selection in
    rw (← c.self.view_is)
    (unsigned (both_parts_data c.self.inside) c.sign_new_view.new.self (new_view_of c.self.inside.orderer s.start.0 s.root (texts_of s.batches.items)) c.in_ok-frame.field-0 c.args.outputs.now.items c.in_default-2.is c.in_ok-frame.ensures.signs)
