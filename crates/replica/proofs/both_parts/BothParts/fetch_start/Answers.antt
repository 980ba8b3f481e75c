use Rattle.std.proofs.Common.{Bool, subst}
use Rattle.std.proofs.lemmas.Result.{on_ok_weaker}
use Rattle.wire_format.specs.Views.{checkpoint_entry_data}
use Rattle.replica.specs.State.{BothPartsData}
use Rattle.replica.specs.BothPartsView.{both_parts_data}
use Rattle.desk.specs.Fetching.{SetsTarget}
use Rattle.replica.specs.EnteringViews.{FetchesStart}
use Rattle.replica.proofs.EnteringViews.{fetch_started, fetch_passed}
use Rattle.replica.proofs.both_parts.BothParts.fetch_start.Goals as goal

pub returns-then-not-branch-clause-ok : goal.returns-then-not-branch-clause-ok
returns-then-not-branch-clause-ok c = subst (λ (r : BothPartsData). FetchesStart (checkpoint_entry_data c.args.start.now) r c.args.outputs.now.items (record (both_parts_data c.self.inside) { desk = c.set_target.new.self }) c.args.outputs.now.items) c.self.view_is
    (fetch_passed (checkpoint_entry_data c.args.start.now) (both_parts_data c.self.inside) c.set_target.new.self c.args.outputs.now.items
    (subst (λ (b : Bool). SetsTarget (checkpoint_entry_data c.args.start.now) c.self.inside.desk c.set_target.new.self b) c.if-not-branch.true c.in_ok-set_target.ensures.ok))

pub returns-clause-ok : goal.returns-clause-ok
returns-clause-ok c =
    on_ok_weaker c.multicast_fetch.result
    (λ k. subst (λ (r : BothPartsData). FetchesStart (checkpoint_entry_data c.args.start.now) r c.args.outputs.now.items c.multicast_fetch.new.self c.multicast_fetch.new.outputs.items) c.self.view_is (fetch_started (checkpoint_entry_data c.args.start.now) (both_parts_data c.self.inside) c.multicast_fetch.new.self c.set_target.new.self c.args.outputs.now.items c.multicast_fetch.new.outputs.items
    (subst (λ (b : Bool). SetsTarget (checkpoint_entry_data c.args.start.now) c.self.inside.desk c.set_target.new.self b) c.if-not-branch.false c.in_ok-set_target.ensures.ok) c.multicast_fetch.ensures.same k))
    c.multicast_fetch.ensures.ok
