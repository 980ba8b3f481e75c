use Rattle.std.proofs.Common.{List, subst}
use Rattle.events.specs.declared.output.Output.{Output}
use Rattle.terms.specs.declared.order.View.{View}
use Rattle.replica.specs.Changing.{ChangesView, IsDue, IsNotDue}
use Rattle.orderer.proofs.ChangingViews.{of_some, of_none}
use Rattle.replica.specs.Fetching.{MulticastsFetch}
use Rattle.replica.proofs.Ticking.{ticks_nothing, ticks_in_place, ticks_on}
use Rattle.replica.proofs.both_parts.BothParts.on_timeout.Goals as goal

pub returns-in_default-clause-ok : goal.returns-in_default-clause-ok
returns-in_default-clause-ok c =
    let old = c.args.self.now in
    let outs = c.multicast_fetch.new.outputs.items in
    ticks_nothing old c.are_one.ensures c.multicast_fetch.new.self outs c.in_ok-multicast_fetch.ensures.same
    (of_none (IsNotDue c.multicast_fetch.new.self) c.due_view.result c.in_default.is c.due_view.ensures.none)
    (subst (λ (os : List Output). MulticastsFetch old os outs) c.requires.first c.in_ok-multicast_fetch.ensures.ok)

pub returns-then-not-branch-clause-ok : goal.returns-then-not-branch-clause-ok
returns-then-not-branch-clause-ok c =
    let old = c.args.self.now in
    let fetched = c.multicast_fetch.new.self in
    let mid = c.change_view.new.self in
    let x = c.multicast_fetch.new.outputs.items in
    let outs = c.change_view.new.outputs.items in
    ticks_in_place old c.are_one.ensures c.in-Some.view.0 fetched mid x outs c.judges_changes.ensures.alike c.judges_changes.ensures.changes c.in_ok-multicast_fetch.ensures.same
    (subst (λ (os : List Output). MulticastsFetch old os x) c.requires.first c.in_ok-multicast_fetch.ensures.ok)
    (of_some (λ (v : View). IsDue fetched v.0) c.due_view.result c.in-Some.view c.in-Some.is c.due_view.ensures.due)
    (subst (ChangesView c.in-Some.view.0 fetched x mid outs) c.if-not-branch.true c.in_ok-change_view.ensures.ok)

pub returns-clause-ok : goal.returns-clause-ok
returns-clause-ok c =
    let old = c.args.self.now in
    let fetched = c.multicast_fetch.new.self in
    let mid = c.change_view.new.self in
    let new = c.begin_view.new.self in
    let x = c.multicast_fetch.new.outputs.items in
    let y = c.change_view.new.outputs.items in
    let outs = c.begin_view.new.outputs.items in
    ticks_on old c.are_one.ensures c.begin_view.result c.in-Some.view.0 fetched mid new x y outs c.in_ok-multicast_fetch.ensures.same
    (subst (λ (os : List Output). MulticastsFetch old os x) c.requires.first c.in_ok-multicast_fetch.ensures.ok)
    (of_some (λ (v : View). IsDue fetched v.0) c.due_view.result c.in-Some.view c.in-Some.is c.due_view.ensures.due)
    (subst (ChangesView c.in-Some.view.0 fetched x mid y) c.if-not-branch.false c.in_ok-change_view.ensures.ok)
    c.begin_view.ensures.ok
