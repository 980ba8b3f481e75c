use Rattle.std.proofs.Common.{Option, sym, subst}
use Rattle.std.specs.Prelude.{OnOk, option_map}
use Rattle.points.specs.declared.point.Placed.{Placed}
use Rattle.points.specs.declared.sorting.Reads.{Reads}
use Rattle.points.specs.PointView.{placing_of}
use Rattle.points.specs.Sorting.{AddsRead}
use Rattle.points.proofs.Holding.{adds_none, adds_some}
use Rattle.points.proofs.Results.{on_both}
use Rattle.points.proofs.sorting.Reads.add.Goals as goal

pub returns-in_default : goal.returns-in_default
returns-in_default c =
    subst (λ (o : Option Placed). AddsRead c.args.rank (option_map placing_of o) c.args.self.now c.args.self.now) (sym c.in_default.is)
    (adds_none c.args.rank c.args.self.now)

pub returns-in-Ok : goal.returns-in-Ok
returns-in-Ok c =
    let new : Reads = record { sorted = c.put.new.sorted; calls = c.insert.new.self } in
    subst (λ (o : Option Placed). OnOk c.put.result (AddsRead c.args.rank (option_map placing_of o) c.args.self.now new)) (sym c.in-Some.is)
    (on_both c.put.result c.put.ensures.sorts c.put.ensures.ranked
    (λ sorts ranked. adds_some c.args.rank c.in-Some.placed c.args.self.now new c.call_of.result c.call_of.ensures.client c.call_of.ensures.timestamp sorts ranked ((c.in-Ok.ensures {u = tt}).updates.0)))
