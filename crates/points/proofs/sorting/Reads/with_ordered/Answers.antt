use Rattle.std.proofs.Common.{[], arith, rules, sym, ◌∙◌, ◌≡◌}
use Rattle.std.proofs.lemmas.List.{nil_from_length}
use Rattle.points.proofs.Holding.{merged_begins, merged_double, merged_kept, merged_all, one_shorter}
use Rattle.points.proofs.sorting.Reads.with_ordered.Goals as goal

pub loop-placed-init : goal.loop-placed-init
loop-placed-init c = merged_begins c.args.self c.args.ordered.items (λ r l. c.requires r (omega (arith, c.args.ordered.ok.0)))

pub put-requires : goal.put-requires
put-requires c =
    c.loop-placed.invariant.ranked _ (omega (arith, one_shorter c.loop-placed.rest.items c.pop.new.self.items c.in-Some.placed c.in-Some.ensures.items))

pub loop-placed-preserved-then-contains : goal.loop-placed-preserved-then-contains
loop-placed-preserved-then-contains c =
    merged_double c.args.self c.args.ordered.items c.loop-placed.rest.items c.pop.new.self.items c.in-Some.placed c.call_of.result c.loop-placed.merged.entries
    c.in-Some.ensures.items c.call_of.ensures.client c.call_of.ensures.timestamp (sym c.contains.ensures ∙ c.if-contains.true) c.loop-placed.invariant

pub loop-placed-preserved : goal.loop-placed-preserved
loop-placed-preserved c =
    merged_kept c.args.self c.args.ordered.items c.loop-placed.rest.items c.pop.new.self.items c.in-Some.placed c.call_of.result c.loop-placed.merged.entries
    c.put.new.sorted.entries c.in-Some.ensures.items c.call_of.ensures.client c.call_of.ensures.timestamp (sym c.contains.ensures ∙ c.if-contains.false)
    c.in_ok-put.ensures.sorts (λ r l. c.in_ok-put.ensures.ranked r (omega arith)) c.loop-placed.invariant

pub returns : goal.returns
returns c =
    let empty : c.loop-placed.rest.items ≡ [] = nil_from_length _ (search rules) in
    merged_all c.args.self c.args.ordered.items c.loop-placed.rest.items c.loop-placed.merged.entries empty c.loop-placed.invariant
