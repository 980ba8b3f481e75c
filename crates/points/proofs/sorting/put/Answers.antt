use Rattle.std.proofs.Common.{sym, ap, ◌∙◌, subst}
use Rattle.std.specs.BTreeMap.{insert_entry}
use Rattle.points.specs.Sorting.{AreRankedAbove, sorted_of}
use Rattle.points.proofs.Ordering.{inserts, key_cmp, ranked_on}
use Rattle.points.proofs.sorting.put.Goals as goal

pub returns-in-Ok-clause-sorts : goal.returns-in-Ok-clause-sorts
returns-in-Ok-clause-sorts c =
    let es = c.args.sorted.now.entries in
    ap sorted_of ((c.in-Ok.ensures {u = tt}).entries ∙ ap (λ k. insert_entry key_cmp es k c.args.placed) c.key_of.ensures) ∙ inserts c.args.rank c.args.placed es c.requires

pub returns-in-Ok-clause-ranked : goal.returns-in-Ok-clause-ranked
returns-in-Ok-clause-ranked c = λ r l.
    let es = c.args.sorted.now.entries in
    subst (AreRankedAbove r) (sym ((c.in-Ok.ensures {u = tt}).entries ∙ ap (λ k. insert_entry key_cmp es k c.args.placed) c.key_of.ensures)) (ranked_on r c.args.rank c.args.placed es l c.requires)
