use Rattle.std.proofs.Common.{ap, ◌∙◌}
use Rattle.tuple_tree.specs.Items.{how_many}
use Rattle.space.specs.Births.{BornTuple}
use Rattle.space.specs.Candidates.{has_key}
use Rattle.space.specs.Filing.{births_in, births_by}
use Rattle.space.proofs.index.Index.candidates.Goals as goal

pub returns-in-Some : goal.returns-in-Some
returns-in-Some g c es h =
    let p = c.args.template.now in
    c.get.ensures ∙ h.firsts c.in-Some.key ∙ ap (λ key. births_by (λ (e : BornTuple). has_key key (how_many p) e.1) es) (c.in-Some.ensures {u = tt})

pub returns-in-None : goal.returns-in-None
returns-in-None g c es h =
    let p = c.args.template.now in
    c.get-in-None.ensures ∙ ap (births_in c.args.self.now.lengths) c.len.ensures.value ∙ h.lengths (how_many p)
    ∙ ap (λ key. births_by (λ (e : BornTuple). has_key key (how_many p) e.1) es) (c.in-None.ensures {u = tt})
