use Rattle.std.proofs.Common.{ap, sym, map, subst, ◌∙◌}
use Rattle.std.specs.Arc.{arc_value}
use Rattle.partition_tree.specs.Digests.{digest_of_children}
use Rattle.partition_tree.specs.Parts.{AreFull, pages_in, part_digest}
use Rattle.partition_tree.proofs.Holding.{held_by_clones, same_count}
use Rattle.partition_tree.proofs.tree.Tree.copy.Goals as goal

pub invariant_of-result : goal.invariant_of-result
invariant_of-result c =
    let same = held_by_clones arc_value c.self.inside.parts.items c.in_ok-parts.parts.items c.in_ok-parts.ensures.cases.0 in (
      same_count arc_value _ _ same ∙ c.self.invariant.0,
      subst AreFull (sym same) c.self.invariant.1,
      c.in_ok-inner.ensures.cases ∙ c.self.invariant.2 ∙ ap (map part_digest) (sym same),
      c.self.invariant.3 ∙ ap digest_of_children (sym c.in_ok-inner.ensures.cases),
    )

pub returns : goal.returns
returns c = ap pages_in (held_by_clones arc_value c.self.inside.parts.items c.in_ok-parts.parts.items c.in_ok-parts.ensures.cases.0) ∙ c.self.view_is
