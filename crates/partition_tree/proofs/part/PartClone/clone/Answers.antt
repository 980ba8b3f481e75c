use Rattle.std.proofs.Common.{◌∙◌, ap, sym, map}
use Rattle.std.specs.Arc.{arc_value}
use Rattle.sha2.specs.Sha256.{sha256}
use Rattle.partition_tree.proofs.Holding.{held_by_clones, same_count}
use Rattle.partition_tree.proofs.part.PartClone.clone.Goals as goal

pub invariant_of-result : goal.invariant_of-result
invariant_of-result c =
    let same = held_by_clones arc_value c.self.inside.texts.items c.in_ok-texts.texts.items c.in_ok-texts.ensures.cases.0 in
    (same_count arc_value _ _ same ∙ c.self.invariant.0, c.in_ok-digests.ensures.cases ∙ c.self.invariant.1 ∙ ap (map sha256) (sym same))

pub returns : goal.returns
returns c =
    record { cases = held_by_clones arc_value c.self.inside.texts.items c.in_ok-texts.texts.items c.in_ok-texts.ensures.cases.0 ∙ c.self.view_is }
