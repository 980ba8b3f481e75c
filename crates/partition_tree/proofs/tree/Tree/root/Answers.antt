use Rattle.std.proofs.Common.{ap, ◌∙◌}
use Rattle.std.proofs.lemmas.List.{length-map}
use Rattle.std.specs.Arc.{arc_value}
use Rattle.partition_tree.specs.Digests.{digest_of_children, root_of}
use Rattle.partition_tree.proofs.Parting.{inner_of_parts}
use Rattle.partition_tree.proofs.tree.Tree.root.Goals as goal

pub returns : goal.returns
returns c =
    c.self.invariant.3
    ∙ ap digest_of_children (c.self.invariant.2 ∙ inner_of_parts _ c.self.invariant.1 (length-map c.self.inside.parts.items arc_value ∙ c.self.invariant.0))
    ∙ ap root_of c.self.view_is
