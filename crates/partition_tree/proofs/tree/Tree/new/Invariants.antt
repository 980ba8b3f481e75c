use Rattle.std.proofs.Common.{◌≡◌, replicate}
use Rattle.std.specs.Arc.{arc_value}
use Rattle.partition_tree.specs.Parts.{parts_held}
use Rattle.partition_tree.proofs.tree.Tree.new.Given as goal

abbrev pub invariant-loop-part : goal.invariant-loop-part
invariant-loop-part l = parts_held l.parts.items ≡ replicate l._part (arc_value l.part)
