use Rattle.std.proofs.Common.{◌≡◌, replicate}
use Rattle.std.specs.Arc.{arc_value}
use Rattle.partition_tree.specs.Texts.{texts_of}
use Rattle.partition_tree.proofs.part.Part.empty.Given as goal

abbrev pub invariant-loop-page : goal.invariant-loop-page
invariant-loop-page l = texts_of l.texts.items ≡ replicate l._page (arc_value l.text)
