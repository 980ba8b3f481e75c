use Rattle.std.proofs.Common.{drop}
use Rattle.std.specs.Arc.{arc_value}
use Rattle.view_change.specs.Sets.{sized, changes_by_sender, texts_of}
use Rattle.view_change.proofs.Chosen.{IsBest}
use Rattle.view_change.proofs.choosing.choose.Given as goal

abbrev pub invariant-loop-batch : goal.invariant-loop-batch
invariant-loop-batch l = IsBest (sized l.sizes) (changes_by_sender l.set) (texts_of l.held) l.number.0 (texts_of (drop l.batch-index l.held)) (arc_value l.best)
