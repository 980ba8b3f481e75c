use Rattle.space.specs.Pages.{texts_of}
use Rattle.execution.proofs.Restoring.{AreFilled}
use Rattle.execution.proofs.installing.texts_from.Given as goal

abbrev pub invariant-loop-i : goal.invariant-loop-i
invariant-loop-i l = AreFilled l.pages l.first (texts_of l.texts) l.i
