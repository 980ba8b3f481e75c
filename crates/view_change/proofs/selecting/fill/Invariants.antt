use Rattle.view_change.specs.Sets.{sized, changes_by_sender, texts_of}
use Rattle.view_change.proofs.Chosen.{FillsTo}
use Rattle.view_change.proofs.selecting.fill.Given as goal

abbrev pub invariant-loop-number : goal.invariant-loop-number
invariant-loop-number l = FillsTo (sized l.sizes) l.view.0 (changes_by_sender l.set) (texts_of l.held) l.fn.start.0 l.number (texts_of l.batches.items)
