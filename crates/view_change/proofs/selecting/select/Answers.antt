use Rattle.view_change.specs.Sets.{sized, changes_by_sender, texts_of}
use Rattle.view_change.proofs.Starting.{nothing_selects, selected}
use Rattle.view_change.proofs.selecting.select.Goals as goal

pub returns-in-Some : goal.returns-in-Some
returns-in-Some c =
    selected (sized c.args.sizes) c.args.view.0 (changes_by_sender c.args.set.now) (texts_of c.args.held.now) c.in-Some.selection.start.0 c.in-Some.selection.root (texts_of c.in-Some.selection.batches.items) c.requires.set
    (rw c.in-Some.is at c.in_ok-selected.ensures)

pub returns : goal.returns
returns c =
    nothing_selects (sized c.args.sizes) c.args.view.0 (changes_by_sender c.args.set.now) (texts_of c.args.held.now) c.requires.order c.requires.set (rw c.in-None.is at c.in_ok-selected.ensures)
