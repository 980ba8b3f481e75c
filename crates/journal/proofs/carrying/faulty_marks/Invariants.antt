use Rattle.journal.proofs.Openings.{AreMarked}
use Rattle.journal.proofs.carrying.faulty_marks.Given as goal

abbrev pub invariant-loop-party : goal.invariant-loop-party
invariant-loop-party l = AreMarked l.config l.party l.marks.items
