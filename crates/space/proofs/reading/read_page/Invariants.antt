use Rattle.std.proofs.Common.{length}
use Rattle.space.specs.Reading.{IsFrontRead}
use Rattle.space.proofs.reading.read_page.Given as goal

-- the front of the text was read
abbrev pub invariant-loop-rest : goal.invariant-loop-rest
invariant-loop-rest l = IsFrontRead l.version l.page l.next l.text l.initial.tuples.entries l.tuples.entries l.rest l.count l.least

abbrev pub decreases-loop-rest : goal.decreases-loop-rest
decreases-loop-rest l = length l.rest
