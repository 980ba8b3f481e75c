use Rattle.std.proofs.Common.{◌≡◌, length}
use Rattle.tuple_text.specs.Reading.{blanks}
use Rattle.tuple_text.proofs.reader.Reader.blanks.Given as goal

abbrev pub invariant-loop-self : goal.invariant-loop-self
invariant-loop-self l = blanks l.free l.self.rest.now ≡ blanks l.initial.free l.initial.self.rest.now

abbrev pub decreases-loop-self : goal.decreases-loop-self
decreases-loop-self l = length l.self.rest.now
