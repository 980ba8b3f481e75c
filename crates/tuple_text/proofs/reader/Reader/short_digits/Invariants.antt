use Rattle.std.proofs.Common.{◌≡◌, ◌≤◌, length}
use Rattle.tuple_text.specs.Reading.{digits}
use Rattle.tuple_text.proofs.reader.Reader.short_digits.Given as goal

abbrev pub invariant-loop-self : goal.invariant-loop-self
invariant-loop-self l = record {
  same : digits l.limit l.number l.self.rest.now ≡ digits l.limit l.initial.number l.initial.self.rest.now;
  low : 1 ≤ l.number;
  high : l.number ≤ l.limit;
}

abbrev pub decreases-loop-self : goal.decreases-loop-self
decreases-loop-self l = length l.self.rest.now
