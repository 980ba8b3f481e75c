use Rattle.std.proofs.Common.{◌≡◌, length}
use Rattle.schedule_text.specs.Words.{trimmed}
use Rattle.schedule_text.proofs.words.Words.pass_blanks.Given as goal

abbrev pub invariant-loop-self : goal.invariant-loop-self
invariant-loop-self l = trimmed l.self.rest.now ≡ trimmed l.initial.self.rest.now

abbrev pub decreases-loop-self : goal.decreases-loop-self
decreases-loop-self l = length l.self.rest.now
