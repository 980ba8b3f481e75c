use Rattle.std.proofs.Common.{◌≡◌, [], length}
use Rattle.tuple_text.specs.Literals.{text_from}
use Rattle.tuple_text.specs.declared.literals.Expected.TheVariants.{Character}
use Rattle.tuple_text.proofs.reader.Reader.text_bytes.Given as goal

abbrev pub invariant-loop-self : goal.invariant-loop-self
invariant-loop-self g l = text_from l.expected l.bytes.items l.self.rest.now ≡ text_from Character [] l.fn.self.rest.now

abbrev pub decreases-loop-self : goal.decreases-loop-self
decreases-loop-self g l = length l.self.rest.now
