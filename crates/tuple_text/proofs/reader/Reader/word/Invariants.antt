use Rattle.std.proofs.Common.{◌≡◌, drop}
use Rattle.tuple_text.specs.Reading.{word}
use Rattle.tuple_text.proofs.reader.Reader.word.Given as goal

abbrev pub invariant-loop-letter : goal.invariant-loop-letter
invariant-loop-letter l = word (drop l.letter-index l.letters) l.self.rest.now ≡ word l.letters l.initial.self.rest.now
