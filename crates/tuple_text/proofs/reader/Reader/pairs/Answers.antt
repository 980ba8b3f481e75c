use Rattle.std.proofs.Common.{[], None, ap, arith, ◌∙◌}
use Rattle.tuple_text.specs.Literals.{digit_pairs}
use Rattle.tuple_text.proofs.LiteralBytes.{pairs_odd}
use Rattle.tuple_text.proofs.reader.Reader.pairs.Goals as goal

pub returns-then-digits-eq1 : goal.returns-then-digits-eq1
returns-then-digits-eq1 g c =
    ap (digit_pairs [] None) c.hex_digits-digits.ensures.passed
    ∙ pairs_odd c.hex_digits-digits.result.now [] c.hex_digits-digits.new.self.rest.now c.hex_digits-digits.ensures.hex (omega (arith, c.if-digits-eq1.true)) c.hex_digits-digits.ensures.ends
