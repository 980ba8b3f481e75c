use Rattle.std.proofs.Common.{◌++◌, take, sym, subst, ap, ◌∙◌}
use Rattle.std.proofs.lemmas.List.{take-append-drop}
use Rattle.tuple_text.specs.Literals.{AreHex, NoHex}
use Rattle.tuple_text.proofs.LiteralBytes.{front_hex, rest_no_hex}
use Rattle.tuple_text.proofs.reader.Reader.hex_digits.Goals as goal

pub returns-clause-passed : goal.returns-clause-passed
returns-clause-passed c =
    sym (ap (λ s. s ++ c.split_at.result.1.now) c.split_at.ensures.front ∙ ap (λ r. take c.hex_len.result c.args.self.now.rest.now ++ r) c.split_at.ensures.back
    ∙ take-append-drop c.hex_len.result c.args.self.now.rest.now)

pub returns-clause-hex : goal.returns-clause-hex
returns-clause-hex c = subst AreHex (sym c.split_at.ensures.front) (front_hex c.args.self.now.rest.now c.hex_len.result c.hex_len.ensures.within c.hex_len.ensures.hex)

pub returns-clause-ends : goal.returns-clause-ends
returns-clause-ends c = subst NoHex (sym c.split_at.ensures.back) (rest_no_hex c.args.self.now.rest.now c.hex_len.result c.hex_len.ensures.within c.hex_len.ensures.ends)
