use Rattle.std.proofs.Common.{◌∙◌, ap}
use Rattle.std.proofs.lemmas.Result.{err_from_is_err_and}
use Rattle.tuple_codec.specs.Operations.{out}
use Rattle.tuple_text.specs.Reading.{got, ◌>>=◌}
use Rattle.tuple_text.proofs.Steps.{stops_through, stops_as}
use Rattle.tuple_text.proofs.Closing.{out_as}
use Rattle.tuple_text.proofs.reader.Reader.out_line.Goals as goal

pub returns-in_err-tuple : goal.returns-in_err-tuple
returns-in_err-tuple g c =
    let p = err_from_is_err_and c.from_residual-in_err-tuple.result c.from_residual-in_err-tuple.ensures.1 in
    rw (p.1, p.2) (stops_as _ _ _ _ (out_as c.args.self.now.rest.now c.word.new.self.rest.now c.in_ok-word.ensures) (stops_through _ _ (λ x after. got (out x) after) _ c.in_err-tuple.ensures))

pub returns : goal.returns
returns g c = out_as c.args.self.now.rest.now c.word.new.self.rest.now c.in_ok-word.ensures ∙ ap (λ y. y >>= λ x after. got (out x) after) c.in_ok-tuple.ensures
