use Rattle.std.proofs.Common.{◌∙◌, ap, refl}
use Rattle.std.proofs.lemmas.Result.{err_from_is_err_and}
use Rattle.tuple_codec.specs.Operations.{cas}
use Rattle.tuple_text.specs.Reading.{got, ◌>>=◌}
use Rattle.tuple_text.proofs.Steps.{stops_through, stops_as}
use Rattle.tuple_text.proofs.Closing.{cas_as}
use Rattle.tuple_text.proofs.reader.Reader.cas_line.Goals as goal

pub returns-in_err-tuple : goal.returns-in_err-tuple
returns-in_err-tuple g c =
    let p = err_from_is_err_and c.from_residual-in_err-tuple.result c.from_residual-in_err-tuple.ensures.1 in
    rw (p.1, p.2) (stops_as _ _ _ _ (cas_as c.args.self.now.rest.now c.word.new.self.rest.now c.template_argument.new.self.rest.now c.in_ok-template.template c.in_ok-word.ensures c.in_ok-template.ensures) (stops_through _ _ (λ x after. got (cas c.in_ok-template.template x) after) _ c.in_err-tuple.ensures))

pub returns : goal.returns
returns g c = cas_as c.args.self.now.rest.now c.word.new.self.rest.now c.template_argument.new.self.rest.now c.in_ok-template.template c.in_ok-word.ensures c.in_ok-template.ensures ∙ ap (λ y. y >>= λ x after. got (cas c.in_ok-template.template x) after) c.in_ok-tuple.ensures

pub same-template : goal.same-template
same-template g c = refl
