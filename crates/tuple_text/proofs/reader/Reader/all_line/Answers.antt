use Rattle.std.proofs.Common.{◌∙◌, ap, sym}
use Rattle.std.proofs.lemmas.Result.{err_from_is_err_and}
use Rattle.tuple_text.specs.Reading.{got, ◌>>=◌, all_of}
use Rattle.tuple_text.proofs.Steps.{stops_through, stops_as}
use Rattle.tuple_text.proofs.Closing.{all_as}
use Rattle.tuple_text.proofs.reader.Reader.all_line.Goals as goal

pub returns-in_err-template : goal.returns-in_err-template
returns-in_err-template g c =
    let p = err_from_is_err_and c.from_residual-in_err-template.result c.from_residual-in_err-template.ensures.1 in
    rw (p.1, p.2) (stops_as _ _ _ _ (all_as c.args.verb c.args.self.now.rest.now c.word.new.self.rest.now c.count_argument.new.self.rest.now c.in_ok-max.max.count c.in_ok-word.ensures c.in_ok-max.ensures) (stops_through _ _ (λ x after. got (all_of c.args.verb c.in_ok-max.max.count x) after) _ c.in_err-template.ensures))

pub returns : goal.returns
returns g c =
    all_as c.args.verb c.args.self.now.rest.now c.word.new.self.rest.now c.count_argument.new.self.rest.now c.in_ok-max.max.count c.in_ok-word.ensures c.in_ok-max.ensures
    ∙ ap (λ y. y >>= λ x after. got (all_of c.args.verb c.in_ok-max.max.count x) after) c.in_ok-template.ensures
    ∙ sym (ap (λ o. got o c.last_template.new.self.rest.now) c.all_of.ensures)
