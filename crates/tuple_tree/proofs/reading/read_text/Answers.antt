use Rattle.std.proofs.Common.{◌∙◌, ap, sym, Some}
use Rattle.tuple_tree.proofs.Steps.{text_there, text_not_there}
use Rattle.tuple_tree.proofs.reading.read_text.Goals as goal

pub returns-in-Ok : goal.returns-in-Ok
returns-in-Ok c = text_there _ _ _ c.in_ok-string.ensures c.in-Ok.ensures.cases.1 ∙ ap (λ s. Some (s, c.in_ok-string.rest.now)) (sym c.in-Ok.ensures.cases.0)

pub returns-in-Err : goal.returns-in-Err
returns-in-Err c = text_not_there _ _ _ c.in_ok-string.ensures c.in-Err.ensures.cases.0
