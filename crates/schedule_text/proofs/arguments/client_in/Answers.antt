use Rattle.std.proofs.Common.{◌≡◌, arith, sym, ap, ◌∙◌}
use Rattle.std.specs.Fmt.{decimal}
use Rattle.std.proofs.lemmas.Fmt.{decimal_injective}
use Rattle.std.proofs.lemmas.Result.{err_from_is_err_and}
use Rattle.schedule_text.proofs.Numbers.{because}
use Rattle.schedule_text.proofs.arguments.client_in.Goals as goal

pub returns-then-number-gt-LAST_CLIENT : goal.returns-then-number-gt-LAST_CLIENT
returns-then-number-gt-LAST_CLIENT c s h =
    let k = c.in_ok-number_in.ensures {u = tt} in
    let same : s ≡ c.in_ok-number_in.field-0 = decimal_injective s c.in_ok-number_in.field-0 (omega arith) k.1 (sym h.0 ∙ k.0) in
    let read : c.in-Ok.number ≡ c.in_ok-number_in.field-0 = (c.in-Ok.ensures {u = tt}).1 in
    omega arith

pub returns-else-number-gt-LAST_CLIENT : goal.returns-else-number-gt-LAST_CLIENT
returns-else-number-gt-LAST_CLIENT c =
    let k = c.in_ok-number_in.ensures {u = tt} in
    (k.0 ∙ ap decimal (sym (c.in-Ok.ensures {u = tt}).1), omega arith)

pub returns-in-Err : goal.returns-in-Err
returns-in-Err c s h =
    let k = c.in_ok-number_in.ensures {u = tt} in
    let same : s ≡ c.in_ok-number_in.field-0 = decimal_injective s c.in_ok-number_in.field-0 (omega arith) k.1 (sym h.0 ∙ k.0) in
    c.in-Err.ensures {u = tt} (omega arith)
