use Rattle.std.proofs.lemmas.Result.{err_from_is_err_and}
use Rattle.schedule_text.proofs.Numbers.{because}
use Rattle.schedule_text.proofs.Calls.{call_has_client}
use Rattle.schedule_text.proofs.lines.read_invoke.Goals as goal

pub returns-in_err-client : goal.returns-in_err-client
returns-in_err-client c =
    let p = err_from_is_err_and c.from_residual.result c.from_residual.ensures.1 in
    rw (p.1, p.2) (because c.in_err-client.field-0.0
    (λ no step h. let k = call_has_client c.args.words.rest.now step h in no k.0 k.1 k.2)
    (c.in_err-client.ensures {u = tt}))
