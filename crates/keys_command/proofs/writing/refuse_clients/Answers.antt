use Rattle.std.proofs.Common.{◌≡◌, ◌+◌, ◌*◌, ◌<◌, arith}
use Rattle.std.proofs.lemmas.Result.{err_from_is_err_and}
use Rattle.terms.specs.declared.parties.TheConstants.{FIRST_CLIENT}
use Rattle.keys_command.proofs.Filed.{none_more, refuses_one}
use Rattle.keys_command.proofs.writing.refuse_clients.Goals as goal

pub returns-in_err-refuse_one : goal.returns-in_err-refuse_one
returns-in_err-refuse_one g c =
    let e = err_from_is_err_and c.from_residual.result c.from_residual.ensures.1 in
    let n = c.loop-number.number in
    let p : FIRST_CLIENT + n ≡ FIRST_CLIENT + n = omega arith in
    let below : n < c.args.config.now.clients = omega (arith, c.loop-number-test.true, c.clients-number-end.ensures.value) in
    rw (e.1, e.2) (refuses_one (g.F.Folder.files c.args.folder.now) FIRST_CLIENT (c.args.config.now.clients) n (FIRST_CLIENT + n) c.in_err-refuse_one.field-0.0 p below (c.in_err-refuse_one.ensures {u = tt}))

pub loop-number-preserved : goal.loop-number-preserved
loop-number-preserved g c =
    let n = c.loop-number.number in
    let p : FIRST_CLIENT + n ≡ FIRST_CLIENT + n = omega arith in
    none_more (g.F.Folder.files c.args.folder.now) FIRST_CLIENT n (FIRST_CLIENT + n) p c.loop-number.invariant (c.in_ok-refuse_one.ensures {u = tt})
