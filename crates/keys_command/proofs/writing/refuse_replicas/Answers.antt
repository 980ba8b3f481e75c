use Rattle.std.proofs.Common.{◌≡◌, ◌+◌, ◌*◌, ◌<◌, arith}
use Rattle.std.proofs.lemmas.Result.{err_from_is_err_and}
use Rattle.keys_command.proofs.Filed.{none_more, refuses_one}
use Rattle.keys_command.proofs.writing.refuse_replicas.Goals as goal

pub returns-in_err-refuse_one : goal.returns-in_err-refuse_one
returns-in_err-refuse_one g c =
    let e = err_from_is_err_and c.from_residual.result c.from_residual.ensures.1 in
    let n = c.loop-replica.replica in
    let p : 0 + n ≡ n = omega arith in
    let below : n < 3 * c.args.config.now.faults + 1 = omega (arith, c.loop-replica-test.true, c.replicas-replica-end.ensures.value) in
    rw (e.1, e.2) (refuses_one (g.F.Folder.files c.args.folder.now) 0 (3 * c.args.config.now.faults + 1) n n c.in_err-refuse_one.field-0.0 p below (c.in_err-refuse_one.ensures {u = tt}))

pub loop-replica-preserved : goal.loop-replica-preserved
loop-replica-preserved g c =
    let n = c.loop-replica.replica in
    let p : 0 + n ≡ n = omega arith in
    none_more (g.F.Folder.files c.args.folder.now) 0 n n p c.loop-replica.invariant (c.in_ok-refuse_one.ensures {u = tt})
