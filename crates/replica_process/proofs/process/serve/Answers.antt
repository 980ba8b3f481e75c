use Rattle.std.proofs.Common.{[], refl, ◌∙◌}
use Rattle.std.proofs.lemmas.Result.{err_from_is_err_and}
use Rattle.replica_process.specs.Endings.{WritesForFront}
use Rattle.replica_process.proofs.Running.{if_known, at_start, not_begun}
use Rattle.replica_process.proofs.process.serve.Goals as goal

pub returns-in_err-records : goal.returns-in_err-records
returns-in_err-records g c k fits =
    let e = err_from_is_err_and c.from_residual.result c.from_residual.ensures.1 in
    let p = g.M.Machine.me c.args.machine in
    let written = g.W.Write.contents c.args.writer.now in
    rw (e.1, e.2) (if_known (λ bytes. WritesForFront k p c.args.needed bytes written written) (g.R.Read.remaining c.args.reader)
    (λ bytes is. not_begun k p c.args.needed bytes written (g.met.M.Machine.is_right c.args.machine k [] fits)))

pub returns : goal.returns
returns g c k fits =
    if_known _ _ (λ bytes is. c.run.ensures k (g.M.Machine.me c.args.machine) c.args.needed bytes (g.W.Write.contents c.args.writer.now)
    (at_start g.M.Machine.me g.M.Machine.fits g.met.M.Machine.is_right k (g.M.Machine.me c.args.machine) c.args.needed bytes _ _
    (record { machine = c.args.machine; patience = c.new-2.result; text = c.new-3.result })
    (record { me_is = refl; needed_is = c.new-2.ensures.needed; held = fits; patient = c.new-2.ensures.fits })
    c.new-3.ensures.items ((c.in_ok-records.ensures {u = tt}).all ∙ is)))
