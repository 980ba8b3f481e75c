use Rattle.std.proofs.Common.{refl}
use Rattle.std.proofs.lemmas.Result.{err_from_is_err_and}
use Rattle.replica_process.proofs.Running.{moves, write_failed}
use Rattle.replica_process.proofs.process.Process.serve_record.Goals as goal

pub returns-in_err-write_due : goal.returns-in_err-write_due
returns-in_err-write_due g c k p needed bytes start here =
    let e = err_from_is_err_and c.from_residual.result c.from_residual.ensures.1 in
    rw (e.1, e.2) (write_failed g.M.Machine.me g.M.Machine.fits g.met.M.Machine.is_right k p needed bytes start _ _ _ here (g.W.Write.contents c.write_due.new.writer) c.write_due.new.text.items _ (c.in_err-write_due.ensures {u = tt}).some)

pub returns : goal.returns
returns g c k p needed bytes start here =
    c.take_record.ensures k p needed bytes start _
    (moves g.M.Machine.me g.M.Machine.fits g.met.M.Machine.is_right k p needed bytes start _ _ _ here (g.W.Write.contents c.write_due.new.writer)
    (record { machine = c.args.self.now.machine; patience = c.args.self.now.patience; text = c.write_due.new.text }) refl refl
    (c.in_ok-write_due.ensures {u = tt}).some)
