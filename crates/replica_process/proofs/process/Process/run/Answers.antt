use Rattle.std.proofs.Common.{◌≡◌, true, false, sym, ◌∙◌}
use Rattle.std.proofs.lemmas.Result.{err_from_is_err_and}
use Rattle.replica_process.specs.Texts.{IsWriteFault}
use Rattle.replica_process.proofs.Running.{ends_all, stopped_writing, stopped_all, stopped_failed}
use Rattle.replica_process.proofs.process.Process.run.Goals as goal

pub returns-in-Ok : goal.returns-in-Ok
returns-in-Ok g c k p needed bytes start here =
    ends_all k p needed bytes start _ _ _ c.write_out.result (c.in-Ok.ensures {u = tt} k p needed bytes start here) c.write_out.ensures.all

pub returns-then-is_of_writing : goal.returns-then-is_of_writing
returns-then-is_of_writing g c k p needed bytes start here =
    stopped_writing k p needed bytes start _ (g.W.Write.contents c.serve_records.new.writer) _ c.in-Err.fault (c.is_of_writing.ensures.0 c.if-is_of_writing.true)
    (c.in-Err.ensures {u = tt} k p needed bytes start here)

pub returns-in_err-write_out : goal.returns-in_err-write_out
returns-in_err-write_out g c k p needed bytes start here =
    let e = err_from_is_err_and c.from_residual.result c.from_residual.ensures.1 in
    rw (e.1, e.2) (stopped_failed k p needed bytes start _ _ _ c.in-Err.fault
    (λ (w : IsWriteFault c.in-Err.fault). let absurd_is : true ≡ false = sym (c.is_of_writing.ensures.1 w) ∙ c.if-is_of_writing.false in cc)
    (c.in-Err.ensures {u = tt} k p needed bytes start here) _ (c.in_err-write_out.ensures {u = tt}).all)

pub returns : goal.returns
returns g c k p needed bytes start here =
    stopped_all k p needed bytes start _ _ _ c.in-Err.fault
    (λ (w : IsWriteFault c.in-Err.fault). let absurd_is : true ≡ false = sym (c.is_of_writing.ensures.1 w) ∙ c.if-is_of_writing.false in cc)
    (c.in-Err.ensures {u = tt} k p needed bytes start here) (c.in_ok-write_out.ensures {u = tt}).all
