use Rattle.std.proofs.Common.{refl}
use Rattle.std.proofs.lemmas.Result.{err_from_is_err_and}
use Rattle.records.specs.NoticeView.{notice_data}
use Rattle.replica_process.specs.declared.fault.ServeFault.TheVariants.{Read}
use Rattle.replica_process.proofs.Running.{stops, took, took_none, ends_here, passes_on, takes_on}
use Rattle.replica_process.proofs.process.Process.take_record.Goals as goal

pub returns-in-Ok-false : goal.returns-in-Ok-false
returns-in-Ok-false g c k p needed bytes start written here =
    ends_here g.M.Machine.me g.M.Machine.fits g.met.M.Machine.is_right k p needed bytes start _ written _ here
    (took_none g.M.Machine.me g.M.Machine.fits g.met.M.Machine.is_right k p needed bytes start _ written _ here _ _ c.advance.result c.in-Ok-false.field-0 c.in-Ok-false.is c.in-Ok-false.field-0-test c.advance.ensures)

pub returns-in-Err : goal.returns-in-Err
returns-in-Err g c k p needed bytes start written here = stops g.M.Machine.me g.M.Machine.fits g.met.M.Machine.is_right k p needed bytes start _ written _ here (Read c.in-Err.error) _ refl

pub returns-in_default : goal.returns-in_default
returns-in_default g c k p needed bytes start written here =
    passes_on g.M.Machine.me g.M.Machine.fits g.met.M.Machine.is_right k p needed bytes start _ written _ here _ _
    (took g.M.Machine.me g.M.Machine.fits g.met.M.Machine.is_right k p needed bytes start _ written _ here _ _ c.advance.result c.in-Ok-true.field-0 c.in-Ok-true.is c.in-Ok-true.field-0-test c.advance.ensures)
    ((c.in_default.ensures {u = tt}).nothing)

pub returns-in_err-take : goal.returns-in_err-take
returns-in_err-take g c k p needed bytes start written here =
    let e = err_from_is_err_and c.from_residual.result c.from_residual.ensures.1 in
    rw e.1 (stops g.M.Machine.me g.M.Machine.fits g.met.M.Machine.is_right k p needed bytes start _ written _ here e.0 _ (c.in_err-take.ensures {u = tt}).err)

pub returns : goal.returns
returns g c k p needed bytes start written here =
    takes_on g.M.Machine.me g.M.Machine.fits g.met.M.Machine.is_right k p needed bytes start _ written _ here _ _
    (took g.M.Machine.me g.M.Machine.fits g.met.M.Machine.is_right k p needed bytes start _ written _ here _ _ c.advance.result c.in-Ok-true.field-0 c.in-Ok-true.is c.in-Ok-true.field-0-test c.advance.ensures)
    (notice_data c.in-Some.notice) ((c.in-Some.ensures {u = tt}).tells) _
    ((c.in_ok-take.ensures {u = tt}).takes k p needed here.history here.past here.holds)
