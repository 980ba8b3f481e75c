use Rattle.std.proofs.Common.{refl}
use Rattle.space.specs.Births.{tuples_of}
use Rattle.one_space.specs.Moments.{left_of}
use Rattle.one_space.proofs.RunLemmas.{all_ended, all_stopped, not_begun, of_known, once_remaining}
use Rattle.one_space.proofs.session.Session.run.Goals as goal

pub returns-in-Err : goal.returns-in-Err
returns-in-Err g c = not_begun c.args.manner (g.R.Read.remaining c.args.reader) _ (left_of c.args.self.now) c.requires.no_results c.requires.no_refusals

pub returns-in-Ok-run_lines : goal.returns-in-Ok-run_lines
returns-in-Ok-run_lines g c =
    let made = c.in-Ok.ensures {u = tt} in
    let known = once_remaining g.R.Read.remaining c.in-Ok.input c.new.result c.args.reader made.inner made.empty made.capacity c.new.ensures in
    all_ended c.args.manner (tuples_of c.args.self.now.space) (g.R.Read.remaining c.args.reader) _ _ _ (left_of c.run_lines.new.self) c.write_out.result refl
    c.write_out.ensures.written c.write_out.ensures.err (of_known _ _ _ known (c.in-Ok-run_lines.ensures {u = tt}))

pub returns-in-Ok-write_out : goal.returns-in-Ok-write_out
returns-in-Ok-write_out g c =
    let made = c.in-Ok.ensures {u = tt} in
    let known = once_remaining g.R.Read.remaining c.in-Ok.input c.new.result c.args.reader made.inner made.empty made.capacity c.new.ensures in
    all_stopped c.args.manner (tuples_of c.args.self.now.space) (g.R.Read.remaining c.args.reader) _ _ _ _ c.in-Err-run_lines.fault refl
    (c.in-Ok-write_out.ensures {u = tt}).written (of_known _ _ _ known (c.in-Err-run_lines.ensures {u = tt}))
