use Rattle.std.proofs.Common.{arith, ◌^◌}
use Rattle.std.specs.Io.Buffered.{reader_remaining}
use Rattle.one_space.specs.Moments.{left_of}
use Rattle.one_space.proofs.RunLemmas.{at_number, begins_known, each_known}
use Rattle.one_space.proofs.session.Session.run_lines.Goals as goal

pub loop-number-init : goal.loop-number-init
loop-number-init g c = record {
  births = omega (arith, c.requires.no_births);
  along = begins_known c.args.manner (reader_remaining g.R.Read.remaining c.args.reader.now) _ (left_of c.args.self.now) c.requires.no_results c.requires.no_refusals;
}

pub returns : goal.returns
returns g c = each_known _ _ _ (λ bytes here. c.end_lines.ensures _ bytes _ here) (at_number _ _ _ _ c.loop-number.number (2 ^ 48) _ _ _ (omega arith) c.loop-number.invariant.along)
