use Rattle.tuple_codec.proofs.Skipping.{skip_both, skip_both_fails}
use Rattle.tuple_codec.proofs.check.skip_cas.Goals as goal

pub returns-in-Some : goal.returns-in-Some
returns-in-Some c = rw (skip_both c.args.bytes.now c.in-Some.after.now c.in-Some.ensures) c.skip_tuple.ensures

pub returns-in-None : goal.returns-in-None
returns-in-None c = skip_both_fails c.args.bytes.now c.in-None.ensures
