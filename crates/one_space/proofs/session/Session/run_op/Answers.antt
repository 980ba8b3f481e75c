use Rattle.std.proofs.Common.{refl, ap, ◌∙◌}
use Rattle.tuple_codec.specs.OperationView.{operation_of}
use Rattle.space.specs.Births.{tuples_of}
use Rattle.space.proofs.Keeping.{tuples_of-state_after}
use Rattle.one_space.proofs.RunLemmas.{state_after_next}
use Rattle.one_space.proofs.session.Session.run_op.Goals as goal

pub returns-in-Ok-clause-births : goal.returns-in-Ok-clause-births
returns-in-Ok-clause-births g c = rw (c.in-Ok.ensures {u = tt}).state (state_after_next c.args.self.now.space (operation_of c.args.op.now))

pub returns-in-Ok-clause-runs : goal.returns-in-Ok-clause-runs
returns-in-Ok-clause-runs g c =
    let ran = c.in-Ok.ensures {u = tt} in
    (refl, ap tuples_of ran.state ∙ tuples_of-state_after c.args.self.now.space 0 (operation_of c.args.op.now), ran.ok, refl)
