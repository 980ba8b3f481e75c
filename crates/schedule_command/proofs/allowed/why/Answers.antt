use Rattle.tuple_codec.specs.OperationView.{operation_of}
use Rattle.schedule_command.proofs.Reasons.{why_busy}
use Rattle.schedule_command.proofs.allowed.why.Goals as goal

pub returns-in-Invoke : goal.returns-in-Invoke
returns-in-Invoke c =
    rw c.in-Invoke.is
    (why_busy c.args.config.now c.in-Invoke.client.number (operation_of c.in-Invoke.op) c.faults-faults.ensures.valid
    (rw (c.in_default.is, c.in-Invoke.is) at c.misfit.ensures) c.note_valid.ensures)
