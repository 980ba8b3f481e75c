use Rattle.desk.proofs.WaitingKept.{numbered_waits}
use Rattle.desk.proofs.waiting.Waiting.note_numbered.Goals as goal

pub invariant_of-self : goal.invariant_of-self
invariant_of-self c =
    rw (c.number_first.ensures) (numbered_waits c.args.count (record { requests = c.self.inside.requests.items; assigned = c.self.inside.assigned.items }) c.self.invariant)
