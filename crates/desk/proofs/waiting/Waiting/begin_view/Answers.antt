use Rattle.desk.proofs.WaitingKept.{view_waits}
use Rattle.desk.proofs.waiting.Waiting.begin_view.Goals as goal

pub invariant_of-self : goal.invariant_of-self
invariant_of-self c =
    rw (c.renumber.ensures, c.deref.ensures.value) (view_waits c.args.calls.items (record { requests = c.self.inside.requests.items; assigned = c.self.inside.assigned.items }) c.self.invariant)
