use Rattle.desk.specs.Waiting.{is_new}
use Rattle.desk.proofs.WaitingKept.{kept_waits}
use Rattle.desk.proofs.waiting.Waiting.forget.Goals as goal

pub invariant_of-self : goal.invariant_of-self
invariant_of-self c =
    rw (c.keep_new.ensures) (kept_waits (is_new c.args.executed.now.state) (record { requests = c.self.inside.requests.items; assigned = c.self.inside.assigned.items }) c.self.invariant)
