use Rattle.std.proofs.Common.{not}
use Rattle.desk.specs.Waiting.{is_of}
use Rattle.desk.proofs.WaitingKept.{kept_waits}
use Rattle.desk.proofs.waiting.Waiting.remove.Goals as goal

pub invariant_of-self : goal.invariant_of-self
invariant_of-self c =
    rw (c.keep_others.ensures) (kept_waits (λ r. not (is_of c.args.client.number r)) (record { requests = c.self.inside.requests.items; assigned = c.self.inside.assigned.items }) c.self.invariant)
