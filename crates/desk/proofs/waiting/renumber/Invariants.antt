use Rattle.std.proofs.Common.{◌≡◌, ◌++◌, map, take, drop}
use Rattle.desk.specs.Waiting.{renumbered}
use Rattle.desk.proofs.waiting.renumber.Given as goal

abbrev pub invariant-loop-request : goal.invariant-loop-request
invariant-loop-request l =
    take l.request-index l.request-items ++ map (renumbered l.calls) (drop l.request-index l.request-items) ≡ map (renumbered l.calls) l.fn.requests.items
