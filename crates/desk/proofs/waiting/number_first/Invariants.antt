use Rattle.std.proofs.Common.{◌≡◌, ◌++◌, take, drop}
use Rattle.desk.specs.Waiting.{all_numbered}
use Rattle.desk.proofs.waiting.number_first.Given as goal

abbrev pub invariant-loop-request : goal.invariant-loop-request
invariant-loop-request l =
    take l.request-index l.request-items ++ all_numbered l.left (drop l.request-index l.request-items) ≡ all_numbered l.count l.fn.requests.items
