use Rattle.std.proofs.Common.{◌≡◌, ◌-◌, ◌++◌, map}
use Rattle.std.specs.List.{range_with_len}
use Rattle.protocol.specs.System.Configuration.{replicas}
use Rattle.journal.specs.Histories.{correct_of, correct_replicas}
use Rattle.journal.specs.Parts.{fresh}
use Rattle.journal.proofs.opening.new_order_shares.Given as goal

abbrev pub invariant-loop-number : goal.invariant-loop-number
invariant-loop-number g l =
    l.shares.items ++ map fresh (correct_of l.config (range_with_len l.number (replicas l.config - l.number)))
    ≡ map fresh (correct_replicas l.config)
