use Rattle.std.proofs.Common.{◌≡◌, ◌-◌, ◌++◌, map}
use Rattle.std.specs.List.{range_with_len}
use Rattle.journal.specs.Histories.{correct_of}
use Rattle.journal.specs.Parts.{fresh}
use Rattle.journal.proofs.opening.add_shares.Given as goal

abbrev pub invariant-loop-number : goal.invariant-loop-number
invariant-loop-number g l =
    l.shares.items ++ map fresh (correct_of l.config (range_with_len l.number (l.to - l.number)))
    ≡ l.fn.shares.items ++ map fresh (correct_of l.config (range_with_len l.from (l.to - l.from)))
