use Rattle.std.proofs.Common.{◌≡◌, ◌++◌, drop}
use Rattle.std.specs.List.{flat_map}
use Rattle.run_command.specs.Drilled.{one_asked}
use Rattle.run_command.proofs.drills.drills_in.Given as goal

-- with the drills that are left they are all
abbrev pub invariant-loop-drilled : goal.invariant-loop-drilled
invariant-loop-drilled l =
    l.drills.items ++ flat_map one_asked (drop l.drilled-index l.asked) ≡ flat_map one_asked l.asked
