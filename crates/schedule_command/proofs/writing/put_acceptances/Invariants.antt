use Rattle.std.proofs.Common.{◌≡◌, ◌++◌, drop, map, flat_map}
use Rattle.schedule_world.specs.Stages.{acceptance_of}
use Rattle.schedule_command.specs.Texts.{accepted_line}
use Rattle.schedule_command.proofs.writing.put_acceptances.Given as goal

abbrev pub invariant-loop-acceptance : goal.invariant-loop-acceptance
invariant-loop-acceptance l = l.text.items ++ flat_map accepted_line (map acceptance_of (drop l.acceptance-index l.accepted)) ≡ l.fn.text.items ++ flat_map accepted_line (map acceptance_of l.accepted)
