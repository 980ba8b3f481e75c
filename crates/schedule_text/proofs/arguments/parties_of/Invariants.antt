use Rattle.std.proofs.Common.{map, length}
use Rattle.terms.specs.Parties.{party_number}
use Rattle.schedule_text.proofs.Parties.{Leaves}
use Rattle.schedule_text.proofs.arguments.parties_of.Given as goal

abbrev pub invariant-loop-party : goal.invariant-loop-party
invariant-loop-party l = Leaves (map party_number l.parties.items) l.rest l.word.text.now

abbrev pub decreases-loop-party : goal.decreases-loop-party
decreases-loop-party l = length l.rest
