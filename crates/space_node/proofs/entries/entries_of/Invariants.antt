use Rattle.std.proofs.Common.{◌≡◌, ◌∷◌, map, take}
use Rattle.terms.specs.Parties.{party_number}
use Rattle.wire_format.specs.Lists.{Each}
use Rattle.events.specs.Outputs.{entry_of}
use Rattle.journal.specs.Histories.{IsOutputOf}
use Rattle.space_node.proofs.entries.entries_of.Given as goal

abbrev pub invariant-loop-output : goal.invariant-loop-output
invariant-loop-output l =
    (l.entries.items ≡ l.fn.input ∷ map (entry_of (party_number l.party)) (take l.output-index l.outputs))
    × Each (IsOutputOf (party_number l.party)) (map (entry_of (party_number l.party)) (take l.output-index l.outputs))
