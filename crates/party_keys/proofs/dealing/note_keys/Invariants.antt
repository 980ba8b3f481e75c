use Rattle.std.proofs.Common.{take}
use Rattle.std.specs.Prelude.{All}
use Rattle.party_keys.specs.PartyData.{IsKey}
use Rattle.party_keys.proofs.dealing.note_keys.Given as goal

abbrev pub invariant-loop-key : goal.invariant-loop-key
invariant-loop-key l = All IsKey (take l.key-index l.keys)
