-- The code of the states of parties that contracts see. A proof tells them apart by it.
use Rattle.std.specs.Prelude.{◌≡◌, ℕ, Bool, List, refl}
use Rattle.std.specs.Coded.{Coded, code_by, coded×, coded_ℕ, coded_bool}
use Rattle.protocol.specs.System.Trace.{Entry}
use Rattle.journal.specs.Codes.{entries_code}
use Rattle.space_node.specs.PartyStates.{PartyState}

abbrev pub party_state_parts : PartyState → ℕ × (List Entry × Bool)
party_state_parts s = (s.party, (s.history, s.stopped))

abbrev pub party_state_from : ℕ × (List Entry × Bool) → PartyState
party_state_from x = record { party = x.0; history = x.1.0; stopped = x.1.1 }

pub party_state_from-parts : (s : PartyState) → party_state_from (party_state_parts s) ≡ s
party_state_from-parts s = refl

abbrev pub party_state_code : Coded PartyState
party_state_code =
    code_by (ℕ × (List Entry × Bool)) (coded× coded_ℕ (coded× entries_code coded_bool)) party_state_parts
    party_state_from party_state_from-parts
