-- Codes of the values of journals, shares and ties that contracts see. A proof tells them apart by these.
use Rattle.std.specs.Prelude.{◌≡◌, ℕ, List, refl}
use Rattle.std.specs.Coded.{Coded, code_by, coded_list, coded×, coded_ℕ}
use Rattle.protocol.specs.System.Trace.{Entry}
use Rattle.events.specs.Codes.{entry_code}
use Rattle.journal.specs.Parts.{Journaled, Part}
use Rattle.journal.specs.Ties.{Knot}

abbrev pub entries_code : Coded (List Entry)
entries_code = coded_list entry_code

abbrev pub events_code : Coded (List (List Entry))
events_code = coded_list entries_code

abbrev pub journaled_parts : Journaled → List Entry × ℕ
journaled_parts j = (j.trace, j.limit)

abbrev pub journaled_from : List Entry × ℕ → Journaled
journaled_from x = record { trace = x.0; limit = x.1 }

pub journaled_from-parts : (j : Journaled) → journaled_from (journaled_parts j) ≡ j
journaled_from-parts j = refl

abbrev pub journaled_code : Coded Journaled
journaled_code =
    code_by (List Entry × ℕ) (coded× entries_code coded_ℕ) journaled_parts journaled_from journaled_from-parts

abbrev pub part_parts : Part → ℕ × List Entry
part_parts p = (p.party, p.history)

abbrev pub part_from : ℕ × List Entry → Part
part_from x = record { party = x.0; history = x.1 }

pub part_from-parts : (p : Part) → part_from (part_parts p) ≡ p
part_from-parts p = refl

abbrev pub part_code : Coded Part
part_code = code_by (ℕ × List Entry) (coded× coded_ℕ entries_code) part_parts part_from part_from-parts

abbrev pub KnotParts : Type 0
KnotParts = List (List Entry) × (List ℕ × List ℕ)

abbrev pub knot_parts : Knot → KnotParts
knot_parts k = (k.events, (k.lasts, k.ordered))

abbrev pub knot_from : KnotParts → Knot
knot_from x = record { events = x.0; lasts = x.1.0; ordered = x.1.1 }

pub knot_from-parts : (k : Knot) → knot_from (knot_parts k) ≡ k
knot_from-parts k = refl

abbrev pub knot_code : Coded Knot
knot_code =
    code_by KnotParts (coded× events_code (coded× (coded_list coded_ℕ) (coded_list coded_ℕ))) knot_parts knot_from
    knot_from-parts
