-- The text of a run: the lines of its report, and those of its entries.
use Rattle.std.specs.Prelude.{ℕ, ◌+◌, List, [], ◌∷◌, ◌++◌, codes, flat_map, length, reverse}
use Rattle.std.specs.Fmt.{decimal}
use Rattle.terms.specs.Parties.{client_number}
use Rattle.tuple_codec.specs.Operations.{Outcome}
use Rattle.tuple_text.specs.Written.{outcome_text}
use Rattle.protocol.specs.System.Configuration.{Configuration}
use Rattle.protocol.specs.System.Trace.{Entry}
use Rattle.protocol.specs.System.Schedule.{Acceptance, acceptances}
use Rattle.protocol.specs.Space.Linear.{Item, points}
use Rattle.trace_text.specs.Lines.{entry_line}

-- the end of a line: the call of a client, and its answer
abbrev pub answered : ℕ → ℕ → Outcome → List ℕ
answered client timestamp answer =
    codes " client " ++ decimal client ++ codes " time " ++ decimal timestamp ++ codes " " ++ outcome_text answer
    ++ 10 ∷ []

abbrev pub accepted_line : Acceptance → List ℕ
accepted_line a = codes "accepted " ++ decimal a.position ++ answered a.client a.timestamp a.answer

abbrev pub point_line : Item → List ℕ
point_line p = codes "point " ++ decimal p.position ++ answered (client_number p.client) p.timestamp p.answer

abbrev pub trace_line : ℕ → List ℕ
trace_line entries = codes "trace " ++ decimal entries ++ 10 ∷ []

-- the lines of acceptances, those of points, and the length of the trace
abbrev pub report_lines : List Acceptance → List Item → ℕ → List ℕ
report_lines accepted items entries =
    flat_map accepted_line accepted ++ flat_map point_line items ++ trace_line entries

-- The report of a trace, whose newest entry stands first. Both kinds of lines come by position.
abbrev pub report_text : Configuration → List Entry → List ℕ
report_text c trace = report_lines (reverse (acceptances trace)) (points c trace) (length trace)

-- the line of an entry at this position
abbrev pub numbered_line : ℕ → Entry → List ℕ
numbered_line position e = decimal position ++ codes " " ++ entry_line e ++ 10 ∷ []

-- the lines of entries, the oldest of them first and at this position
abbrev pub numbered_lines : ℕ → List Entry → List ℕ
numbered_lines position [] = []
numbered_lines position (e ∷ entries) = numbered_line position e ++ numbered_lines (position + 1) entries
