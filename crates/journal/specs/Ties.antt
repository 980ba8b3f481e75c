-- The tie of a journal to its shares: a history of events that only proofs know, and beginnings of it that were seen.
-- An event is a list of its entries. Here the oldest stands first.
use Rattle.std.specs.Prelude.{ℕ, ◌≡◌, ◌==◌, ◌≤◌, true, List, [], ◌∷◌, ◌++◌, length, drop, slice_get, slice_set, MatchBool, if◌then◌else◌, Option, Some, IfSome}
use Rattle.std.specs.List.{list_any}
use mathlib.Core.List.{IsPrefix}
use Rattle.logbook.specs.Pages.{Cell, Step, View, Book, Named}
use Rattle.protocol.specs.System.Trace.{Entry, history_of}
use Rattle.journal.specs.Comparing.{ordering_of}
use Rattle.journal.specs.Histories.{IsEventOf}
use Rattle.protocol.specs.System.Reads.{orders, without_reads}

-- The first word is the number of events. A book has two words; the second stays 0.
abbrev pub CellsCountEvents : List Cell → List (List Entry) → Type 0
CellsCountEvents cells events = cells ≡ (length events, true) ∷ (0, true) ∷ []

abbrev pub head_of : Book → Named
head_of b = record { tracked = true; key = 0; book = b }

abbrev pub no_book : Book
no_book = record { number = 0; log_name = 0; cells_name = 0 }

-- the event was added to the events seen before, or the history was longer, and is now seen
abbrev pub BookAddsEvent : Step (List Entry) → View (List Entry) ℕ → ℕ → View (List Entry) ℕ → Type 0
BookAddsEvent s v found w = MatchBool (found == s.old) (w.0 ≡ v.0 ++ s.ask ∷ []) (length w.0 ≡ found)

-- the entries of the events
abbrev pub entries_in : List (List Entry) → List Entry
entries_in [] = []
entries_in (event ∷ events) = event ++ entries_in events

-- The tie of a journal: its events, and for each party the number of events up to its last one, and up to its last
-- one of ordering.
pub record Knot : Type 0 where
  pub events : List (List Entry)
  pub lasts : List ℕ
  pub ordered : List ℕ

-- A kind of entries of a party, as those of its history, or of its ordering.
abbrev pub Kind : Type 0
Kind = ℕ → List Entry → List Entry

-- after so many events the party has no entry of the kind
abbrev pub AreLast : Kind → List (List Entry) → List ℕ → Type 0
AreLast of events lasts =
    (p last : ℕ) → slice_get lasts p ≡ Some last → of p (entries_in (drop last events)) ≡ []

pub record IsTied (knot : Knot) (entries : List Entry) : Type 0 where
  pub entries_are : entries_in knot.events ≡ entries
  pub lasts : AreLast history_of knot.events knot.lasts
  pub ordered : AreLast ordering_of knot.events knot.ordered

-- the events are those of the journal, which may be untied
abbrev pub TiesJournal : Option Knot → List Entry → Type 0
TiesJournal tie entries = IfSome tie (λ knot. IsTied knot entries)

-- the events that were seen have this history, of the entries of the kind
abbrev pub SeenHasHistory : Kind → Option (List (List Entry)) → ℕ → List Entry → Type 0
SeenHasHistory of seen p history = IfSome seen (λ events. of p (entries_in events) ≡ history)

-- The events that were seen begin the whole, and are at least as many as those up to a party's last one.
pub record SeenReachesLast (seen whole : List (List Entry)) (last : Option ℕ) : Type 0 where
  pub count : ℕ
  pub count_is : last ≡ Some count
  pub few : count ≤ length seen
  pub begins : IsPrefix seen whole

-- if the journal is so tied, the events that were seen have all entries of the kind
abbrev pub SeenShowsAll : Kind → Option Knot → Option (List (List Entry)) → ℕ → Type 0
SeenShowsAll of tie seen p =
    (entries history : List Entry) → TiesJournal tie entries → SeenHasHistory of seen p history → of p entries ≡ history

-- an event of the party is added
pub record AddsEvent (p : ℕ) (event : List Entry) (old new : Knot) : Type 0 where
  pub events : new.events ≡ old.events ++ event ∷ []
  pub lasts : new.lasts ≡ slice_set old.lasts p (length new.events)
  pub ordered : new.ordered
      ≡ (if list_any orders event then slice_set old.ordered p (length new.events) else old.ordered)

-- the tie is that of the longer journal, and shows all that it has of the party
pub record TiesLonger (p : ℕ) (event entries : List Entry) (tie : Option Knot)
    (seen : Option (List (List Entry))) : Type 0 where
  pub ties : TiesJournal tie (entries ++ event)
  pub history : SeenHasHistory history_of seen p (history_of p entries ++ event)
  pub ordering : SeenHasHistory ordering_of seen p (ordering_of p entries ++ without_reads event)

-- if a journal was tied before an event of the party, the longer one is after it
abbrev pub KeepsTies : ℕ → List Entry → Option Knot → Option Knot → Option (List (List Entry)) → Type 0
KeepsTies p event old new seen =
    (entries : List Entry) → IsEventOf p event → TiesJournal old entries → TiesLonger p event entries new seen

-- the history is the party's, in a journal that is so tied
abbrev pub IsTiedHistory : Option Knot → ℕ → List Entry → Type 0
IsTiedHistory tie p history = (entries : List Entry) × TiesJournal tie entries × (history_of p entries ≡ history)
