-- The values of a journal and of its shares that contracts see, and their changes by an event.
use Rattle.std.specs.Prelude.{◌≡◌, ℕ, ◌+◌, ◌≤◌, List, [], length, map, Option}
use Rattle.protocol.specs.System.Configuration.{Configuration}
use Rattle.protocol.specs.System.Trace.{Entry, history_of}
use Rattle.events.specs.Outputs.{after_entries}
use Rattle.journal.specs.Carrying.{IsCarriedFrom}
use Rattle.journal.specs.Histories.{correct_parties, correct_replicas}
use Rattle.protocol.specs.System.Reads.{without_reads}

-- A journal: its trace, the newest entry first, and how many entries it takes.
pub record Journaled : Type 0 where
  pub trace : List Entry
  pub limit : ℕ

-- A share: its party, and the party's history, the newest entry first.
pub record Part : Type 0 where
  pub party : ℕ
  pub history : List Entry

-- a configuration of nobody
abbrev pub no_configuration : Configuration
no_configuration = record {
  faults = 0;
  clients = 0;
  seed = [];
  publics = [];
  period = 0;
  faulty_replicas = [];
  faulty_clients = [];
}

-- the share of a party that has done nothing
abbrev pub fresh : ℕ → Part
fresh p = record { party = p; history = [] }

-- a new journal, with a share for each correct party, and one of ordering for each correct replica
pub record IsOpening (c : Configuration) (limit : ℕ) (journal : Journaled) (shares orders : List Part) : Type 0 where
  pub journal_is : journal ≡ record { trace = []; limit = limit }
  pub shares_are : shares ≡ map fresh (correct_parties c)
  pub orders_are : orders ≡ map fresh (correct_replicas c)

-- the journal after these entries
abbrev pub longer : Journaled → List Entry → Journaled
longer journal entries = record journal { trace = after_entries entries journal.trace }

abbrev pub longer_part : Part → List Entry → Part
longer_part part entries = record part { history = after_entries entries part.history }

-- the journal's history of the party is the share's
abbrev pub JournalAgrees : Journaled → Part → Type 0
JournalAgrees journal share = history_of share.party journal.trace ≡ share.history

-- the same, and the frame that the event received was sent or may come from anywhere
abbrev pub InStep : Configuration → Journaled → Part → Option ℕ → List Entry → Type 0
InStep c journal share from entries = JournalAgrees journal share × IsCarriedFrom c journal.trace from entries

-- there is room for the entries
abbrev pub JournalHasRoom : Journaled → List Entry → Type 0
JournalHasRoom journal entries = length journal.trace + length entries ≤ journal.limit

-- the share of ordering has the share's history without reads
abbrev pub AgreeInOrdering : Part → Part → Type 0
AgreeInOrdering share order = (share.party ≡ order.party) × (without_reads share.history ≡ order.history)
