-- The model of the program's sets P and Q.
use Rattle.std.specs.Prelude.{◌≡◌, ℕ, List, [], map}
use Rattle.std.specs.Arc.{arc_value}
use Rattle.sha2.specs.Sha256.{sha256}
use Rattle.wire_format.specs.Messages.{BatchEntryData}
use Rattle.wire_format.specs.Spelling.{batch_entry_before, named_before}
use Rattle.wire_format.specs.Views.{batch_entry_data}
use Rattle.protocol.specs.System.Trace.{Has}
use Rattle.pq_sets.specs.declared.pq_entry.PqEntry.{PqEntry}
use Rattle.pq_sets.specs.declared.pq_sets.PqSets.TheInside.{Inside}
use Rattle.pq_sets.specs.Recording.{Ascends}

-- The prepared and the logged batches, as a view change lists them, and the texts of the logged batches, in the same
-- order.
pub record PqSetsData : Type 0 where
  pub prepared : List BatchEntryData
  pub logged : List BatchEntryData
  pub texts : List (List ℕ)

abbrev pub pq_entry_data : PqEntry → BatchEntryData
pq_entry_data pq_entry = batch_entry_data pq_entry.entry

abbrev pub pq_entries_of : List PqEntry → List BatchEntryData
pq_entries_of pq_set = map pq_entry_data pq_set

abbrev pub texts_in : List PqEntry → List (List ℕ)
texts_in pq_set = map (λ pq_entry. arc_value pq_entry.batch) pq_set

abbrev pub pq_sets_data : Inside → PqSetsData
pq_sets_data c =
    record {
      prepared = pq_entries_of c.prepared.items;
      logged = pq_entries_of c.logged.items;
      texts = texts_in c.logged.items;
    }

abbrev pub empty_pq_sets : PqSetsData
empty_pq_sets = record { prepared = []; logged = []; texts = [] }

-- each list has its order
pub record ArePqSets (c : PqSetsData) : Type 0 where
  pub prepared : Ascends batch_entry_before c.prepared
  pub logged : Ascends named_before c.logged

-- the entry of a batch at a number in a view
abbrev pub pq_entry_of : ℕ → ℕ → List ℕ → BatchEntryData
pq_entry_of number view text = record { number = number; digest = sha256 text; view = view }

-- the digests of entries
abbrev pub digests_of : List BatchEntryData → List (List ℕ)
digests_of pq_set = map (λ pq_entry. pq_entry.digest) pq_set

-- one of these texts
abbrev pub IsAmongTexts : List (List ℕ) → List ℕ → Type 0
IsAmongTexts texts text = Has (λ t. t ≡ text) texts
