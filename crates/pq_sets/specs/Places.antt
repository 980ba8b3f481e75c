-- Words of the private functions that put an entry in its place.
use Rattle.std.specs.Prelude.{ℕ, zero, suc, Bool, false, ◌||◌, List, [], ◌∷◌, if◌then◌else◌}
use Rattle.wire_format.specs.Messages.{BatchEntryData as PqEntry}
use Rattle.wire_format.specs.Spelling.{batch_entry_before, named_before}
use Rattle.pq_sets.specs.declared.pq_entry.PqOrder.{PqOrder}
use Rattle.pq_sets.specs.declared.pq_entry.PqOrder.TheVariants as orders
use Rattle.pq_sets.specs.Recording.{same_number, same_name, with_pq_entry}

abbrev pub before_by : PqOrder → PqEntry → PqEntry → Bool
before_by orders.Number = batch_entry_before
before_by orders.NumberAndDigest = named_before

abbrev pub same_by : PqOrder → PqEntry → PqEntry → Bool
same_by orders.Number = same_number
same_by orders.NumberAndDigest = same_name

abbrev pub with_pq_entry_by : PqOrder → PqEntry → List PqEntry → List PqEntry
with_pq_entry_by order = with_pq_entry (before_by order) (same_by order)

-- how many entries stand before the first that names the same or comes after
abbrev pub place_in : PqOrder → PqEntry → List PqEntry → ℕ
place_in order pq_entry [] = 0
place_in order pq_entry (x ∷ xs) =
    if same_by order x pq_entry || before_by order pq_entry x then 0 else suc (place_in order pq_entry xs)

-- whether an entry that names the same stands at the place
abbrev pub same_at : PqOrder → PqEntry → ℕ → List PqEntry → Bool
same_at order pq_entry place [] = false
same_at order pq_entry zero (x ∷ xs) = same_by order x pq_entry
same_at order pq_entry (suc place) (x ∷ xs) = same_at order pq_entry place xs
