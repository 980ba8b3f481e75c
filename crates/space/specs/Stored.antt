-- What callers see of the stored tuples: their births in order of age, wherever they lie.
use Rattle.std.specs.Prelude.{◌≡◌, ℕ, ◌<◌, ◌==◌, List, [], ◌∷◌, length, map, slice_index_or, Option, Some, None, refl}
use Rattle.std.specs.List.{IsDistinct}
use Rattle.std.specs.Map.{keys_of, lookup}
use Rattle.std.specs.Coded.{Coded, code_by, coded×, coded_list, coded_ℕ}
use Rattle.std.specs.Ordering.{nat_cmp}
use Rattle.std.specs.BTreeMap.{insert_entry}
use Rattle.tuple_tree.specs.Items.{none}
use Rattle.tuple_tree.specs.ValuesCode.{tuple_code}
use Rattle.space.specs.Births.{BornTuple}
use Rattle.space.specs.Prints.{entry_label}
use Rattle.space.specs.declared.prints.Label.{Label}

-- the entries in the order of births; of two with one birth the first counts
abbrev pub in_order : List BornTuple → List BornTuple
in_order [] = []
in_order (e ∷ es) = insert_entry nat_cmp (in_order es) e.0 e.1

-- the stored tuples with their births, the oldest first
pub record StoredTuples : Type 0 where
  pub entries : List BornTuple

-- stored tuples as the list of their entries
abbrev pub stored_code : Coded StoredTuples
stored_code = code_by (List BornTuple) (coded_list (coded× coded_ℕ tuple_code)) (λ s. s.entries)
    (λ es. record { entries = es }) (λ _. refl)

-- The entry at this place has this birth.
pub record LiesAt (es : List BornTuple) (birth place : ℕ) : Type 0 where
  pub within : place < length es
  pub birth_there : (slice_index_or es place (birth, none)).0 ≡ birth

-- The place of a birth's entry, or none if there is no such entry.
abbrev pub LeadsTo : Option ℕ → ℕ → List BornTuple → Type 0
LeadsTo (Some place) birth es = LiesAt es birth place
LeadsTo None birth es = lookup (λ k. birth == k) es ≡ None

-- No birth has two entries.
abbrev pub AreApart : List BornTuple → Type 0
AreApart es = IsDistinct ◌==◌ (keys_of es)

-- No birth has two entries, and each entry's label is kept.
pub record AreLabelled (es : List BornTuple) (labels : List Label) : Type 0 where
  pub apart : AreApart es
  pub kept : labels ≡ map entry_label es
