-- What the private functions that find entries by their births speak of.
use Rattle.std.specs.Prelude.{◌≡◌, ℕ, List, take, map, filter, find, flat_map, fold, Option, option_map, option_to_list}
use Rattle.std.specs.Prelude.{Result, IfOk, Vec}
use Rattle.std.specs.Borrow.{Bor}
use Rattle.std.specs.Ordering.{nat_cmp}
use Rattle.std.specs.Map.{lookup, remove_entry}
use Rattle.std.specs.BTreeMap.{is_at}
use Rattle.tuple_tree.specs.Values.{TupleTree, TemplateTree}
use Rattle.template_match.specs.Tests.{is_match}
use Rattle.space.specs.Births.{BornTuple, SpaceState}
use Rattle.space.specs.Pages.{entries_text}
use Rattle.space.specs.declared.version.Version.{Version}

-- the tuples that lie behind these loans
abbrev pub lent_tuples : List (Bor TupleTree) → List TupleTree
lent_tuples ts = map (λ t. t.now) ts

-- the entry of a birth
abbrev pub entry_of_birth : List BornTuple → ℕ → List BornTuple
entry_of_birth es birth = map (λ t. (birth, t)) (option_to_list (lookup (is_at (nat_cmp birth)) es))

-- the entries of these births
abbrev pub entries_at : List BornTuple → List ℕ → List BornTuple
entries_at es births = flat_map (entry_of_birth es) births

-- the text of the entries of these births
abbrev pub births_text : Version → List BornTuple → List ℕ → List ℕ
births_text v es births = entries_text v (entries_at es births)

-- the state without the entry of a birth
abbrev pub without_birth : SpaceState → ℕ → SpaceState
without_birth s birth = record s { entries = remove_entry (is_at (nat_cmp birth)) s.entries }

-- the state without the entries of these births
abbrev pub without_births : SpaceState → List ℕ → SpaceState
without_births s births = fold without_birth s births

-- the oldest entry that the template matches
abbrev pub oldest_in : TemplateTree → List BornTuple → Option BornTuple
oldest_in p es = find (λ e. is_match p e.1) es

-- the tuples that the template matches
abbrev pub matches_in : TemplateTree → List BornTuple → List TupleTree
matches_in p es = filter (is_match p) (map (λ e. e.1) es)

-- those of these births
abbrev pub matches_at : TemplateTree → List BornTuple → List ℕ → List TupleTree
matches_at p es births = matches_in p (entries_at es births)

-- The tuple of the birth is found, if the template matches it.
abbrev pub IsMatchAt : TemplateTree → List BornTuple → ℕ → Option (Bor TupleTree) → Type 0
IsMatchAt p es birth found = option_map (λ t. (birth, t.now)) found ≡ oldest_in p (entry_of_birth es birth)

-- The oldest match is found, with its birth: that of all, or that of these births.
abbrev pub IsOldest : TemplateTree → List BornTuple → Option (ℕ × Bor TupleTree) → Type 0
IsOldest p es found = option_map (λ x. (x.0, x.1.now)) found ≡ oldest_in p es

abbrev pub IsOldestAt : TemplateTree → List BornTuple → List ℕ → Option (ℕ × Bor TupleTree) → Type 0
IsOldestAt p es births found = IsOldest p (entries_at es births) found

-- The n oldest matches are copied, or as many as there are: those of all, or those of these births.
abbrev pub AreOldest : {E : Type 0} → ℕ → TemplateTree → List BornTuple → Result (List TupleTree) E → Type 0
AreOldest n p es result = IfOk result (λ copies. copies ≡ take n (matches_in p es))

abbrev pub AreOldestAt : {E : Type 0} → ℕ → TemplateTree → List BornTuple → List ℕ → Result (List TupleTree) E → Type 0
AreOldestAt n p es births result = AreOldest n p (entries_at es births) result

-- They are seen where they lie.
abbrev pub AreOldestSeen : {A E : Type 0} → ℕ → TemplateTree → List BornTuple → List ℕ
    → Result (Vec (Bor TupleTree) A) E → Type 0
AreOldestSeen n p es births result = IfOk result (λ seen. lent_tuples seen.items ≡ take n (matches_at p es births))
