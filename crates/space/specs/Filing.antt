-- Lists of births by small numbers and by keys, and the tuples that they lead to.
use Rattle.std.specs.Prelude.{◌≡◌, ℕ, ◌%◌, ◌<◌, ◌==◌, Bool, List, [], ◌∷◌, ◌++◌, length, map, filter, remove}
use Rattle.std.specs.Prelude.{slice_index_or, AllPairs, Option, Some, None, if◌then◌else◌}
use Rattle.std.specs.HashMap.{get_by}
use Rattle.space.specs.declared.births.TheConstants.{PAGES}
use Rattle.tuple_tree.specs.Items.{how_many}
use Rattle.tuple_tree.specs.Values.{TemplateTree}
use Rattle.space.specs.Ages.{births_without, AreRising, ListedBirths}
use Rattle.space.specs.Births.{BornTuple}
use Rattle.space.specs.Candidates.{is_candidate}
use Rattle.space.specs.KeyBirths.{births_of}
use Rattle.space.specs.Keys.{tuple_key}
use Rattle.space.specs.declared.key_births.KeyBirths.{KeyBirths}
use Rattle.space.specs.declared.birth_table.BirthTable.{BirthTable}
use Rattle.space.specs.declared.lists.Lists.{Lists}
use Rattle.space.specs.declared.index.Index.{Index}

abbrev pub births_or_none : Option KeyBirths → List ℕ
births_or_none None = []
births_or_none (Some births) = births_of births

-- the list of a key
abbrev pub list_at : Lists → ℕ → Option KeyBirths
list_at l key = get_by (λ k. key == k) l.lists

-- the births that are listed under a key
abbrev pub births_at : Lists → ℕ → List ℕ
births_at l key = births_or_none (list_at l key)

-- the list of a number that a table doesn't reach
abbrev pub no_list : ListedBirths
no_list = record { births = []; room = 0 }

-- the births that are listed under a number
abbrev pub births_in : BirthTable → ℕ → List ℕ
births_in table n = (slice_index_or table.lists.items n no_list).births

-- how many more births fit under a number
abbrev pub room_in : BirthTable → ℕ → ℕ
room_in table n = (slice_index_or table.lists.items n no_list).room

-- the births of the entries that pass a test
abbrev pub births_by : (BornTuple → Bool) → List BornTuple → List ℕ
births_by test es = map (λ e. e.0) (filter test es)

-- Each entry is listed under its number, in order of age.
abbrev pub IsFiled : (BornTuple → ℕ) → (ℕ → List ℕ) → List BornTuple → Type 0
IsFiled number_of births_of es = (n : ℕ) → births_of n ≡ births_by (λ e. number_of e == n) es

abbrev pub page_number : BornTuple → ℕ
page_number e = e.0 % PAGES

abbrev pub value_count : BornTuple → ℕ
value_count e = how_many e.1

abbrev pub first_key : BornTuple → ℕ
first_key e = tuple_key e.1

pub record IsIndexOf (index : Index) (es : List BornTuple) : Type 0 where
  pub pages : IsFiled page_number (births_in index.pages) es
  pub lengths : IsFiled value_count (births_in index.lengths) es
  pub firsts : IsFiled first_key (births_at index.firsts) es

-- a birth is listed, the newest one, under a key
abbrev pub AddsBirth : ℕ → ℕ → Lists → Lists → Type 0
AddsBirth key birth old new =
    (q : ℕ) → births_at new q ≡ births_at old q ++ (if key == q then birth ∷ [] else [])

-- a birth is taken from those of a key, if these rise
abbrev pub TakesBirth : ℕ → ℕ → Lists → Lists → Type 0
TakesBirth key birth old new =
    AreRising (births_at old key)
    → (q : ℕ) → births_at new q ≡ (if key == q then births_without birth (births_at old q) else births_at old q)

-- under each key stands what stood there
abbrev pub KeepsBirths : Lists → Lists → Type 0
KeepsBirths old new = (q : ℕ) → births_at new q ≡ births_at old q

-- a key that has no births has no list
abbrev pub LetsGo : ℕ → Lists → Type 0
LetsGo key l = births_at l key ≡ [] → list_at l key ≡ None

-- the same in a table, by a number
abbrev pub AddsInTable : ℕ → ℕ → BirthTable → BirthTable → Type 0
AddsInTable number birth old new =
    (n : ℕ) → births_in new n ≡ births_in old n ++ (if number == n then birth ∷ [] else [])

abbrev pub TakesFromTable : ℕ → ℕ → BirthTable → BirthTable → Type 0
TakesFromTable number birth old new =
    AreRising (births_in old number)
    → (n : ℕ) → births_in new n ≡ (if number == n then births_without birth (births_in old n) else births_in old n)

abbrev pub KeepsTable : BirthTable → BirthTable → Type 0
KeepsTable old new = (n : ℕ) → births_in new n ≡ births_in old n

-- an index of entries becomes that of these and a newest one
abbrev pub FilesEntry : BornTuple → Index → Index → Type 0
FilesEntry e old new = (es : List BornTuple) → IsIndexOf old es → IsIndexOf new (es ++ e ∷ [])

-- an index of entries stays one of them
abbrev pub FilesNothing : Index → Index → Type 0
FilesNothing old new = (es : List BornTuple) → IsIndexOf old es → IsIndexOf new es

-- an index of entries becomes that of these without one of them
abbrev pub UnfilesEntry : BornTuple → Index → Index → Type 0
UnfilesEntry e old new =
    (es : List BornTuple) (i : ℕ) → AllPairs (λ e f. e.0 < f.0) es → i < length es → e ≡ slice_index_or es i e
    → IsIndexOf old es → IsIndexOf new (remove es i)

-- the births of a page
abbrev pub births_on : ℕ → List BornTuple → List ℕ
births_on page es = births_by (λ e. page_number e == page) es

-- for all entries that the index is of, these births are those of the tuples that the template may match
abbrev pub FindsCandidates : TemplateTree → Index → List ℕ → Type 0
FindsCandidates p index births =
    (es : List BornTuple) → IsIndexOf index es → births ≡ births_by (λ e. is_candidate p e.1) es
