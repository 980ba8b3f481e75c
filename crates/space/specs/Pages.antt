-- The pages of a space. Page i, 0 to 255, has the tuples whose birth number has the remainder i by 256, in the order of
-- births: each as its birth number in 8 bytes, high byte first, in version 2 the length of its spelling in 2 bytes, and
-- its spelling. What else a state has stands in a header: a byte for the version, the number of executed batches and
-- the next birth number, both in 8 bytes.
use Rattle.std.specs.Prelude.{◌≡◌, ℕ, ◌*◌, ◌^◌, ◌≤◌, ◌<◌, ◌%◌, List, [], ◌∷◌, ◌++◌, length, take, map, filter, flat_map}
use Rattle.std.specs.Prelude.{slice_index_or, ◌==◌, Result, MatchResult}
use Rattle.std.specs.Borrow.{Bor}
use Rattle.std.specs.Int.{w64, to_be_bytes}
use Rattle.space.specs.declared.births.TheConstants.{PAGES, BIRTHS_A_BATCH}
use Rattle.tuple_tree.specs.Values.{TupleTree}
use Rattle.tuple_tree.specs.Spelling.{string, tuple_spelling}
use Rattle.tuple_codec.specs.declared.bad.Bad.{Bad}
use Rattle.tuple_codec.specs.declared.bad.Bad.TheVariants.{NoMemory}
use Rattle.space.specs.Births.{BornTuple, SpaceState, IsState}
use Rattle.space.specs.declared.version.Version.{Version}
use Rattle.space.specs.declared.version.Version.TheVariants as versions

-- how a tuple stands on a page after its birth number
abbrev pub stored_text : Version → TupleTree → List ℕ
stored_text versions.One t = tuple_spelling t
stored_text versions.Two t = string (tuple_spelling t)

-- how a tuple stands on a page, with its birth number
abbrev pub entry_text : Version → BornTuple → List ℕ
entry_text v e = to_be_bytes w64 e.0 ++ stored_text v e.1

-- how tuples stand on a page, one after another
abbrev pub entries_text : Version → List BornTuple → List ℕ
entries_text v es = flat_map (entry_text v) es

-- the tuples of a page, the oldest first
unfoldable pub on_page : ℕ → List BornTuple → List BornTuple
on_page page es = filter (λ e. e.0 % PAGES == page) es

-- the text of a page: its tuples, the oldest first
abbrev pub tuple_page_text : SpaceState → ℕ → List ℕ
tuple_page_text s page = entries_text s.version (on_page page s.entries)

-- the text of a page's oldest tuples, so many
abbrev pub text_of_oldest : SpaceState → ℕ → ℕ → List ℕ
text_of_oldest s page count = entries_text s.version (take count (on_page page s.entries))

-- the first byte of a header
abbrev pub version_byte : Version → ℕ
version_byte versions.One = 1
version_byte versions.Two = 2

-- the text of the header after so many executed batches
abbrev pub header_text : SpaceState → ℕ → List ℕ
header_text s number = version_byte s.version ∷ to_be_bytes w64 number ++ to_be_bytes w64 s.next

-- A state after so many executed batches: each batch has at most 16 requests, and each request takes at most 256
-- births.
pub record IsStateAt (s : SpaceState) (number : ℕ) : Type 0 where
  pub state : IsState s
  pub births : s.next ≤ BIRTHS_A_BATCH * number
  pub few : number < 2 ^ 48

-- The texts are 256, and the header is that of a state.
pub record MayBePages (texts : List (List ℕ)) (header : List ℕ) : Type 0 where
  pub all : length texts ≡ PAGES
  pub heading : (s : SpaceState) × (number : ℕ) × IsStateAt s number × (header ≡ header_text s number)

-- The texts of pages 0 to 255 and the header are those of a state after so many executed batches.
pub record ArePagesOfTuples (texts : List (List ℕ)) (header : List ℕ) (s : SpaceState) (number : ℕ) : Type 0 where
  pub state : IsStateAt s number
  pub heading : header ≡ header_text s number
  pub all : length texts ≡ PAGES
  pub each : (page : ℕ) → page < PAGES → slice_index_or texts page [] ≡ tuple_page_text s page

-- The state with these pages and this header is read, unless memory ran out.
abbrev pub ReadsEachState : List (List ℕ) → List ℕ → Result (SpaceState × ℕ) Bad → Type 0
ReadsEachState texts header result =
    (s : SpaceState) (number : ℕ) → ArePagesOfTuples texts header s number
    → MatchResult result (λ x. (x.0 ≡ s) × (x.1 ≡ number)) (λ fault. fault ≡ NoMemory)

-- the texts that slices lend
abbrev pub texts_of : List (Bor (List ℕ)) → List (List ℕ)
texts_of pages = map (λ page. page.now) pages
