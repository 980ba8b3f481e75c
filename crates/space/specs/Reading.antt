-- What the private functions that read pages speak of.
use Rattle.std.specs.Prelude.{◌≡◌, ◌≢◌, ℕ, ◌*◌, ◌%◌, ◌^◌, ◌≤◌, ◌<◌, List, [], ◌∷◌, ◌++◌, length, take, drop}
use Rattle.std.specs.Prelude.{slice_index, slice_index_or, All, AllPairs, Result, OnOk, IfOk, IfErr, MatchResult}
use Rattle.std.specs.Borrow.{Bor}
use Rattle.std.specs.Int.{w64, to_be_bytes}
use Rattle.space.specs.declared.births.TheConstants.{PAGES, BIRTHS_A_BATCH}
use Rattle.tuple_tree.specs.Values.{TupleTree, IsTuple}
use Rattle.tuple_codec.specs.declared.bad.Bad.{Bad}
use Rattle.tuple_codec.specs.declared.bad.Bad.TheVariants.{NoMemory}
use Rattle.space.specs.Births.{BornTuple, SpaceState, IsState}
use Rattle.space.specs.Pages.{stored_text, entry_text, entries_text, on_page, tuple_page_text, version_byte}
use Rattle.space.specs.declared.version.Version.{Version}

-- what can be written as an entry of a page
pub record IsEntry (e : BornTuple) : Type 0 where
  pub fits : e.0 < 2 ^ 64
  pub tuple : IsTuple e.1

-- an entry of this page whose birth is from least on and below next
pub record IsEntryOf (page least next : ℕ) (e : BornTuple) : Type 0 where
  pub here : e.0 % PAGES ≡ page
  pub not_below : least ≤ e.0
  pub below : e.0 < next
  pub tuple : IsTuple e.1

-- The value that is read is such a one. Its text stands in front, and the bytes after it are left.
abbrev pub ReadsBy : {V : Type 0} → (V → List ℕ) → (V → Type 0) → List ℕ → Result (V × Bor (List ℕ)) Bad → Type 0
ReadsBy text IsSuch bytes result = IfOk result (λ x. IsSuch x.0 × (bytes ≡ text x.0 ++ x.1.now))

-- Each such value whose text stands in front is read, unless memory ran out.
abbrev pub ReadsEachBy : {V : Type 0}
    → (V → List ℕ) → (V → Type 0) → List ℕ → Result (V × Bor (List ℕ)) Bad → Type 0
ReadsEachBy {V = V} text IsSuch bytes result =
    (x : V) (rest : List ℕ) → IsSuch x → bytes ≡ text x ++ rest
    → MatchResult result (λ y. (y.0 ≡ x) × (y.1.now ≡ rest)) (λ fault. fault ≡ NoMemory)

-- So it is of tuples as they stand on a page, and of entries.
abbrev pub ReadsStored : Version → List ℕ → Result (TupleTree × Bor (List ℕ)) Bad → Type 0
ReadsStored v = ReadsBy (stored_text v) IsTuple

abbrev pub ReadsEachStored : Version → List ℕ → Result (TupleTree × Bor (List ℕ)) Bad → Type 0
ReadsEachStored v = ReadsEachBy (stored_text v) IsTuple

abbrev pub ReadsSpelled : Version → (BornTuple → Type 0) → List ℕ → Result (BornTuple × Bor (List ℕ)) Bad → Type 0
ReadsSpelled v = ReadsBy (entry_text v)

abbrev pub ReadsEach : Version → (BornTuple → Type 0) → List ℕ → Result (BornTuple × Bor (List ℕ)) Bad → Type 0
ReadsEach v = ReadsEachBy (entry_text v)

-- the tuples of one page of a state
pub record IsPage (page next : ℕ) (es : List BornTuple) : Type 0 where
  pub rising : AllPairs (λ e f. e.0 < f.0) es
  pub below_next : All (λ e. e.0 < next) es
  pub here : All (λ e. e.0 % PAGES ≡ page) es
  pub few : length es ≤ 64
  pub tuples : All (λ e. IsTuple e.1) es

-- where a birth belongs among births that rise
pub record IsPlaceOfBirth (es : List BornTuple) (birth place : ℕ) : Type 0 where
  pub bound : place ≤ length es
  pub before : All (λ e. e.0 < birth) (take place es)
  pub behind : All (λ e. birth ≤ e.0) (drop place es)

-- one entry more, the last on its page, and none moved on any page
pub record TupleIsAdded (old new : List BornTuple) (e : BornTuple) : Type 0 where
  pub rising : AllPairs (λ e f. e.0 < f.0) new
  pub pages : (page : ℕ) → on_page page new ≡ on_page page old ++ on_page page (e ∷ [])

-- the tuples of a page were added, by its text, to those of other pages
pub record IsPageRead (v : Version) (page next : ℕ) (text : List ℕ) (old new : List BornTuple) : Type 0 where
  pub rising : AllPairs (λ e f. e.0 < f.0) new
  pub valid : IsPage page next (on_page page new)
  pub spelled : text ≡ entries_text v (on_page page new)
  pub others : (p : ℕ) → p ≢ page → on_page p new ≡ on_page p old

-- the same of the front of the text: least is the least birth that may follow
pub record IsFrontRead
    (v : Version) (page next : ℕ) (text : List ℕ) (old new : List BornTuple) (rest : List ℕ) (count least : ℕ)
    : Type 0 where
  pub rising : AllPairs (λ e f. e.0 < f.0) new
  pub valid : IsPage page next (on_page page new)
  pub spelled : text ≡ entries_text v (on_page page new) ++ rest
  pub others : (p : ℕ) → p ≢ page → on_page p new ≡ on_page p old
  pub counted : count ≡ length (on_page page new)
  pub above : All (λ e. e.0 < least) (on_page page new)
  pub tight : (n : ℕ) → All (λ e. e.0 < n) (on_page page new) → least ≤ n

-- The tuples of the page were added, if it was read.
abbrev pub ReadsPage : {V : Type 0}
    → Version → ℕ → ℕ → List ℕ → Result V Bad → List BornTuple → List BornTuple → Type 0
ReadsPage v page next text result old new = OnOk result (IsPageRead v page next text old new)

-- The text of a page is refused for want of memory alone.
abbrev pub ReadsEachPage : {V : Type 0} → Version → ℕ → ℕ → List ℕ → Result V Bad → Type 0
ReadsEachPage v page next text result =
    (es : List BornTuple) → IsPage page next es → text ≡ entries_text v es → IfErr result (λ fault. fault ≡ NoMemory)

-- a header of this version and these numbers
pub record IsHeader (header : List ℕ) (v : Version) (number next : ℕ) : Type 0 where
  pub spelled : header ≡ version_byte v ∷ to_be_bytes w64 number ++ to_be_bytes w64 next
  pub births : next ≤ BIRTHS_A_BATCH * number
  pub few : number < 2 ^ 48

-- The first n of the pages were read: their tuples in the order of births, and how many lie on each page.
pub record ArePagesRead
    (v : Version) (n next : ℕ) (texts : List (List ℕ)) (es : List BornTuple) (counts : List ℕ)
    : Type 0 where
  pub rising : AllPairs (λ e f. e.0 < f.0) es
  pub valid : (page : ℕ) → page < n → IsPage page next (on_page page es)
  pub spelled : (page : ℕ) → page < n → slice_index_or texts page [] ≡ entries_text v (on_page page es)
  pub unread : (page : ℕ) → n ≤ page → on_page page es ≡ []
  pub counted : (page : ℕ) → page < PAGES → slice_index counts page ≡ length (on_page page es)
  pub long : length counts ≡ PAGES

-- the texts of pages are those of a state of this version with this next birth number
pub record ArePagesOf (v : Version) (next : ℕ) (texts : List (List ℕ)) (s : SpaceState) : Type 0 where
  pub state : IsState s
  pub version : s.version ≡ v
  pub same_next : s.next ≡ next
  pub each : (page : ℕ) → page < PAGES → slice_index_or texts page [] ≡ tuple_page_text s page

-- The texts of all pages are refused for want of memory alone.
abbrev pub ReadsAllPages : {V : Type 0} → Version → ℕ → List (List ℕ) → Result V Bad → Type 0
ReadsAllPages v next texts result =
    (s : SpaceState) → ArePagesOf v next texts s → IfErr result (λ fault. fault ≡ NoMemory)
