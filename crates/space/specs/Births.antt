-- Birth numbers. Each stored tuple has one, by which it lies on one of 256 pages of at most 64 tuples. A new tuple
-- takes the least number not below the next one whose page has room, so that the order of births is the order of age.
use Rattle.std.specs.Prelude.{◌≡◌, ℕ, zero, suc, ◌+◌, ◌%◌, ◌<◌, ◌≤◌, Bool, true, List, [], ◌∷◌, ◌++◌, length, take, map}
use Rattle.std.specs.Prelude.{filter, count_by, All, AllPairs, nat_lt, ◌==◌, is_some, if◌then◌else◌, refl}
use Rattle.std.specs.Coded.{Coded, code_by, coded×, coded_list, coded_ℕ}
use Rattle.space.specs.declared.births.TheConstants.{PAGES, MAX_ON_PAGE}
use Rattle.tuple_tree.specs.Values.{TupleTree, TemplateTree, IsTuple}
use Rattle.tuple_tree.specs.ValuesCode.{tuple_code}
use Rattle.tuple_codec.specs.Operations.{Operation, out, rdp, inp, cas, rd_all, in_all, upgrade}
use Rattle.template_match.specs.Tests.{is_match}
use Rattle.space.specs.VersionCode.{version_code}
use Rattle.space.specs.Applying.{Contents, has_room, most_tuples, refuses, without_first, without_firsts, first_match}
use Rattle.space.specs.Applying.{wants_memory, tuples_after}
use Rattle.space.specs.declared.version.Version.{Version}
use Rattle.space.specs.declared.version.Version.TheVariants as versions

-- a birth number and its tuple
abbrev pub BornTuple : Type 0
BornTuple = ℕ × TupleTree

-- the version, the stored tuples, the oldest first, and the least number that a new one may take
pub record SpaceState : Type 0 where
  pub version : Version
  pub entries : List BornTuple
  pub next : ℕ

-- the state of a new space of this version
abbrev pub empty_in : Version → SpaceState
empty_in v = record { version = v; entries = []; next = 0 }

-- the state of a new space
abbrev pub empty_state : SpaceState
empty_state = empty_in versions.One

-- the contents of the space in this state, births aside
abbrev pub tuples_of : SpaceState → Contents
tuples_of s = record { version = s.version; tuples = map (λ e. e.1) s.entries }

-- how many tuples lie on a page
abbrev pub page_count : List BornTuple → ℕ → ℕ
page_count es page = count_by (λ e. e.0 % PAGES == page) es

-- whether the page of a birth number has room
abbrev pub has_page_room : List BornTuple → ℕ → Bool
has_page_room es birth = nat_lt (page_count es (birth % PAGES)) MAX_ON_PAGE

-- the first of the n numbers from start on that passes the test, else the number after them
unfoldable pub first_passing : (ℕ → Bool) → ℕ → ℕ → ℕ
first_passing test zero start = start
first_passing test (suc n) start = if test start then start else first_passing test n (start + 1)

-- the birth number of a new tuple: the least one not below the next whose page has room
abbrev pub birth_of : SpaceState → ℕ
birth_of s = first_passing (has_page_room s.entries) PAGES s.next

-- the state with the tuple as the newest, under its birth number
abbrev pub with_birth : SpaceState → TupleTree → SpaceState
with_birth s t = record s { entries = s.entries ++ (birth_of s, t) ∷ []; next = birth_of s + 1 }

-- the state with the tuple as the newest, if there is room for it
abbrev pub with_tuple : SpaceState → TupleTree → SpaceState
with_tuple s t = if has_room (tuples_of s) then with_birth s t else s

-- the state without the oldest tuple that the template matches
abbrev pub without_match : SpaceState → TemplateTree → SpaceState
without_match s p = record s { entries = without_first (λ e. is_match p e.1) s.entries }

-- the state without the n oldest tuples that the template matches
abbrev pub without_matches : SpaceState → ℕ → TemplateTree → SpaceState
without_matches s n p = record s { entries = without_firsts n (λ e. is_match p e.1) s.entries }

-- the state with the same tuples in version 2
abbrev pub upgraded : SpaceState → SpaceState
upgraded s = record s { version = versions.Two }

-- the births of the n oldest tuples that the template matches
abbrev pub oldest_births : ℕ → TemplateTree → List BornTuple → List ℕ
oldest_births n p es = take n (map (λ e. e.0) (filter (λ e. is_match p e.1) es))

-- the state that an operation leaves that is not refused
abbrev pub served_state : SpaceState → Operation → SpaceState
served_state s (out t) = with_tuple s t
served_state s (rdp p) = s
served_state s (inp p) = without_match s p
served_state s (cas p t) = if is_some (first_match p (tuples_of s)) then s else with_tuple s t
served_state s (rd_all n p) = s
served_state s (in_all n p) = without_matches s n p
served_state s upgrade = upgraded s

-- the state that an operation of a client leaves
abbrev pub state_after : SpaceState → ℕ → Operation → SpaceState
state_after s client o = if refuses s.version client o then s else served_state s o

-- an operation and the client that asks for it
pub record Asked : Type 0 where
  pub client : ℕ
  pub op : Operation

abbrev pub state_after_asked : SpaceState → Asked → SpaceState
state_after_asked s x = state_after s x.client x.op

-- One state comes after the other by the client's operation.
abbrev pub StateFollows : SpaceState → SpaceState → ℕ → Operation → Type 0
StateFollows old new client o = new ≡ state_after old client o

-- So do their tuples, births aside.
abbrev pub TuplesFollow : SpaceState → SpaceState → ℕ → Operation → Type 0
TuplesFollow old new client o = tuples_of new ≡ tuples_after (tuples_of old) client o

-- The operation adds a tuple, or copies a match to answer with.
abbrev pub WantsMemory : SpaceState → Operation → Type 0
WantsMemory s o = wants_memory (tuples_of s) o ≡ true

-- Births rise and are below the next one, at most 64 tuples lie on a page, and no more in all than the version allows.
pub record IsState (s : SpaceState) : Type 0 where
  pub rising : AllPairs (λ e f. e.0 < f.0) s.entries
  pub below_next : All (λ e. e.0 < s.next) s.entries
  pub pages : (page : ℕ) → page_count s.entries page ≤ MAX_ON_PAGE
  pub count : length s.entries ≤ most_tuples s.version
  pub tuples : All (λ e. IsTuple e.1) s.entries

-- The number is the least one not below the next whose page has room, and one of the 256 from there on.
pub record IsNextBirth (s : SpaceState) (birth : ℕ) : Type 0 where
  pub not_below : s.next ≤ birth
  pub soon : birth < s.next + PAGES
  pub room : page_count s.entries (birth % PAGES) < MAX_ON_PAGE
  pub least : (n : ℕ) → s.next ≤ n → n < birth → MAX_ON_PAGE ≤ page_count s.entries (n % PAGES)

-- a state as its fields
abbrev pub space_code : Coded SpaceState
space_code =
    code_by (Version × (List BornTuple
    × ℕ)) (coded× version_code (coded× (coded_list (coded× coded_ℕ tuple_code)) coded_ℕ))
    (λ s. (s.version, (s.entries, s.next))) (λ p. record { version = p.0; entries = p.1.0; next = p.1.1 }) (λ _. refl)
