-- What the private fields of a space keep.
use Rattle.std.specs.Prelude.{◌≡◌, ℕ, ◌%◌, ◌<◌, Bool, nat_lt, List, slice_index}
use Rattle.space.specs.declared.births.TheConstants.{PAGES, MAX_ON_PAGE}
use Rattle.space.specs.Births.{BornTuple, SpaceState, IsState, page_count}
use Rattle.space.specs.Filing.{IsIndexOf}
use Rattle.space.specs.declared.index.Index.{Index}
use Rattle.space.specs.declared.version.Version.{Version}

-- whether the page of a birth number has room, by how many tuples lie on each page
abbrev pub has_counted_room : List ℕ → ℕ → Bool
has_counted_room page_counts birth = nat_lt (slice_index page_counts (birth % PAGES)) MAX_ON_PAGE

-- The tuples and the next number are a state, and the table has how many tuples lie on each page.
pub record PagesAreCounted (version : Version) (entries : List BornTuple) (next : ℕ) (page_counts : List ℕ) : Type 0
  where
    pub state : let s : SpaceState = record { version = version; entries = entries; next = next } in IsState s
    pub counted : (page : ℕ) → page < PAGES → slice_index page_counts page ≡ page_count entries page

-- The tables and the index are those of the tuples.
pub record IsIndexed
    (version : Version) (entries : List BornTuple) (next : ℕ) (page_counts : List ℕ) (index : Index)
    : Type 0 where
  pub counts : PagesAreCounted version entries next page_counts
  pub indexed : IsIndexOf index entries
