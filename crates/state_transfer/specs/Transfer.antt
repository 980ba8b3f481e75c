-- The transfer of a state to a replica that lags, as plain data: the held pages, the wanted state, and the part to
-- ask for next (Castro and Liskov, Practical Byzantine fault tolerance and proactive recovery, TOCS 2002, on state
-- transfer). A digest is SHA-256 (FIPS 180-4), and pages are the list of their texts.
use Rattle.std.specs.Prelude.{◌≡◌, ℕ, ◌<◌, length, ◌/◌, ◌%◌, Bool, true, false, ◌&&◌, not, List, [], replicate, slice_index_or, slice_set, slice_get, Option, Some, None, option_and_then, is_none, bytes_eq, if◌then◌else◌}
use Rattle.std.specs.List.{find, list_all}
use Rattle.std.specs.Option.{option_map_or}
use Rattle.sha2.specs.Sha256.{sha256}
use Rattle.terms.specs.declared.state.Level.{Level}
use Rattle.terms.specs.declared.state.Level.TheVariants.{Root, Inner, Page}
use Rattle.partition_tree.specs.Digests.{digest_of_children, inner_digest, root_of}
use Rattle.state_transfer.specs.declared.place.Place.{Place}
use Rattle.state_transfer.specs.declared.replaced.Replaced.{Replaced}
use Rattle.state_transfer.specs.Places.{root_place, path, places}

-- The wanted state's number and root; the held pages, and which of them were fetched; the digests of the inner parts,
-- and of each inner part's pages, if they came; and the place asked for last.
pub record TransferData : Type 0 where
  pub number : ℕ
  pub root : List ℕ
  pub held : List (List ℕ)
  pub fetched : List Bool
  pub part_digests : Option (List (List ℕ))
  pub page_digests : List (Option (List (List ℕ)))
  pub asked : Place

unfoldable pub none_fetched : List Bool
none_fetched = replicate 1024 false

unfoldable pub none_told : List (Option (List (List ℕ)))
none_told = replicate 32 None

-- A new transfer holds the replica's own pages, and asks for the root's children.
abbrev pub new_transfer : ℕ → List ℕ → List (List ℕ) → TransferData
new_transfer number root pages =
    record {
      number = number;
      root = root;
      held = pages;
      fetched = none_fetched;
      part_digests = None;
      page_digests = none_told;
      asked = root_place;
    }

-- A newer state is wanted: the transfer asks for the root's children again, and keeps all other parts that came.
abbrev pub moved_to : TransferData → ℕ → List ℕ → TransferData
moved_to t number root =
    record t { number = number; root = root; part_digests = None; asked = root_place }

-- ---- wanted digests

-- The digests of children, if their own digest is this one.
abbrev pub fitting_children : List ℕ → Option (List (List ℕ)) → Option (List (List ℕ))
fitting_children digest None = None
fitting_children digest (Some children) =
    if bytes_eq (digest_of_children children) digest then Some children else None

abbrev pub digest_of_part : TransferData → ℕ → Option (List ℕ)
digest_of_part t part = option_and_then (λ digests. slice_get digests part) t.part_digests

-- The digests wanted for the pages of an inner part, if they are known.
abbrev pub pages_of_part : TransferData → ℕ → Option (List (List ℕ))
pages_of_part t part =
    option_and_then (λ digest. fitting_children digest (slice_index_or t.page_digests part None))
    (digest_of_part t part)

abbrev pub digest_of_page : TransferData → ℕ → Option (List ℕ)
digest_of_page t page =
    option_and_then (λ digests. slice_get digests (page % 32)) (pages_of_part t (page / 32))

-- The digest wanted at a place, if it is known: it is one of the digests of the part above.
abbrev pub wanted_at : TransferData → Level → ℕ → Option (List ℕ)
wanted_at t Root index = Some t.root
wanted_at t Inner index = digest_of_part t index
wanted_at t Page index = digest_of_page t index

abbrev pub wanted : TransferData → Place → Option (List ℕ)
wanted t place = wanted_at t place.level place.index

-- ---- missing places

-- The digest of the pages held at a place.
abbrev pub held_at : List (List ℕ) → Level → ℕ → List ℕ
held_at pages Root index = root_of pages
held_at pages Inner index = inner_digest pages index
held_at pages Page index = sha256 (slice_index_or pages index [])

-- The digest wanted at the place is known, and the held pages have another one there.
abbrev pub differs : TransferData → Place → Bool
differs t place =
    option_map_or (λ digest. not (bytes_eq digest (held_at t.held place.level place.index)))
    (wanted t place) false

-- The digests of a place's children are known. A page has none.
abbrev pub is_told_at : TransferData → Level → ℕ → Bool
is_told_at t Root index = not (is_none t.part_digests)
is_told_at t Inner index = not (is_none (pages_of_part t index))
is_told_at t Page index = false

-- A place is missing if it and each part above it differ, and the digests of its children aren't known.
abbrev pub is_missing : TransferData → Place → Bool
is_missing t place = list_all (differs t) (path place) && not (is_told_at t place.level place.index)

-- The place to ask for next: the first missing one in depth-first order.
unfoldable pub next_place : TransferData → Option Place
next_place t = find (is_missing t) places

abbrev pub asking : Option Place → TransferData → TransferData
asking None t = t
asking (Some place) t = record t { asked = place }

-- ---- taking parts

abbrev pub with_part_digests : TransferData → List (List ℕ) → TransferData
with_part_digests t digests = record t { part_digests = Some digests }

abbrev pub with_page_digests : TransferData → ℕ → List (List ℕ) → TransferData
with_page_digests t part digests =
    record t { page_digests = slice_set t.page_digests part (Some digests) }

-- The transfer after the digests of a place's children came.
abbrev pub with_digests : TransferData → Place → List (List ℕ) → TransferData
with_digests t place digests =
    elim place.level [
      | Root ↦ with_part_digests t digests
      | Inner ↦ with_page_digests t place.index digests
      | Page ↦ t
    ]

-- The transfer after a page was fetched.
abbrev pub with_page : TransferData → ℕ → List ℕ → TransferData
with_page t page text =
    record t { held = slice_set t.held page text; fetched = slice_set t.fetched page true }

-- The pages and the mark that a page replaces, to give it back.
abbrev pub replaced_at : TransferData → ℕ → Replaced
replaced_at t page =
    record { index = page; held = t.held; fetched = slice_index_or t.fetched page false }

abbrev pub given_back : TransferData → Replaced → TransferData
given_back t replaced =
    record t {
      held = replaced.held;
      fetched = slice_set t.fetched replaced.index replaced.fetched;
    }

-- The transfer after the replica's own pages changed: it holds them at each place that wasn't fetched.
pub record RestsOn (old : TransferData) (pages : List (List ℕ)) (new : TransferData) : Type 0 where
  pub same : new ≡ record old { held = new.held }
  pub count : length new.held ≡ 1024
  pub own : (i : ℕ) → i < 1024 → slice_index_or old.fetched i false ≡ false
      → slice_index_or new.held i [] ≡ slice_index_or pages i []
  pub fetched : (i : ℕ) → i < 1024 → slice_index_or old.fetched i false ≡ true
      → slice_index_or new.held i [] ≡ slice_index_or old.held i []
