-- A space and which of its pages may have changed.
use Rattle.std.specs.Prelude.{◌≡◌, ℕ, ◌%◌, ◌<◌, ◌≤◌, Bool, true, false, not, ◌||◌, ◌==◌, List, [], ◌∷◌, map, Contains}
use Rattle.std.specs.Prelude.{slice_index, slice_index_or, if◌then◌else◌, refl}
use Rattle.std.specs.Coded.{Coded, code_by, coded×, coded_list, coded_bool, coded_ℕ}
use Rattle.std.specs.List.{range_with_len}
use Rattle.space.specs.declared.births.TheConstants.{PAGES}
use Rattle.tuple_codec.specs.Operations.{Operation, out, rdp, inp, cas, rd_all, in_all, upgrade}
use Rattle.space.specs.Applying.{refuses}
use Rattle.space.specs.Births.{SpaceState, space_code, birth_of, oldest_births, page_count}
use Rattle.space.specs.Pages.{tuple_page_text, text_of_oldest}

-- a space, which pages may have changed otherwise than by new tuples, and how many tuples lay on each when it was
-- written
pub record WatchedState : Type 0 where
  pub state : SpaceState
  pub changed : List Bool
  pub written : List ℕ

-- whether page 0 to 255 may have changed otherwise than by new tuples behind the others
abbrev pub is_changed : WatchedState → ℕ → Bool
is_changed w page = slice_index_or w.changed page false

-- how many tuples lay on it when it was written
abbrev pub written_on : WatchedState → ℕ → ℕ
written_on w page = slice_index w.written page

-- whether page 0 to 255 may have changed
abbrev pub is_touched : WatchedState → ℕ → Bool
is_touched w page = is_changed w page || not (written_on w page == page_count w.state.entries page)

-- the births whose pages an operation may change that is not refused: those of the tuples that it may add or take, and
-- for an upgrade one on each page
abbrev pub served_births : SpaceState → Operation → List ℕ
served_births s (out t) = birth_of s ∷ []
served_births s (rdp p) = []
served_births s (inp p) = oldest_births 1 p s.entries
served_births s (cas p t) = birth_of s ∷ []
served_births s (rd_all n p) = []
served_births s (in_all n p) = oldest_births n p s.entries
served_births s upgrade = range_with_len 0 PAGES

-- of any operation of a client
abbrev pub touched_births : SpaceState → ℕ → Operation → List ℕ
touched_births s client o = if refuses s.version client o then [] else served_births s o

-- those whose pages it may change otherwise than by a new tuple
abbrev pub served_changes : SpaceState → Operation → List ℕ
served_changes s (out t) = []
served_changes s (rdp p) = []
served_changes s (inp p) = oldest_births 1 p s.entries
served_changes s (cas p t) = []
served_changes s (rd_all n p) = []
served_changes s (in_all n p) = oldest_births n p s.entries
served_changes s upgrade = range_with_len 0 PAGES

abbrev pub changed_births : SpaceState → ℕ → Operation → List ℕ
changed_births s client o = if refuses s.version client o then [] else served_changes s o

-- The client's operation may change the page: one of these births lies there.
abbrev pub MayChange : SpaceState → ℕ → Operation → ℕ → Type 0
MayChange s client o page = Contains (map (λ birth. birth % PAGES) (touched_births s client o)) page

-- A page that isn't touched afterwards wasn't before, and has the same text.
abbrev pub TouchesChanges : WatchedState → WatchedState → Type 0
TouchesChanges old new =
    (page : ℕ) → page < PAGES → is_touched new page ≡ false
    → (is_touched old page ≡ false) × (tuple_page_text new.state page ≡ tuple_page_text old.state page)

-- A page that is touched afterwards, and wasn't before, is one that the operation may change.
abbrev pub TouchesOnly : WatchedState → WatchedState → ℕ → Operation → Type 0
TouchesOnly old new client o =
    (page : ℕ) → page < PAGES → is_touched new page ≡ true → is_touched old page ≡ false
    → MayChange old.state client o page

-- the text of the tuples that lay on a page when it was written, if these are its oldest
abbrev pub written_text : WatchedState → ℕ → List ℕ
written_text w page = text_of_oldest w.state page (written_on w page)

-- A page that isn't changed had this text when it was written.
abbrev pub IsWrittenAs : WatchedState → ℕ → List ℕ → Type 0
IsWrittenAs w page text = is_changed w page ≡ false → text ≡ written_text w page

-- A page that isn't changed afterwards wasn't before, and was written with the same text.
abbrev pub KeepsWritten : WatchedState → WatchedState → Type 0
KeepsWritten old new =
    (page : ℕ) → page < PAGES → is_changed new page ≡ false
    → (is_changed old page ≡ false) × (written_text new page ≡ written_text old page)

-- On a page that isn't changed lie at least the tuples that lay there when it was written.
abbrev pub IsWatched : WatchedState → Type 0
IsWatched w = (page : ℕ) → page < PAGES → is_changed w page ≡ false
    → written_on w page ≤ page_count w.state.entries page

-- a watched space as its fields
abbrev pub watched_code : Coded WatchedState
watched_code =
    code_by (SpaceState × (List Bool × List ℕ))
    (coded× space_code (coded× (coded_list coded_bool) (coded_list coded_ℕ)))
    (λ w. (w.state, (w.changed, w.written))) (λ p. record { state = p.0; changed = p.1.0; written = p.1.1 }) (λ _. refl)
