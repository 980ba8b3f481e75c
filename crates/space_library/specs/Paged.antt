-- The page texts of a space that a handle holds.
use Rattle.std.specs.Prelude.{◌≡◌, ℕ, ◌+◌, List, [], ◌∷◌, length, take, drop, Some}
use Rattle.space.specs.Births.{SpaceState}
use Rattle.space.specs.Pages.{tuple_page_text, header_text, ArePagesOfTuples}
use Rattle.space_library.specs.Held.{Held}

-- This is the text of the page of the space that is held.
pub record IsPageHeld (held : Held) (page : ℕ) (text : List ℕ) : Type 0 where
  pub state : SpaceState
  pub there : held ≡ Some state
  pub shown : text ≡ tuple_page_text state page

-- This is the text of the header after so many executed batches, of the space that is held.
pub record IsHeaderHeld (held : Held) (number : ℕ) (text : List ℕ) : Type 0 where
  pub state : SpaceState
  pub there : held ≡ Some state
  pub shown : text ≡ header_text state number

-- how many bytes so many texts have together
abbrev pub total : List ℕ → ℕ
total [] = 0
total (n ∷ ns) = n + total ns

-- the texts that stand one behind another in the bytes, by their lengths
abbrev pub cut : List ℕ → List ℕ → List (List ℕ)
cut [] bytes = []
cut (n ∷ ns) bytes = take n bytes ∷ cut ns (drop n bytes)

-- The bytes are page texts of these lengths, one behind another. With the header they are those of a state after so many
-- executed batches.
pub record ArePagesCut (lengths texts header : List ℕ) (state : SpaceState) (number : ℕ) : Type 0 where
  pub all : total lengths ≡ length texts
  pub pages : ArePagesOfTuples (cut lengths texts) header state number

-- So they are of no state.
abbrev pub ArePagesOfNone : List ℕ → List ℕ → List ℕ → Type 0
ArePagesOfNone lengths texts header = (state : SpaceState) (number : ℕ) → ArePagesCut lengths texts header state number → ⊥

-- The state with these pages is held.
pub record HoldsPages (lengths texts header : List ℕ) (held : Held) (number : ℕ) : Type 0 where
  pub state : SpaceState
  pub there : held ≡ Some state
  pub pages : ArePagesCut lengths texts header state number
