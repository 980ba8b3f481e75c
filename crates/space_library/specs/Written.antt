-- What is written into bytes of the caller's.
use Rattle.std.specs.Prelude.{◌≡◌, ℕ, ◌+◌, List, ◌++◌, length, take, drop}

-- the bytes with a text in them from this place on
abbrev pub with_text : ℕ → List ℕ → List ℕ → List ℕ
with_text at text old = take at old ++ (text ++ drop (at + length text) old)

-- The text was written from this place on, and nothing else. Behind it is this place.
pub record PutsAt (at : ℕ) (text old new : List ℕ) (end : ℕ) : Type 0 where
  pub behind : end ≡ at + length text
  pub put : new ≡ with_text at text old

-- The first so many of the bytes are the text. The others stay.
pub record WritesFirst (text old new : List ℕ) (len : ℕ) : Type 0 where
  pub first : take len new ≡ text
  pub rest : drop len new ≡ drop len old
