-- The frames that were made, and who waits for them.
use Rattle.std.specs.Prelude.{◌≡◌, ◌<◌, ℕ, zero, suc, ◌==◌, not, List, [], ◌∷◌, ◌++◌, length, take, filter, slice_index_or, All}

-- a frame, and the numbers of the parties that wait for it
pub record Frame : Type 0 where
  pub bytes : List ℕ
  pub waiting : List ℕ

-- the frames with one more
abbrev pub added : List Frame → List ℕ → List ℕ → List Frame
added fs bytes waiting = fs ++ record { bytes = bytes; waiting = waiting } ∷ []

-- the numbers without p
abbrev pub numbers_without : ℕ → List ℕ → List ℕ
numbers_without p = filter (λ q. not (q == p))

-- Party p no longer waits for the frame of number n, if that was made.
abbrev pub noted : List Frame → ℕ → ℕ → List Frame
noted [] n p = []
noted (f ∷ fs) zero p = record f { waiting = numbers_without p f.waiting } ∷ fs
noted (f ∷ fs) (suc n) p = f ∷ noted fs n p

-- nobody waits for the frame
abbrev pub IsServed : Frame → Type 0
IsServed f = f.waiting ≡ []

-- nobody waits for one of the first n
abbrev pub AreServed : List Frame → ℕ → Type 0
AreServed fs n = All IsServed (take n fs)

-- The party is the first that waits for the frame, and nobody waits for one before it.
pub record IsFirstWaiting (fs : List Frame) (n p : ℕ) : Type 0 where
  pub served : AreServed fs n
  pub there : n < length fs
  pub waits : (d : Frame) → (others : List ℕ) × ((slice_index_or fs n d).waiting ≡ p ∷ others)

-- the bytes of the frame of this number, if it was made
pub record HasBytes (fs : List Frame) (n : ℕ) (bytes : List ℕ) : Type 0 where
  pub there : n < length fs
  pub same : (d : Frame) → (slice_index_or fs n d).bytes ≡ bytes
