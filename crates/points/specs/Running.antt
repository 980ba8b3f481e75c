-- Words of the private functions that run requests.
use Rattle.std.specs.Prelude.{◌≡◌, ℕ, List, [], ◌++◌, fold, Option}
use Rattle.std.specs.Option.{option_map_or}
use Rattle.space.specs.Births.{SpaceState}
use Rattle.reply_cache.specs.Replies.{Replies}
use Rattle.protocol.specs.System.Configuration.{Configuration}
use Rattle.protocol.specs.Replica.State.{State, Ran, opening, call_of, run_frame, ran_by, ran_in}
use Rattle.protocol.specs.Space.Linear.{Placing}
use Rattle.points.specs.Leveling.{level_position}
use Rattle.points.specs.Numbering.{Numbered, numbered_points, points_at}
use Rattle.points.specs.PointView.{placings_of}
use Rattle.points.specs.declared.levels.Rise.{Rise}
use Rattle.points.specs.declared.point.Placed.{Placed}
use Rattle.points.specs.declared.running.Turn.{Turn}

-- the space and the replies within a batch, and the points of the requests that ran
pub record PlacedSoFar : Type 0 where
  pub space : SpaceState
  pub replies : Replies
  pub points : List Placing

abbrev pub placed_so_far : SpaceState → Replies → List Placed → PlacedSoFar
placed_so_far space replies found = record { space = space; replies = replies; points = placings_of found }

-- the state then, of the number before the batch
abbrev pub placed_state : ℕ → PlacedSoFar → State
placed_state before x = record { space = x.space; number = before; replies = x.replies }

-- the requests that a frame runs
abbrev pub frame_placed : Configuration → ℕ → State → List ℕ → List Ran
frame_placed c number st frame = option_map_or (ran_by st number) (call_of c frame) []

-- A frame, and frames one after another, lead from the earlier data to the later ones, in the batch of a number.
pub record PlacesFrame (c : Configuration) (place : Option ℕ) (number before : ℕ) (frame : List ℕ)
    (old new : PlacedSoFar)
    : Type 0 where
  pub state : placed_state before new ≡ run_frame c number (placed_state before old) frame
  pub points : new.points ≡ old.points ++ points_at place number (frame_placed c number (placed_state before old) frame)

pub record PlacesFrames (c : Configuration) (place : Option ℕ) (number before : ℕ) (frames : List (List ℕ))
    (old new : PlacedSoFar) : Type 0 where
  pub state : placed_state before new ≡ fold (run_frame c number) (placed_state before old) frames
  pub points : new.points ≡ old.points ++ points_at place number (ran_in c number (placed_state before old) frames)

-- They do so in each configuration with so many clients.
abbrev pub PlacesOneFrame : Turn → List ℕ → PlacedSoFar → PlacedSoFar → Type 0
PlacesOneFrame turn frame old new =
    (c : Configuration) (before : ℕ) → c.clients ≡ turn.clients
    → PlacesFrame c turn.place turn.number.0 before frame old new

abbrev pub PlacesAllFrames : Turn → List (List ℕ) → PlacedSoFar → PlacedSoFar → Type 0
PlacesAllFrames turn frames old new =
    (c : Configuration) (before : ℕ) → c.clients ≡ turn.clients
    → PlacesFrames c turn.place turn.number.0 before frames old new

-- the points are those of the requests that ran in these batches, in each configuration with so many clients
abbrev pub RunsEach : ℕ → List Rise → List Numbered → List Placing → Type 0
RunsEach clients found batches points =
    (c : Configuration) → c.clients ≡ clients → points ≡ numbered_points c (level_position found) opening batches
