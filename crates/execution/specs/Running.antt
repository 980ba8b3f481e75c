-- Words of the private functions that run requests.
use Rattle.std.specs.Prelude.{◌≡◌, ℕ, List, [], ◌++◌, map, fold}
use Rattle.std.specs.Option.{option_map_or}
use Rattle.space.specs.Births.{SpaceState}
use Rattle.space.specs.Watching.{WatchedState}
use Rattle.reply_cache.specs.Replies.{Kept, Replies}
use Rattle.protocol.specs.System.Configuration.{Configuration}
use Rattle.protocol.specs.Replica.State.{State, Ran as RanData, call_of, run_frame, ran_by, ran_in}
use Rattle.execution.specs.Executed.{told, told_of}
use Rattle.execution.specs.Touching.{RepliesState}
use Rattle.execution.specs.declared.running.Ran.{Ran}

abbrev pub state_with : ℕ → SpaceState → Replies → State
state_with number space replies = record { space = space; number = number; replies = replies }

-- the space and the replies within a batch, and the replies to the requests that ran
pub record SoFar : Type 0 where
  pub space : SpaceState
  pub replies : Replies
  pub told : List (ℕ × Kept)

abbrev pub so_far : WatchedState → RepliesState → List Ran → SoFar
so_far w r ran = record { space = w.state; replies = r.replies; told = map told ran }

-- the state then, of the number before the batch
abbrev pub state_of : ℕ → SoFar → State
state_of before x = state_with before x.space x.replies

-- the request that a frame runs, if it runs one
abbrev pub frame_ran : Configuration → ℕ → State → List ℕ → List RanData
frame_ran c number st frame = option_map_or (ran_by st number) (call_of c frame) []

-- A frame, and frames one after another, lead from the earlier data to the later ones, in the batch of a number.
pub record RunsFrame (c : Configuration) (number before : ℕ) (frame : List ℕ) (old new : SoFar) : Type 0 where
  pub state : state_of before new ≡ run_frame c number (state_of before old) frame
  pub told : new.told ≡ old.told ++ map told_of (frame_ran c number (state_of before old) frame)

pub record RunsFrames (c : Configuration) (number before : ℕ) (frames : List (List ℕ)) (old new : SoFar) : Type 0 where
  pub state : state_of before new ≡ fold (run_frame c number) (state_of before old) frames
  pub told : new.told ≡ old.told ++ map told_of (ran_in c number (state_of before old) frames)

-- They do so in each configuration with so many clients.
abbrev pub RunsOneFrame : ℕ → ℕ → List ℕ → SoFar → SoFar → Type 0
RunsOneFrame clients number frame old new =
    (c : Configuration) (before : ℕ) → c.clients ≡ clients → RunsFrame c number before frame old new

abbrev pub RunsAll : ℕ → ℕ → List (List ℕ) → SoFar → SoFar → Type 0
RunsAll clients number frames old new =
    (c : Configuration) (before : ℕ) → c.clients ≡ clients → RunsFrames c number before frames old new
