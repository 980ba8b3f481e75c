-- The pool of the world of a schedule.
use Rattle.std.specs.Prelude.{◌≡◌, ℕ, suc, ◌<◌, Bool, ◌&&◌, not, List, [], ◌∷◌, length, filter, All}
use Rattle.protocol.specs.System.Configuration.{Configuration, is_correct}
use Rattle.protocol.specs.System.Schedule.{Made, World, is_delivered}
use Rattle.schedule_world.specs.Pooled.{Frame}

-- the party is correct, and the frame of this number was not delivered to it
abbrev pub delivery_is_due : Configuration → List (ℕ × ℕ) → ℕ → ℕ → Bool
delivery_is_due c delivered number party = is_correct c party && not (is_delivered delivered number party)

-- a frame of the world, of this number, with the receivers to which it is due
abbrev pub pooled : Configuration → List (ℕ × ℕ) → ℕ → Made → Frame
pooled c delivered number made =
    record { bytes = made.bytes; waiting = filter (delivery_is_due c delivered number) made.receivers }

-- the same of each frame; they are numbered from this one on
abbrev pub pooled_from : Configuration → List (ℕ × ℕ) → ℕ → List Made → List Frame
pooled_from c delivered number [] = []
pooled_from c delivered number (made ∷ frames) =
    pooled c delivered number made ∷ pooled_from c delivered (suc number) frames

-- The pool has the frames of the world, in order. No frame was delivered that was not made.
pub record IsPool (c : Configuration) (w : World) (pool : List Frame) : Type 0 where
  pub frames : pool ≡ pooled_from c w.delivered 0 w.frames
  pub made : All (λ (x : ℕ × ℕ). x.0 < length w.frames) w.delivered
