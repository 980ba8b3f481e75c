-- The frames that channels carry: those that were sent. The newest entry of a trace stands first.
use Rattle.std.specs.Prelude.{◌≡◌, ◌⊎◌, ℕ, Bool, true, ◌&&◌, not, List, [], ◌∷◌, reverse, slice_get, Option, MatchOption, ⊤}
use Rattle.std.specs.Option.{option_map_or}
use Rattle.wire_format.specs.Words.{said}
use Rattle.protocol.specs.System.Configuration.{Configuration, is_correct}
use Rattle.protocol.specs.System.Schedule.{is_party}
use Rattle.protocol.specs.System.Trace.{Entry, Has, Always}
use Rattle.protocol.specs.System.Trace.Entry.{Got, Sent}

-- one of the parties that the configuration names as faulty
abbrev pub is_faulty : Configuration → ℕ → Bool
is_faulty c p = is_party c p && not (is_correct c p)

-- no frame, or one whose body names a faulty sender: it may come from anywhere
abbrev pub is_exempt : Configuration → List ℕ → Bool
is_exempt c bytes = option_map_or (λ body. is_faulty c body.sender) (said bytes) true

-- these bytes are sent here
abbrev pub EntrySendsBytes : List ℕ → Entry → Type 0
EntrySendsBytes bytes (Sent p text) = text ≡ bytes
EntrySendsBytes bytes _ = ⊥

-- a received frame was sent before, or may come from anywhere
abbrev pub IsCarriedAt : Configuration → List Entry → Entry → Type 0
IsCarriedAt c past (Got p bytes) = Has (EntrySendsBytes bytes) past ⊎ (is_exempt c bytes ≡ true)
IsCarriedAt c past _ = ⊤

-- Each frame that a party got was sent before, except those that name a faulty sender.
pub record Carried (c : Configuration) (trace : List Entry) : Type 0 where
  pub each : Always (IsCarriedAt c) trace

-- ---- an event, and the position at which its frame was sent. Here the oldest entry stands first.

-- the bytes were sent at this position
abbrev pub IsSentAt : List Entry → ℕ → List ℕ → Type 0
IsSentAt entries k bytes = MatchOption (slice_get entries k) ⊥ (EntrySendsBytes bytes)

-- the same, if a position is given
abbrev pub IsSentFrom : List Entry → Option ℕ → List ℕ → Type 0
IsSentFrom entries from bytes = MatchOption from ⊥ (λ k. IsSentAt entries k bytes)

-- a received frame was sent at that position, or may come from anywhere
abbrev pub ComesFrom : Configuration → List Entry → Option ℕ → Entry → Type 0
ComesFrom c entries from (Got p bytes) = IsSentFrom entries from bytes ⊎ (is_exempt c bytes ≡ true)
ComesFrom c entries from _ = ⊤

-- the same, of the input of an event
abbrev pub IsCarriedTo : Configuration → List Entry → Option ℕ → List Entry → Type 0
IsCarriedTo c entries from [] = ⊤
IsCarriedTo c entries from (input ∷ outputs) = ComesFrom c entries from input

-- the same, of a trace whose newest entry stands first
abbrev pub IsCarriedFrom : Configuration → List Entry → Option ℕ → List Entry → Type 0
IsCarriedFrom c trace from event = IsCarriedTo c (reverse trace) from event
