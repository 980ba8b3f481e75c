-- Delivery: each frame that correct parties sent in the later part of a trace reaches all that it is for. The order is
-- free, and frames of faulty parties may be lost.
use Rattle.std.specs.Prelude.{◌≡◌, ℕ, true, List, []}
use Rattle.std.specs.Option.{option_map_or}
use Rattle.wire_format.specs.Words.{frame_of}
use Rattle.protocol.specs.System.Configuration.{Configuration, is_correct}
use Rattle.protocol.specs.System.Trace.{Entry, Has}
use Rattle.protocol.specs.System.Trace.Entry.{Got, Sent}
use Rattle.protocol.specs.System.Schedule.{meant_for}

-- this entry is among the entries
abbrev pub HasEntry : Entry → List Entry → Type 0
HasEntry e entries = Has (λ x. x ≡ e) entries

-- the receivers of the bytes that a party sends: those with a MAC, or all other replicas
abbrev pub meant : Configuration → ℕ → List ℕ → List ℕ
meant c p bytes = option_map_or (λ frame. meant_for c p frame.authenticator) (frame_of bytes) []

-- Each correct party that a frame is for receives it in this part of a trace, if it is sent in this part.
abbrev pub AllDelivered : Configuration → List Entry → Type 0
AllDelivered c later =
    (p q : ℕ) (bytes : List ℕ) → HasEntry (Sent p bytes) later → Has (λ x. x ≡ q) (meant c p bytes)
    → is_correct c q ≡ true → HasEntry (Got q bytes) later
