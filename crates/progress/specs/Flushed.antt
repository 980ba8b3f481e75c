-- The same as schedules: a flush delivers all that is left, so a tick of the client and a flush are enough.
use Rattle.std.specs.Prelude.{◌≡◌, ℕ, ◌+◌, ◌*◌, ◌≤◌, Bool, true, List, [], ◌∷◌, ◌++◌, reverse, Some}
use Rattle.terms.specs.Parties.{client_party}
use Rattle.quorum.specs.Quorum.{count_below}
use Rattle.tuple_codec.specs.Operations.{Outcome}
use Rattle.protocol.specs.System.Configuration.{Configuration, IsConfiguration, replicas, is_correct_replica, is_correct_client}
use Rattle.protocol.specs.System.Trace.{Entry, history_of, Unforged}
use Rattle.protocol.specs.System.Trace.Entry.{Accepted}
use Rattle.protocol.specs.System.Texts.{NoCollision}
use Rattle.protocol.specs.System.Run.{IsRun, OnlyTheseStopped}
use Rattle.protocol.specs.System.Schedule.{Step, ticks, flush, World, StepsLead, new_world}
use Rattle.protocol.specs.Client.RightClient.{OpenCall, open_call}
use Rattle.progress.specs.Delivery.{HasEntry, AllDelivered}
use Rattle.progress.specs.Answered.{KeepsReply}

-- some schedule makes the world
abbrev pub WorldIsReached : Configuration → World → Type 0
WorldIsReached c w = (steps : List Step) × StepsLead c new_world steps (reverse w.past) w

-- the last step is a flush
abbrev pub EndsInFlush : List Step → Type 0
EndsInFlush [] = ⊥
EndsInFlush (flush ∷ []) = Unit {0}
EndsInFlush (step ∷ []) = ⊥
EndsInFlush (step ∷ next ∷ steps) = EndsInFlush (next ∷ steps)

-- From any world that is reached, steps whose last one is a flush add entries to the trace, and deliver all that is
-- sent in them.
abbrev pub FlushesDeliverAll : Type 0
FlushesDeliverAll =
    (c : Configuration) (w v : World) (steps : List Step) (entries : List Entry)
    → WorldIsReached c w → StepsLead c w steps entries v → EndsInFlush steps
    → (v.past ≡ reverse entries ++ w.past) × AllDelivered c (reverse entries)

-- The world that a tick of the client and a flush make.
abbrev pub AsksAndFlushes : Configuration → ℕ → World → List Entry → World → Type 0
AsksAndFlushes c client w entries v = StepsLead c w (ticks (client_party client) ∷ flush ∷ []) entries v

-- From any world that is reached, let a correct client have a call open to which 2f + 1 correct replicas keep the
-- reply. The client's tick and a flush make it accept, if nobody has stopped at the end.
abbrev pub FlushesBringAnswers : Type 0
FlushesBringAnswers =
    (c : Configuration) → IsConfiguration c → (w v : World) (entries : List Entry) → WorldIsReached c w
    → (k : ℕ) (call : OpenCall) (keeps : ℕ → Bool) → AsksAndFlushes c k w entries v
    → IsRun c v.past → OnlyTheseStopped c [] v.past → Unforged c v.past → NoCollision c v.past
    → is_correct_client c (client_party k) ≡ true → open_call (history_of (client_party k) w.past) ≡ Some call
    → 2 * c.faults + 1 ≤ count_below keeps (replicas c)
    → ((r : ℕ) → keeps r ≡ true
    → (is_correct_replica c r ≡ true) × KeepsReply c r (history_of r w.past) k call.timestamp)
    → (answer : Outcome) × HasEntry (Accepted k call.timestamp answer) entries
