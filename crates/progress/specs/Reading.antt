-- A read that 2f + 1 correct replicas answer alike is accepted at once, without an ordered request (Castro and Liskov,
-- TOCS 2002, on read-only operations).
use Rattle.std.specs.Prelude.{◌≡◌, ℕ, ◌+◌, ◌*◌, ◌≤◌, Bool, true, List, [], ◌∷◌, ◌++◌}
use Rattle.terms.specs.Parties.{client_party}
use Rattle.quorum.specs.Quorum.{count_below}
use Rattle.tuple_codec.specs.Operations.{Operation, Outcome}
use Rattle.space.specs.Applying.{is_read_only}
use Rattle.protocol.specs.System.Configuration.{Configuration, IsConfiguration, replicas, is_correct_replica, is_correct_client}
use Rattle.protocol.specs.System.Trace.{Entry, Unforged}
use Rattle.protocol.specs.System.Trace.Entry.{Invoke, Accepted}
use Rattle.protocol.specs.System.Texts.{NoCollision}
use Rattle.protocol.specs.System.Run.{IsRun, OnlyTheseStopped}
use Rattle.protocol.specs.Space.Linear.{reached}
use Rattle.progress.specs.Delivery.{HasEntry, AllDelivered}

-- The replica has executed, or installed, number n and no later one, before this part of a trace and after it.
abbrev pub StaysAt : ℕ → List Entry → List Entry → ℕ → Type 0
StaysAt n later start r = (reached start r ≡ n) × (reached (later ++ start) r ≡ n)

-- Nobody has stopped. A correct client invokes a read, and then all that is sent is delivered, while 2f + 1 correct
-- replicas stay at one executed number. Then the client accepts an answer.
abbrev pub ReadsAreAccepted : Type 0
ReadsAreAccepted =
    (c : Configuration) → IsConfiguration c → (k t n : ℕ) (op : Operation) (later start : List Entry)
    → IsRun c (later ++ Invoke k t op ∷ start) → OnlyTheseStopped c [] (later ++ Invoke k t op ∷ start)
    → Unforged c (later ++ Invoke k t op ∷ start) → NoCollision c (later ++ Invoke k t op ∷ start)
    → is_correct_client c (client_party k) ≡ true → is_read_only op ≡ true
    → (answers : ℕ → Bool) → 2 * c.faults + 1 ≤ count_below answers (replicas c)
    → ((r : ℕ) → answers r ≡ true
    → (is_correct_replica c r ≡ true) × StaysAt n later (Invoke k t op ∷ start) r)
    → AllDelivered c later
    → (answer : Outcome) × HasEntry (Accepted k t answer) later
