-- Laws over all runs: the headline, the levels at which answers are accepted, and that no request runs twice.
use Rattle.std.specs.Prelude.{◌≡◌, ℕ, ◌<◌, true, List, [], ◌∷◌, Some, ⊤, map, suc, ◌++◌}
use Rattle.terms.specs.Parties.{client_party}
use Rattle.terms.specs.declared.order.Mode.TheVariants as modes
use Rattle.protocol.specs.System.Configuration.{Configuration, IsConfiguration}
use Rattle.protocol.specs.System.Trace.{Entry, history_of, Always, Unforged}
use Rattle.protocol.specs.System.Trace.Entry.{Accepted}
use Rattle.protocol.specs.Client.RightClient.{Vote, newest_vote}
use Rattle.protocol.specs.System.Texts.{NoCollision}
use Rattle.wire_format.specs.Words.{requests_of}
use Rattle.protocol.specs.Replica.State.{State, opening, execute, ran_in}
use Rattle.protocol.specs.Space.Linear.{points, IsLinear, Linear, is_level, invoke_past, Placing, ordered_point, NoneTwice}
use Rattle.protocol.specs.Laws.Histories.{IsSafeTrace}
use Rattle.protocol.specs.System.Run.{IsRun, IsRunOfLives}

-- Over every run of a valid configuration, in which clients may be started again, if it is unforged and its texts do not
-- collide, the points linearize it. So the answers that correct clients accept, of reads and writes alike, are those of
-- one sequential tuple space. Each operation acts at most once there, an accepted one exactly once, at a position between
-- its invocation and its acceptance. One that a client left open when it was started again acts once or never.
abbrev pub PointsAreLinear : Type 0
PointsAreLinear =
    (c : Configuration) → IsConfiguration c → (trace : List Entry) → IsRunOfLives c trace → Unforged c trace
    → NoCollision c trace
    → IsLinear c (points c trace) trace

-- A run in which each client has one life is such a run, so all these laws hold of it.
abbrev pub RunsAreOfLives : Type 0
RunsAreOfLives = (c : Configuration) (trace : List Entry) → IsRun c trace → IsRunOfLives c trace

-- There is such a list of items: the run is linearizable.
abbrev pub RunsAreLinear : Type 0
RunsAreLinear =
    (c : Configuration) → IsConfiguration c → (trace : List Entry) → IsRunOfLives c trace → Unforged c trace
    → NoCollision c trace → Linear c trace

-- ---- the levels of accepted answers

-- At an acceptance all but f of the correct replicas had reached the replies' number. When a read was invoked, no
-- greater number had been reached by all but f.
abbrev pub AtItsLevel : Configuration → List Entry → Entry → Type 0
AtItsLevel c past (Accepted k timestamp answer) =
    (vote : Vote) × (newest_vote c (client_party k) (history_of (client_party k) past) timestamp ≡ Some vote)
    × (is_level c past vote.number ≡ true)
    × (vote.mode ≡ modes.ReadOnly → (n : ℕ) → vote.number < n
    → is_level c (invoke_past (client_party k) past) n ≡ true → ⊥)
AtItsLevel c past _ = ⊤

-- It is so at each acceptance of a run.
abbrev pub AcceptedAtLevels : Type 0
AcceptedAtLevels =
    (c : Configuration) → IsConfiguration c → (trace : List Entry) → IsRunOfLives c trace → Unforged c trace
    → NoCollision c trace
    → Always (AtItsLevel c) trace

-- The same over a trace whose histories are safe.
abbrev pub LevelsOfSafe : Type 0
LevelsOfSafe =
    (c : Configuration) → IsConfiguration c → (trace : List Entry) → IsSafeTrace c trace → Unforged c trace
    → NoCollision c trace
    → Always (AtItsLevel c) trace

-- ---- over all batches

-- the requests that run in these batches, one after another
abbrev pub ran_points : Configuration → State → List (List ℕ) → List Placing
ran_points c st [] = []
ran_points c st (batch ∷ batches) =
    map (ordered_point 0 (suc st.number)) (ran_in c (suc st.number) st (requests_of batch))
    ++ ran_points c (execute c st batch) batches

-- No client and timestamp runs twice, whatever the batches hold.
abbrev pub NoneRunsTwice : Type 0
NoneRunsTwice =
    (c : Configuration) → IsConfiguration c → (batches : List (List ℕ))
    → NoneTwice (map (λ x. x.item) (ran_points c opening batches))
