-- What correct clients see of a run (Herlihy and Wing, Linearizability, TOPLAS 1990).
use Rattle.std.specs.Prelude.{◌≡◌, ℕ, true, List}
use Rattle.tuple_codec.specs.Operations.{Outcome}
use Rattle.protocol.specs.System.Configuration.{Configuration, IsConfiguration, is_correct_client}
use Rattle.protocol.specs.System.Trace.{Entry, Once, Has, Unforged}
use Rattle.protocol.specs.System.Texts.{NoCollision}
use Rattle.protocol.specs.System.Run.{IsRunOfLives}
use Rattle.protocol.specs.Space.Linear.{Item, Legal, Invokes, Accepts, NoneTwice, Placed, points}

-- The items cover what correct clients did. Each answer that a correct client accepted has an item, with the operation
-- that it had invoked. It invoked each item of its own. No client and timestamp has two items.
pub record CoversClients (c : Configuration) (items : List Item) (trace : List Entry) : Type 0 where
  pub accepted : (p timestamp : ℕ) (answer : Outcome) → is_correct_client c p ≡ true
      → Once (Accepts p timestamp answer) trace → Has (λ item. (item.client ≡ p) × (item.timestamp ≡ timestamp)
      × (item.answer ≡ answer) × Once (Invokes p timestamp item.op) trace) items
  pub invoked : (item : Item) → Has (λ x. x ≡ item) items
      → is_correct_client c item.client ≡ true → Once (Invokes item.client item.timestamp item.op) trace
  pub once : NoneTwice items

-- To correct clients the items are the history of one sequential space: each answer is the one that this space gives,
-- and each correct client's item stands between its invocation and its acceptance.
pub record IsLinearToClients (c : Configuration) (items : List Item) (trace : List Entry) : Type 0 where
  pub legal : Legal items
  pub covers : CoversClients c items trace
  pub placed : Placed c items trace

-- So are the points of each run of a valid configuration, also if clients are started again, under the premises of the
-- headline.
abbrev pub PointsAreLinearToClients : Type 0
PointsAreLinearToClients =
    (c : Configuration) → IsConfiguration c → (trace : List Entry) → IsRunOfLives c trace → Unforged c trace
    → NoCollision c trace → IsLinearToClients c (points c trace) trace

-- So each such run has items like these.
abbrev pub RunsAreLinearToClients : Type 0
RunsAreLinearToClients =
    (c : Configuration) → IsConfiguration c → (trace : List Entry) → IsRunOfLives c trace → Unforged c trace
    → NoCollision c trace → (items : List Item) × IsLinearToClients c items trace
