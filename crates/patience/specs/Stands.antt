-- What a replica waits for, by its history.
use Rattle.std.specs.Prelude.{◌≡◌, ℕ, nat_lt, if◌then◌else◌, List, [], ◌∷◌, Option, Some, None, option_map, option_and_then}
use Rattle.std.specs.Bool.{then_some}
use Rattle.terms.specs.declared.order.Number.{Number}
use Rattle.terms.specs.declared.order.Timestamp.{Timestamp}
use Rattle.terms.specs.declared.order.View.{View}
use Rattle.terms.specs.declared.state.Level.{Level}
use Rattle.state_transfer.specs.declared.place.Place.{Place}
use Rattle.patience.specs.declared.standing.Standing.{Standing}
use Rattle.protocol.specs.System.Configuration.{Configuration}
use Rattle.protocol.specs.System.Trace.{Entry}
use Rattle.protocol.specs.Replica.Certificates.{view, target}
use Rattle.protocol.specs.Replica.State.{Call}
use Rattle.protocol.specs.Replica.Transfers.{asked_last}
use Rattle.protocol.specs.Replica.RightReplica.{Point, HistoryReaches}

-- the number of a view
abbrev pub view_of : View → ℕ
view_of v = v.0

-- the number and the place of a part
abbrev pub part_of : Number × Place → ℕ × (Level × ℕ)
part_of x = (x.0.0, (x.1.level, x.1.index))

abbrev pub request_of : ℕ × Timestamp → ℕ × ℕ
request_of x = (x.0, x.1.0)

-- The view that the replica aims at, if it sent a view change for a view above its own: so it is inactive.
abbrev pub aimed_at : Configuration → List Entry → Option ℕ
aimed_at c history = then_some (nat_lt (view c history) (target history)) (target history)

-- The part that the replica fetched last, if its state is above the executed one: so the transfer is open.
abbrev pub awaited : List Entry → Point → Option (ℕ × (Level × ℕ))
awaited history point = option_and_then (λ x. then_some (nat_lt point.state.number x.0) x) (asked_last history)

-- the request that has waited longest: its client and its timestamp
abbrev pub oldest : List Call → Option (ℕ × ℕ)
oldest [] = None
oldest (call ∷ waiting) = Some (call.client, call.timestamp)

-- The replica stands so after this history.
pub record Stands (c : Configuration) (me : ℕ) (history : List Entry) (standing : Standing) : Type 0 where
  pub point : Point
  pub reaches : HistoryReaches c me history point
  pub view : option_map view_of standing.view ≡ aimed_at c history
  pub part : option_map part_of standing.part ≡ awaited history point
  pub request : option_map request_of standing.request ≡ oldest point.waiting
