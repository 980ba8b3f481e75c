-- A replica's executed state as plain data, and how a batch changes it (Castro and Liskov, TOCS 2002, on normal-case
-- operation).
use Rattle.std.specs.Prelude.{◌≡◌, ℕ, suc, List, map, refl}
use Rattle.std.specs.Coded.{Coded, code_by, coded×, coded_ℕ}
use Rattle.tuple_codec.specs.OperationView.{outcome_of}
use Rattle.space.specs.Births.{SpaceState, space_code}
use Rattle.reply_cache.specs.Replies.{Kept, Replies}
use Rattle.reply_cache.specs.RepliesCode.{replies_code}
use Rattle.wire_format.specs.Words.{requests_of}
use Rattle.protocol.specs.System.Configuration.{Configuration}
use Rattle.protocol.specs.Replica.State.{State, Ran as RanData, execute, ran_in}
use Rattle.execution.specs.declared.running.Ran.{Ran}

-- the state, and the number of clients
pub record ExecutedData : Type 0 where
  pub state : State
  pub clients : ℕ

-- A client, and the kept reply to its request that ran.
abbrev pub told : Ran → ℕ × Kept
told r = (r.client.number, record { timestamp = r.timestamp.0; number = r.number.0; outcome = outcome_of r.answer })

-- the same of a request that the definition runs
abbrev pub told_of : RanData → ℕ × Kept
told_of r = (r.call.client, r.kept)

-- The state after the batch is the definition's, and so are the replies to the requests that ran, in order.
pub record IsAfter (c : Configuration) (old : ExecutedData) (batch : List ℕ) (told : List (ℕ × Kept))
    (new : ExecutedData) : Type 0 where
  pub state : new.state ≡ execute c old.state batch
  pub ran : told ≡ map told_of (ran_in c (suc old.state.number) old.state (requests_of batch))

-- It is so in each configuration with so many clients.
abbrev pub ExecutesBatchText : ExecutedData → List ℕ → List (ℕ × Kept) → ExecutedData → Type 0
ExecutesBatchText old batch told new = (c : Configuration) → c.clients ≡ old.clients → IsAfter c old batch told new

-- ---- codes, by which a proof tells values apart

abbrev pub state_code : Coded State
state_code =
    code_by (SpaceState × (ℕ × Replies)) (coded× space_code (coded× coded_ℕ replies_code))
    (λ s. (s.space, (s.number, s.replies))) (λ p. record { space = p.0; number = p.1.0; replies = p.1.1 }) (λ _. refl)

abbrev pub executed_code : Coded ExecutedData
executed_code =
    code_by (State × ℕ) (coded× state_code coded_ℕ) (λ e. (e.state, e.clients))
    (λ p. record { state = p.0; clients = p.1 }) (λ _. refl)
