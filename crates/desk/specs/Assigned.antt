-- The calls that have numbers in a new view from its beginning (Castro and Liskov, TOCS 2002, on new views).
use Rattle.std.specs.Prelude.{◌≡◌, ℕ, List, ◌++◌, map}
use Rattle.std.specs.List.{filter_map}
use Rattle.protocol.specs.System.Configuration.{Configuration}
use Rattle.protocol.specs.Replica.State.{call_of}
use Rattle.replica_histories.specs.Numbers.{AssignedCall as HistoryCall, assigned_in}
use Rattle.desk.specs.declared.waiting.AssignedCall.{AssignedCall}
use Rattle.desk.specs.State.{DeskData}
use Rattle.desk.specs.Waiting.{with_view}

-- the calls in the new view with which the view began
abbrev pub assigned_of : List AssignedCall → List HistoryCall
assigned_of assigned = map (λ b. record { client = b.client.number; timestamp = b.timestamp.0 }) assigned

-- the calls of these frames
abbrev pub calls_in : Configuration → List (List ℕ) → List HistoryCall
calls_in c frames =
    map (λ call. record { client = call.client; timestamp = call.timestamp }) (filter_map (call_of c) frames)

-- The calls of the frames follow the others, in each configuration with so many clients.
abbrev pub AddsCalls : ℕ → List (List ℕ) → List AssignedCall → List AssignedCall → Type 0
AddsCalls clients frames old new =
    (c : Configuration) → c.clients ≡ clients → assigned_of new ≡ assigned_of old ++ calls_in c frames

-- They are the calls in batches of these texts.
abbrev pub AreAssigned : ℕ → List (List ℕ) → List AssignedCall → Type 0
AreAssigned clients texts calls =
    (c : Configuration) → c.clients ≡ clients → assigned_of calls ≡ assigned_in c texts

-- Of the waiting requests, these alone have numbers then.
pub record NotesAssigned (texts : List (List ℕ)) (old new : DeskData) : Type 0 where
  pub calls : List AssignedCall
  pub are : AreAssigned old.executed.clients texts calls
  pub new_is : new ≡ record old { waiting = with_view calls old.waiting }
