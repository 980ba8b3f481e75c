-- The desk of a history that a desk's data stand for, and their invariants.
use Rattle.std.specs.Prelude.{◌≡◌, ◌≢◌, ◌≤◌, ℕ, List, map, Some, option_map, AllPairs}
use Rattle.std.specs.Option.{ForSome, option_map_or}
use Rattle.tuple_codec.specs.Operations.{Operation, upgrade as Upgrade}
use Rattle.wire_format.specs.Lists.{Each}
use Rattle.protocol.specs.System.Configuration.{Configuration, members}
use Rattle.protocol.specs.Replica.State.{State, Call, call_of}
use Rattle.replica_histories.specs.Desk.{Desk}
use Rattle.replica_histories.specs.Transfers.{RestsOnState}
use Rattle.desk.specs.declared.waiting.WaitingRequest.{WaitingRequest}
use Rattle.desk.specs.State.{OpenData, DeskData}
use Rattle.desk.specs.Waiting.{frames_waiting}

-- ---- the desk

-- The operation of a waiting request. Its frame spells a call (`SpellCalls`), so the last word never counts.
abbrev pub waiting_op : Configuration → List ℕ → Operation
waiting_op c frame = option_map_or (λ call. call.op) (call_of c frame) Upgrade

-- the call of a waiting request
abbrev pub waiting_call : Configuration → WaitingRequest → Call
waiting_call c r =
    record { client = r.client.number; timestamp = r.timestamp.0; op = waiting_op c r.frame.items }

-- those of all, in order
abbrev pub waiting_calls : Configuration → List WaitingRequest → List Call
waiting_calls c requests = map (waiting_call c) requests

-- the executed state, the kept states, the waiting requests with their frames, and the open transfer
abbrev pub desk_of : Configuration → DeskData → Desk
desk_of c d = record {
  state = d.executed.state;
  snapshots = d.snapshots;
  waiting = waiting_calls c d.waiting.requests;
  frames = frames_waiting d.waiting;
  transfer = option_map (λ o. o.transfer) d.transfer;
}

-- ---- its invariants

-- each request's frame spells its call
abbrev pub SpellCalls : Configuration → List WaitingRequest → Type 0
SpellCalls c requests = Each (λ r. call_of c r.frame.items ≡ Some (waiting_call c r)) requests

abbrev pub AreOfDifferentClients : List WaitingRequest → Type 0
AreOfDifferentClients requests = AllPairs (λ r t. r.client.number ≢ t.client.number) requests

-- If the transfer rests at the executed state, the pages that were not fetched are that state's.
abbrev pub RestsAt : State → OpenData → Type 0
RestsAt st o = (o.rests_at ≤ st.number) × (o.rests_at ≡ st.number → RestsOnState o.transfer st)

-- The desk knows what the configuration gives its replica, and has its period. Its open transfer rests rightly. The
-- waiting requests spell their calls, one for each client.
pub record IsDeskOf (c : Configuration) (d : DeskData) : Type 0 where
  pub members_are : members c d.me ≡ d.membership
  pub period_is : c.period ≡ d.period
  pub rests : ForSome d.transfer (RestsAt d.executed.state)
  pub calls : SpellCalls c d.waiting.requests
  pub differ : AreOfDifferentClients d.waiting.requests
