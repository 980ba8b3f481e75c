-- How the functions of the stage change it.
use Rattle.std.specs.Prelude.{◌≡◌, ℕ, suc, Bool, true, false, List, [], ◌∷◌, ◌++◌, map, is_some, slice_index_or, slice_set, slice_get, Some, ⊤, Vec}
use Rattle.std.specs.declared.alloc.Global.{Global}
use Rattle.terms.specs.Parties.{party_number}
use Rattle.terms.specs.declared.order.Timestamp.{Timestamp}
use Rattle.terms.specs.declared.parties.ClientId.{ClientId}
use Rattle.terms.specs.declared.parties.Party.{Party}
use Rattle.tuple_codec.specs.declared.operations.Answer.{Answer}
use Rattle.tuple_codec.specs.OperationView.{outcome_of}
use Rattle.tuple_codec.specs.Operations.{Operation}
use Rattle.protocol.specs.System.Configuration.{Configuration}
use Rattle.protocol.specs.System.Trace.{Entry, party_of, is_output, AreOutputs}
use Rattle.protocol.specs.System.Trace.Entry.{Invoke, Got, Sent, Accepted}
use Rattle.protocol.specs.System.Schedule.{Step, Made, World, with_entry, with_frame, IsAllowed}
use Rattle.protocol.specs.System.Schedule.Step.{calls, seal, sign}
use Rattle.events.specs.declared.output.Output.{Output}
use Rattle.events.specs.declared.output.Output.TheVariants as outputs
use Rattle.events.specs.Outputs.{entry_of, AreSentAsMeant, IsSentAsMeant}
use Rattle.replica.specs.State.{ReplicaData, has_stopped}
use Rattle.replica.specs.Fits as replica_fits
use Rattle.replica.specs.declared.replica.Event.{Event as ReplicaEvent}
use Rattle.client_cert.specs.Steps as client_steps
use Rattle.client_cert.specs.declared.client.Event.{Event as ClientEvent}
use Rattle.wire_format.specs.Lists.{Each}
use Rattle.schedule_world.specs.declared.stage.StageClient.{StageClient}
use Rattle.schedule_world.specs.declared.stage.Stage.{Stage}
use Rattle.schedule_world.specs.Pooled.{Frame, IsFirstWaiting}
use Rattle.schedule_world.specs.Stages.{StageShowsWorld, StageIsAt, StageIsAfterSteps, with_entries}

-- ---- parts that stay the same

-- the parties stay the same
pub record KeepsParties (old new : Stage) : Type 0 where
  pub replicas : new.replicas ≡ old.replicas
  pub stage_clients : new.stage_clients ≡ old.stage_clients

-- trace, frames and acceptances stay the same
pub record KeepsRecords (old new : Stage) : Type 0 where
  pub trace : new.trace ≡ old.trace
  pub pool : new.pool ≡ old.pool
  pub accepted : new.accepted ≡ old.accepted

-- ---- entries

-- the entry neither makes a frame nor accepts an answer
abbrev pub IsPlainEntry : Entry → Type 0
IsPlainEntry (Sent p bytes) = ⊥
IsPlainEntry (Accepted client timestamp answer) = ⊥
IsPlainEntry _ = ⊤

-- the new stage has the entry more
abbrev pub StageAddsEntry : Configuration → Entry → Stage → Stage → Type 0
StageAddsEntry c e old new = (w : World) → StageShowsWorld c w old → StageShowsWorld c (with_entry c w e) new

-- a party's outputs, as entries
abbrev pub entry_by : Party → Output → Entry
entry_by party output = entry_of (party_number party) output

abbrev pub entries_by : Party → Vec Output Global → List Entry
entries_by party outs = map (entry_by party) outs.items

-- the new stage has the acceptance more
abbrev pub AddsAccepted :
    {A : Type 0} → Configuration → ClientId → Timestamp → Answer A → Stage → Stage → Type 0
AddsAccepted c client timestamp answer old new =
    StageAddsEntry c (Accepted client.number timestamp.0 (outcome_of answer)) old new

-- the new stage has these entries more, the oldest first
abbrev pub AddsAll : Configuration → List Entry → Stage → Stage → Type 0
AddsAll c entries old new = (w : World) → StageShowsWorld c w old → StageShowsWorld c (with_entries c w entries) new

-- the new stage has the party's output more if, where it is a frame, it goes to the parties for whom the frame is
abbrev pub AddsIfMeant : Configuration → ℕ → Output → Stage → Stage → Type 0
AddsIfMeant c p output old new = IsSentAsMeant c p output → StageAddsEntry c (entry_of p output) old new

-- so is a frame that the party sends to these receivers
abbrev pub AddsSent : Configuration → Party → Vec Party Global → List ℕ → Stage → Stage → Type 0
AddsSent c party receivers frame old new =
    AddsIfMeant c (party_number party) (outputs.Send receivers frame) old new

-- and so are all these outputs, the oldest first
abbrev pub AddsAllIfMeant : Configuration → ℕ → List Output → Stage → Stage → Type 0
AddsAllIfMeant c p outs old new = AreSentAsMeant c p outs → AddsAll c (map (entry_of p) outs) old new

-- the entry is an output of the party, or all of them are
abbrev pub IsOutputOf : ℕ → Entry → Type 0
IsOutputOf p e = (party_of e ≡ p) × (is_output e ≡ true)

abbrev pub AreOf : ℕ → List Entry → Type 0
AreOf p entries = Each (IsOutputOf p) entries

-- ---- the parties' steps

-- Replica p takes the event and gives the outputs, and no other replica moves. If it has stopped then, it gives
-- nothing.
pub record MovesReplica (old : List ReplicaData) (p : ℕ) (event : ReplicaEvent) (outs : List Output)
    (new : List ReplicaData) : Type 0 where
  pub before : ReplicaData
  pub after : ReplicaData
  pub was : (d : ReplicaData) → slice_index_or old p d ≡ before
  pub becomes : new ≡ slice_set old p after
  pub number : replica_fits.me_of after ≡ replica_fits.me_of before
  pub leads : replica_fits.EventLeads before event outs after
  pub meant : replica_fits.SendsAsMeant before outs
  pub silent : has_stopped after ≡ true → outs ≡ []

-- client k takes the event and gives the outputs, and no other client moves
pub record MovesClient (old : List StageClient) (k : ℕ) (event : ClientEvent) (outs : List Output)
    (new : List StageClient) : Type 0 where
  pub before : StageClient
  pub after : StageClient
  pub was : (d : StageClient) → slice_index_or old k d ≡ before
  pub becomes : new ≡ slice_set old k after
  pub number : after.client.number ≡ before.client.number
  pub calls : after.calls ≡ before.calls
  pub leads : client_steps.EventLeads before.client event outs after.client
  pub meant : client_steps.SendsAsMeant before.client outs
  pub silent : after.client.stopped ≡ true → outs ≡ []

-- client k calls the operation, with this timestamp, and gives the outputs, and no other client moves
pub record ClientCalls (old : List StageClient) (k : ℕ) (op : Operation) (timestamp : ℕ) (outs : List Output)
    (new : List StageClient) : Type 0 where
  pub before : StageClient
  pub after : StageClient
  pub was : (d : StageClient) → slice_index_or old k d ≡ before
  pub becomes : new ≡ slice_set old k after
  pub number : after.client.number ≡ before.client.number
  pub timestamp_is : timestamp ≡ suc before.calls
  pub calls : after.calls ≡ timestamp
  pub leads : is_some before.client.call ≡ false
      → client_steps.HistoryStaysRight before.client
      (Invoke before.client.number (suc before.client.calls) op) outs after.client
  pub meant : client_steps.SendsAsMeant before.client outs
  pub silent : is_some before.client.call ≡ false → after.client.stopped ≡ true → outs ≡ []

-- the same of the stage that they are in
abbrev pub StepsReplica : Stage → ℕ → ReplicaEvent → List Output → Stage → Type 0
StepsReplica old p event outs new = MovesReplica old.replicas.items p event outs new.replicas.items

abbrev pub StepsClient : Stage → ℕ → ClientEvent → List Output → Stage → Type 0
StepsClient old k event outs new = MovesClient old.stage_clients.items k event outs new.stage_clients.items

abbrev pub StepsInvocation : Stage → ℕ → Operation → Stage → Timestamp × Vec Output Global → Type 0
StepsInvocation old k op new given =
    ClientCalls old.stage_clients.items k op given.0.0 given.1.items new.stage_clients.items

-- the frame is the first that a party waits for, and the party is the first that waits for it
abbrev pub WaitsFirst : List Frame → ℕ × Party → Type 0
WaitsFirst pool next = IsFirstWaiting pool next.0 (party_number next.1)

-- ---- events

-- the stage stands at the world after this one and some outputs
pub record StageIsBehind (c : Configuration) (w : World) (s : Stage) : Type 0 where
  pub outputs : List Entry
  pub are : AreOutputs outputs
  pub stands : StageIsAt c (with_entries c w outputs) s

-- the party takes the input, and then gives outputs
abbrev pub InputComes : Configuration → Entry → Stage → Stage → Type 0
InputComes c input old new = (w : World) → StageIsAt c w old → StageIsBehind c (with_entry c w input) new

-- the party takes the frame, and then gives outputs
abbrev pub FrameIsDelivered : Configuration → ℕ → ℕ → Stage → Stage → Type 0
FrameIsDelivered c frame party old new =
    (w : World) → StageIsAt c w old
    → (made : Made) × (slice_get w.frames frame ≡ Some made)
    × StageIsBehind c (record (with_entry c w (Got party made.bytes)) { delivered = (frame, party) ∷ w.delivered }) new

-- the client calls if it may, and then gives outputs
abbrev pub CallComes : Configuration → ℕ → Operation → Stage → Stage → Type 0
CallComes c k op old new =
    (w : World) → StageIsAt c w old → IsAllowed c w (calls k op)
    → (timestamp : ℕ) × StageIsBehind c (with_entry c w (Invoke k timestamp op)) new

-- a frame is made for these receivers
abbrev pub FrameIsMade : Configuration → List ℕ → List ℕ → Stage → Stage → Type 0
FrameIsMade c bytes receivers old new = (w : World) → StageIsAt c w old → StageIsAt c (with_frame w bytes receivers) new

abbrev pub FrameIsMadeFor : Configuration → List ℕ → List Party → Stage → Stage → Type 0
FrameIsMadeFor c bytes receivers old new = FrameIsMade c bytes (map party_number receivers) old new

-- ---- steps

-- the steps in which a frame of a faulty party is made, with MACs, or signed
abbrev pub seal_of : Party → List Party → List ℕ → Step
seal_of sender receivers body = seal (party_number sender) (map party_number receivers) body

abbrev pub sign_of : Party → ℕ → List Party → List ℕ → Step
sign_of signer leaf receivers body = sign (party_number signer) leaf (map party_number receivers) body

-- the step leads from the old stage to the new one
abbrev pub LeadsBy : Configuration → Step → Stage → Stage → Type 0
LeadsBy c step old new = (done : List Step) → StageIsAfterSteps c done [] old
    → StageIsAfterSteps c (done ++ step ∷ []) [] new

-- the step was taken; or it is not allowed, and nothing happened
abbrev pub StepIsTaken : Configuration → Step → Stage → Stage → Bool → Type 0
StepIsTaken c step old new true = LeadsBy c step old new
StepIsTaken c step old new false = (new ≡ old) × ((w : World) → StageIsAt c w old → IsAllowed c w step → ⊥)
