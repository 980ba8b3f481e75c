-- The result of a cluster. A trace and a history have the newest entry first.
use Rattle.std.specs.Prelude.{◌≡◌, ◌++◌, ℕ, List, [], All, filter, map, reverse, slice_get, Some, ◌⊎◌, ⊤}
use Rattle.terms.specs.Parties.{party_number}
use Rattle.terms.specs.declared.parties.ReplicaId.{ReplicaId}
use Rattle.protocol.specs.System.Configuration.{Configuration, IsConfiguration}
use Rattle.protocol.specs.System.Run.{IsRun}
use Rattle.protocol.specs.System.Texts.{NoCollision}
use Rattle.protocol.specs.System.Trace.{Entry, Unforged, history_of}
use Rattle.protocol.specs.Client.RightClient.{IsPromptClient}
use Rattle.protocol.specs.Replica.Owed.{IsPromptReplica}
use Rattle.protocol.specs.Space.Linear.{points, IsLinear}
use Rattle.journal.specs.Carrying.{Carried}
use Rattle.journal.specs.Histories.{correct_replicas}
use Rattle.space_node.specs.declared.run.FinishFault.{FinishFault}
use Rattle.space_node.specs.declared.run.FinishFault.TheVariants as faults
use Rattle.space_node.specs.PartyStates.{PartyState}

-- no party is faulty
abbrev pub IsFaultless : Configuration → Type 0
IsFaultless c = (c.faulty_replicas ≡ []) × (c.faulty_clients ≡ [])

-- the configuration of a cluster, and its correct replicas, in the order of their numbers
pub record Serves (c : Configuration) (correct : List ReplicaId) : Type 0 where
  pub valid : IsConfiguration c
  pub correct_are : map (λ r. r.0) correct ≡ correct_replicas c

-- the trace has just these histories of the parties
abbrev pub HasHistories : List Entry → List PartyState → Type 0
HasHistories trace states = All (λ s. history_of s.party trace ≡ s.history) states

-- one of these has another history than the party's in the trace
pub record LacksHistory (trace : List Entry) (states : List PartyState) (p : ℕ) : Type 0 where
  pub at : ℕ
  pub state : PartyState
  pub is : slice_get states at ≡ Some state
  pub party_is : state.party ≡ p
  pub differs : ¬ (history_of state.party trace ≡ state.history)

-- The result of the comparison: the trace is a run's in which received frames were sent, and it has the histories of
-- the shares and of the clients.
pub record IsWhole (c : Configuration) (trace : List Entry) (shares clients : List PartyState) : Type 0 where
  pub run : IsRun c trace
  pub carried : Carried c trace
  pub shares_are : HasHistories trace shares
  pub clients_are : HasHistories trace clients

-- Each correct replica is prompt, up to the end of its share.
abbrev pub ReplicasArePrompt : Configuration → List PartyState → Type 0
ReplicasArePrompt c shares = All (λ s. IsPromptReplica c s.party s.history) shares

-- Each given client is prompt, up to the end of its history.
abbrev pub ClientsArePrompt : Configuration → List PartyState → Type 0
ClientsArePrompt c clients = All (λ s. IsPromptClient c s.party s.history) clients

-- the parties of those states that have stopped, in their order
abbrev pub stopped_of : List PartyState → List ℕ
stopped_of states = map (λ s. s.party) (filter (λ s. s.stopped) states)

-- These are the numbers of the replicas that had stopped, and then of the clients that have, each once for its state,
-- and no others.
abbrev pub AreNamed : List ℕ → List PartyState → List PartyState → Type 0
AreNamed stopped shares clients = stopped ≡ stopped_of shares ++ stopped_of clients

-- The trace is a run's. Each frame that a party got was sent before, except those of faulty senders. The trace has
-- just the histories of the shares, one of each correct replica, and of the given clients. In it each of these
-- parties does all that it owes. It has no input that came to a party after it had stopped. Exactly the parties that
-- stopped are named. If no party is faulty, the trace is unforged. If it is unforged and its texts do not collide, it
-- is linear: the answers that clients accept, of reads and writes alike, are those of one sequential tuple space. In
-- it each operation acts at most once, an accepted one exactly once, at a position between its invocation and its
-- acceptance.
pub record IsFinished (c : Configuration) (trace : List Entry) (shares : List PartyState) (stopped : List ℕ)
    (clients : List PartyState) : Type 0 where
  pub whole : IsWhole c trace shares clients
  pub replicas_prompt : ReplicasArePrompt c shares
  pub clients_prompt : ClientsArePrompt c clients
  pub named : AreNamed stopped shares clients
  pub replicas_are : map (λ s. s.party) shares ≡ correct_replicas c
  pub unforged : IsFaultless c → Unforged c trace
  pub linear : Unforged c trace → NoCollision c trace → IsLinear c (points c trace) trace

-- If the histories differ, the trace has another one of this party than its share or its handle. The run still names
-- exactly the parties that stopped.
pub record TellsOther (trace : List Entry) (shares : List PartyState) (stopped : List ℕ)
    (clients : List PartyState) (p : ℕ) : Type 0 where
  pub lacks : LacksHistory trace shares p ⊎ LacksHistory trace clients p
  pub named : AreNamed stopped shares clients

-- The fault is right: the trace has another history of the named party. A lack of memory promises nothing.
abbrev pub TellsFault : {N : Type 0} → FinishFault N → List PartyState → Type 0
TellsFault (faults.NotInJournal run party) clients =
    TellsOther (reverse run.trace.items) run.shares.items (map party_number run.stopped.items) clients
    (party_number party)
TellsFault faults.NoMemory clients = ⊤
