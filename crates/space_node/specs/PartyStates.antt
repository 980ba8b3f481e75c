-- The states of parties: their values in contracts, their invariants, and their changes by an event. The newest entry
-- of a history stands first.
use Rattle.std.specs.Prelude.{◌≡◌, ℕ, ◌<◌, Bool, true, false, ◌||◌, List, [], ◌∷◌, map, is_some}
use Rattle.terms.specs.Parties.{client_party}
use Rattle.terms.specs.declared.parties.TheConstants.{FIRST_CLIENT}
use Rattle.protocol.specs.System.Configuration.{Configuration, is_correct_replica}
use Rattle.protocol.specs.System.Reads.{without_reads}
use Rattle.protocol.specs.System.Trace.{Entry, party_of, is_output}
use Rattle.protocol.specs.System.Trace.Entry.{Got, Tick}
use Rattle.protocol.specs.Client.RightClient.{last_call, open_call, IsPromptClient}
use Rattle.protocol.specs.Replica.Owed.{IsPromptReplica}
use Rattle.events.specs.Outputs.{after_event, entry_of}
use Rattle.events.specs.declared.output.Output.{Output}
use Rattle.journal.specs.Parts.{Part, longer_part}
use Rattle.replica.specs.State.{DeskPart, OrdererPart}
use Rattle.replica.specs.Parted.{FitBoth, DeskFitsHistory}
use Rattle.client_cert.specs.State.{ClientState}
use Rattle.client_cert.specs.Fits.{Fits, FitsLife}
use Rattle.space_node.specs.declared.input.Input.{Input}
use Rattle.space_node.specs.declared.input.Input.TheVariants as inputs

-- The state of a party: its number, the party's history, and whether it stopped.
pub record PartyState : Type 0 where
  pub party : ℕ
  pub history : List Entry
  pub stopped : Bool

-- the state of a party that has done nothing and hasn't stopped
abbrev pub new_party_state : ℕ → PartyState
new_party_state p = record { party = p; history = []; stopped = false }

abbrev pub IsNew : PartyState → Type 0
IsNew s = s ≡ new_party_state s.party

-- the same party stopped, with its history as it is
abbrev pub stopped_at : PartyState → PartyState
stopped_at s = record s { stopped = true }

-- the replica of these two states at the end, the orderer's and the desk's: it has stopped if one of them has
abbrev pub replica_left_by : PartyState → PartyState → PartyState
replica_left_by order shelf = record shelf { stopped = order.stopped || shelf.stopped }

-- a replica without states at the end: it has stopped
abbrev pub absent : ℕ → PartyState
absent p = stopped_at (new_party_state p)

-- no call is open, unless the client stopped
abbrev pub HasNoOpenCall : PartyState → Type 0
HasNoOpenCall s = s.stopped ≡ false → is_some (open_call s.history) ≡ false

-- ---- events

-- the entry that begins the party's event
abbrev pub input_of : ℕ → Input → Entry
input_of p (inputs.Got bytes from) = Got p bytes
input_of p inputs.Tick = Tick p

-- an event of the party may begin with this entry
abbrev pub IsInputOf : ℕ → Entry → Type 0
IsInputOf p e = (party_of e ≡ p) × (is_output e ≡ false)

-- the party's history after the event
abbrev pub history_after : Part → Entry → List Output → List Entry
history_after share input outs = after_event share.party input outs share.history

-- the party's share and its share of ordering after the event
abbrev pub part_after : Part → Entry → List Output → Part
part_after share input outs = longer_part share (input ∷ map (entry_of share.party) outs)

abbrev pub ordering_after : Part → Entry → List Output → Part → Part
ordering_after share input outs order =
    longer_part order (without_reads (input ∷ map (entry_of share.party) outs))

-- the state after the event; its party hasn't stopped
abbrev pub state_after_event : PartyState → Entry → List Output → PartyState
state_after_event s input outs = record {
  party = s.party;
  history = after_event s.party input outs s.history;
  stopped = false;
}

-- ---- invariants of states

-- The desk fits the history of a replica, which is prompt to its end. If the replica stops in an event, the history
-- doesn't have that event.
pub record DeskFitsShare (c : Configuration) (desk : DeskPart) (share : Part) : Type 0 where
  pub replica : share.party < FIRST_CLIENT
  pub fits : DeskFitsHistory c share.party desk share.history
  pub prompt : IsPromptReplica c share.party share.history

-- Unless it stopped, the client of this number runs and fits the history, which has as many calls. The history is
-- prompt to its end.
pub record HandleFitsShare (c : Configuration) (number : ℕ) (client : ClientState) (calls : ℕ) (stopped : Bool)
    (share : Part) : Type 0 where
  pub party_is : share.party ≡ client_party number
  pub no_replica : is_correct_replica c share.party ≡ false
  pub calls_are : last_call share.history ≡ calls
  pub number_is : client.number ≡ number
  pub runs : stopped ≡ false → client.stopped ≡ false
  pub fits : stopped ≡ false → Fits c client share.history
  pub prompt : IsPromptClient c share.party share.history

-- ---- steps

-- if the parts of a replica fit a history, they fit the one after the input
abbrev pub InputLeads :
    OrdererPart → DeskPart → Input → List Output → OrdererPart → DeskPart → Type 0
InputLeads o d input outs later_o later_d =
    (c : Configuration) (me : ℕ) (history : List Entry) → FitBoth c me o d history
    → FitBoth c me later_o later_d (after_event me (input_of me input) outs history)

-- the same of a client
abbrev pub ClientLeads : ClientState → Input → List Output → ClientState → Type 0
ClientLeads old input outs new =
    (c : Configuration) (start : ℕ) (history : List Entry) → FitsLife c start old history
    → FitsLife c start new (after_event (client_party old.number) (input_of (client_party old.number) input) outs history)
