-- Hands: the operations of one client, and the answers to them. The contracts of private functions use these.
use Rattle.std.specs.Prelude.{◌≡◌, ℕ, suc, ◌+◌, ◌*◌, ◌/◌, ◌%◌, ◌<◌, ◌⊎◌, ◌≢◌, List, length, map, slice_get, Option, Some}
use Rattle.std.specs.Option.{option_and_then}
use Rattle.std.specs.declared.alloc.Global.{Global}
use Rattle.std.specs.declared.vec.Vec.{Vec}
use Rattle.terms.specs.Parties.{client_number, client_party}
use Rattle.tuple_codec.specs.Operations.{Operation, Outcome}
use Rattle.tuple_codec.specs.OperationView.{operation_of, outcome_of}
use Rattle.tuple_codec.specs.declared.operations.Answer.{Answer}
use Rattle.tuple_codec.specs.declared.operations.Op.{Op}
use Rattle.protocol.specs.System.Configuration.{Configuration}
use Rattle.protocol.specs.System.Trace.{Entry}
use Rattle.protocol.specs.Client.RightClient.{last_call}
use Rattle.space_node.specs.Runs.{HasHistories}
use Rattle.space_node.specs.PartyStates.{PartyState, new_party_state}
use Rattle.cluster_run.specs.Answers.{CallIsAnswered, IsProper}

-- ---- dealing

abbrev pub Hands : Type 0 → Type 0
Hands X = List (Vec X Global)

-- the item at this place of this hand
abbrev pub dealt_at : {X : Type 0} → Hands X → ℕ → ℕ → Option X
dealt_at hands h j = option_and_then (λ hand. slice_get hand.items j) (slice_get hands h)

-- The items are dealt to so many hands: hand h has those at h, h + count and so on, in this order.
pub record AreDealt {X : Type 0} (xs : List X) (count : ℕ) (hands : Hands X) : Type 0 where
  pub count_is : length hands ≡ count
  pub each : (h j : ℕ) → h < count → dealt_at hands h j ≡ slice_get xs (h + j * count)

-- So many items are taken back in their order.
pub record AreGathered {X : Type 0} (hands : Hands X) (clients count : ℕ) (xs : List X) : Type 0 where
  pub count_is : length xs ≡ count
  pub each : (i : ℕ) → i < count → slice_get xs i ≡ dealt_at hands (i % clients) (i / clients)

-- the item at this place was taken, and all others stay where they are
pub record TakesItem {X : Type 0} (old : Hands X) (hand place : ℕ) (x : X) (new : Hands X) : Type 0 where
  pub taken : dealt_at old hand place ≡ Some x
  pub others : (h j : ℕ) → (h ≢ hand) ⊎ (j ≢ place) → dealt_at new h j ≡ dealt_at old h j

-- ---- calling

-- Since start the client called these operations, its first ones, and got these answers.
pub record HasCalled (start : PartyState) (ops : List Operation) (answers : List Outcome) (now : PartyState) : Type 0
  where
    pub party : now.party ≡ start.party
    pub calls : last_call now.history ≡ length ops
    pub count : length answers ≡ length ops
    pub each : (j : ℕ) (op : Operation) (answer : Outcome) → slice_get ops j ≡ Some op
        → slice_get answers j ≡ Some answer → CallIsAnswered now.history (client_number start.party) (suc j) op answer

-- the client called the operations of its hand, and got these answers
abbrev pub HasCalledHand : Vec (Op Global) Global → ℕ → Vec (Answer Global) Global → PartyState → Type 0
HasCalledHand hand number answers client =
    HasCalled (new_party_state (client_party number)) (map operation_of hand.items) (map outcome_of answers.items)
    client

-- These are the answers that the client at h, which has the number h, got to hand h.
pub record HandIsCalled (hands : Hands (Op Global)) (clients : List PartyState) (h : ℕ)
    (answers : Vec (Answer Global) Global) : Type 0 where
  pub hand : Vec (Op Global) Global
  pub hand_is : slice_get hands h ≡ Some hand
  pub client : PartyState
  pub client_is : slice_get clients h ≡ Some client
  pub called : HasCalledHand hand h answers client

abbrev pub HandsAreCalled : Hands (Op Global) → List PartyState → Hands (Answer Global) → Type 0
HandsAreCalled hands clients answers =
    (h : ℕ) (v : Vec (Answer Global) Global) → slice_get answers h ≡ Some v → HandIsCalled hands clients h v

-- ---- the end

-- a proper trace with these clients' histories
pub record HasTrace (c : Configuration) (clients : List PartyState) : Type 0 where
  pub trace : List Entry
  pub proper : IsProper c trace
  pub clients_are : HasHistories trace clients
