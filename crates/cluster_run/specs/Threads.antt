-- The promises and the results of clients' threads. The contracts of private functions use these.
use Rattle.std.specs.Prelude.{◌≡◌, ℕ, List, [], ◌∷◌, ◌++◌, length, map, slice_get, MatchResult, Some}
use Rattle.std.specs.declared.alloc.Global.{Global}
use Rattle.std.specs.declared.thread.PromisedHandle.{PromisedHandle}
use Rattle.std.specs.declared.vec.Vec.{Vec}
use Rattle.tuple_codec.specs.declared.operations.Answer.{Answer}
use Rattle.tuple_codec.specs.declared.operations.Op.{Op}
use Rattle.space_node.specs.PartyStates.{PartyState}
use Rattle.cluster_run.specs.Hands.{Hands, HasCalledHand}
use Rattle.cluster_run.specs.declared.calling.AllCalled.{AllCalled}
use Rattle.cluster_run.specs.declared.calling.Called.{Called}
use Rattle.cluster_run.specs.declared.calling.CallsHand.{CallsHand}

abbrev pub promises_of : {T : Type 0} → List (PromisedHandle T CallsHand) → List CallsHand
promises_of threads = map (λ t. t.promise) threads

-- one more thread promises to call this hand
pub record StartsThread (old : List CallsHand) (number : ℕ) (hand : Vec (Op Global) Global)
    (new : List CallsHand) : Type 0 where
  pub promise : CallsHand
  pub number_is : promise.number ≡ number
  pub hand_is : promise.ops.value ≡ hand
  pub new_is : new ≡ old ++ promise ∷ []

-- thread h is that of client h, and calls hand h
abbrev pub AreStarted : Hands (Op Global) → List CallsHand → Type 0
AreStarted hands promises =
    (h : ℕ) (p : CallsHand) → slice_get promises h ≡ Some p
    → (p.number ≡ h) × (slice_get hands h ≡ Some p.ops.value)

-- the result of a thread was added
abbrev pub AddsCalled : {N : Type 0} → AllCalled N → Called N → AllCalled N → Type 0
AddsCalled old called new =
    MatchResult called.answers
    (λ answers. (new.clients.items ≡ old.clients.items ++ called.client ∷ [])
    × (new.answers.items ≡ old.answers.items ++ answers ∷ []))
    (λ fault. ⊥)

-- the result of each thread is its client, and the answers that the client got to its hand
pub record AreJoined (promises : List CallsHand) (clients : List PartyState) (answers : Hands (Answer Global)) : Type 0
  where
    pub clients_count : length clients ≡ length promises
    pub answers_count : length answers ≡ length promises
    pub each : (h : ℕ) (p : CallsHand) (s : PartyState) (v : Vec (Answer Global) Global) → slice_get promises h ≡ Some p
        → slice_get clients h ≡ Some s → slice_get answers h ≡ Some v → HasCalledHand p.ops.value p.number v s
