-- What a schedule feeds: each step that may come, with the outputs after it. The worlds are those of the schedule's
-- definition; what a step needs is said here in words of its own.
use Rattle.std.specs.Prelude.{◌≡◌, ℕ, ◌<◌, true, false, List, [], ◌∷◌, ◌++◌, slice_get, Some, None, ⊤}
use Rattle.terms.specs.Parties.{client_party}
use Rattle.tuple_codec.specs.Operations.{Operation, IsOperation}
use Rattle.protocol.specs.System.Configuration.{Configuration, is_correct, is_correct_client}
use Rattle.protocol.specs.System.Trace.{Entry, history_of, is_output, Has, AreOutputs}
use Rattle.protocol.specs.System.Trace.Entry.{Invoke, Got, Tick}
use Rattle.protocol.specs.Client.RightClient.{open_call}
use Rattle.protocol.specs.System.Schedule.{Step, calls, deliver, feed, seal, sign, ticks, flush, Made, World, sealed_bytes, signed_bytes, StepsLead, Feeds}
use Rattle.evidence.specs.RefusedSteps.{MayMake}
use Rattle.wire_format.specs.Lists.{Each}

-- ---- inputs

-- A call of a correct client with none open is fed, and outputs may follow.
abbrev pub CallsAreFed : Type 0
CallsAreFed =
    (c : Configuration) (steps : List Step) (k timestamp : ℕ) (op : Operation) (outputs trace : List Entry)
    → Feeds c steps trace → is_correct_client c (client_party k) ≡ true
    → open_call (history_of (client_party k) trace) ≡ None
    → IsOperation op → AreOutputs outputs
    → Feeds c (steps ++ calls k op ∷ []) (outputs ++ Invoke k timestamp op ∷ trace)

-- So is a frame that was made, to a correct party.
abbrev pub DeliveriesAreFed : Type 0
DeliveriesAreFed =
    (c : Configuration) (steps : List Step) (frame party : ℕ) (made : Made) (outputs trace : List Entry)
    (feeds : Feeds c steps trace)
    → slice_get feeds.0.frames frame ≡ Some made → is_correct c party ≡ true → AreOutputs outputs
    → Feeds c (steps ++ deliver frame party ∷ []) (outputs ++ Got party made.bytes ∷ trace)

-- So are any bytes, to a correct party.
abbrev pub BytesAreFed : Type 0
BytesAreFed =
    (c : Configuration) (steps : List Step) (party : ℕ) (text : List ℕ) (outputs trace : List Entry)
    → Feeds c steps trace → is_correct c party ≡ true → AreOutputs outputs
    → Feeds c (steps ++ feed party text ∷ []) (outputs ++ Got party text ∷ trace)

-- So is a correct party's tick.
abbrev pub TicksAreFed : Type 0
TicksAreFed =
    (c : Configuration) (steps : List Step) (party : ℕ) (outputs trace : List Entry)
    → Feeds c steps trace → is_correct c party ≡ true → AreOutputs outputs
    → Feeds c (steps ++ ticks party ∷ []) (outputs ++ Tick party ∷ trace)

-- ---- frames of faulty parties

-- A frame that may be sealed feeds no entry, and is the next one that may be delivered.
abbrev pub SealedAreMade : Type 0
SealedAreMade =
    (c : Configuration) (steps : List Step) (sender : ℕ) (receivers body : List ℕ) (trace : List Entry)
    (feeds : Feeds c steps trace)
    → MayMake c (seal sender receivers body)
    → (more : Feeds c (steps ++ seal sender receivers body ∷ []) trace)
    × (more.0.frames ≡ feeds.0.frames ++ record { bytes = sealed_bytes c sender receivers body; receivers = receivers }
    ∷ [])

-- So is one that may be signed.
abbrev pub SignedAreMade : Type 0
SignedAreMade =
    (c : Configuration) (steps : List Step) (replica leaf : ℕ) (receivers body : List ℕ) (trace : List Entry)
    (feeds : Feeds c steps trace)
    → MayMake c (sign replica leaf receivers body)
    → (more : Feeds c (steps ++ sign replica leaf receivers body ∷ []) trace)
    × (more.0.frames ≡ feeds.0.frames ++ record { bytes = signed_bytes c replica leaf body; receivers = receivers }
    ∷ [])

-- ---- flush

-- the party is correct and did not get the frame
abbrev pub IsLeft : Configuration → World → ℕ → ℕ → Type 0
IsLeft c w frame party = (is_correct c party ≡ true) × (Has (λ x. x ≡ (frame, party)) w.delivered → ⊥)

-- The first frame that is left for one of its receivers, and the first of these: nothing is left of an earlier
-- frame, and this one for no receiver that stands before.
pub record IsNextDelivery (c : Configuration) (w : World) (frame party : ℕ) (made : Made) : Type 0 where
  pub place : ℕ
  pub is_frame : slice_get w.frames frame ≡ Some made
  pub is_receiver : slice_get made.receivers place ≡ Some party
  pub is_left : IsLeft c w frame party
  pub first_receiver : (i q : ℕ) → i < place → slice_get made.receivers i ≡ Some q → IsLeft c w frame q → ⊥
  pub first_frame : (n q : ℕ) (other : Made) → n < frame → slice_get w.frames n ≡ Some other
      → Has (λ r. r ≡ q) other.receivers → IsLeft c w n q → ⊥

-- the world after a delivery
abbrev pub with_delivery : Configuration → World → ℕ → ℕ → List ℕ → World
with_delivery c w frame party bytes =
    record { frames = w.frames; delivered = (frame, party) ∷ w.delivered; past = Got party bytes ∷ w.past }

-- A flush delivers the next frame, and goes on.
abbrev pub FlushDeliversNext : Type 0
FlushDeliversNext =
    (c : Configuration) (w v : World) (frame party : ℕ) (made : Made) (steps : List Step) (entries : List Entry)
    → IsNextDelivery c w frame party made
    → StepsLead c (with_delivery c w frame party made.bytes) (flush ∷ steps) entries v
    → StepsLead c w (flush ∷ steps) (Got party made.bytes ∷ entries) v

-- It feeds no other input first.
abbrev pub FlushDeliversNoOther : Type 0
FlushDeliversNoOther =
    (c : Configuration) (w v : World) (input : Entry) (entries : List Entry)
    → is_output input ≡ false → StepsLead c w (flush ∷ []) (input ∷ entries) v
    → (frame : ℕ) × (party : ℕ) × (made : Made) × IsNextDelivery c w frame party made × (input ≡ Got party made.bytes)
    × StepsLead c (with_delivery c w frame party made.bytes) (flush ∷ []) entries v

-- It ends if nothing is left.
abbrev pub FlushEnds : Type 0
FlushEnds =
    (c : Configuration) (w : World)
    → ((n q : ℕ) (other : Made) → slice_get w.frames n ≡ Some other → Has (λ r. r ≡ q) other.receivers → IsLeft c w n q
    → ⊥)
    → StepsLead c w (flush ∷ []) [] w

-- the entry is a frame that a party gets
abbrev pub IsGot : Entry → Type 0
IsGot (Got party bytes) = ⊤
IsGot _ = ⊥

-- After any schedule a flush may come, and end.
abbrev pub FlushesAreFed : Type 0
FlushesAreFed =
    (c : Configuration) (steps : List Step) (trace : List Entry) → Feeds c steps trace
    → (deliveries : List Entry) × Each IsGot deliveries × Feeds c (steps ++ flush ∷ []) (deliveries ++ trace)
