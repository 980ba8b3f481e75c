-- How the low mark is reached, from one entry to the next.
use Rattle.std.proofs.Common.{◌≡◌, ℕ, suc, ◌≤◌, ◌⊎◌, inl, inr, Bool, true, false, List, [], ◌∷◌, refl, arith, Option}
use Rattle.std.specs.Prelude.{nat_le}
use Rattle.std.proofs.lemmas.Bool.{leb-true, leb-false}
use Rattle.terms.specs.declared.state.Level.TheVariants as levels
use Rattle.wire_format.specs.Messages.{MessageData as Message, fetch as Fetch}
use Rattle.ordering.specs.Log.{LogData}
use Rattle.protocol.specs.System.Configuration.{Configuration}
use Rattle.protocol.specs.System.Trace.{Entry, Has}
use Rattle.protocol.specs.Replica.Owed.{IsSending}
use Rattle.state_transfer.specs.Transfer.{TransferData}
use Rattle.replica_histories.specs.Transfers.{TransferMayAsk, FitsStateTransfer, open_number}
use Rattle.replica_histories.specs.Events.{IsFetchedOrDue, LowMarkIsReached}
use Rattle.replica_histories.proofs.Words.{below_marks}
use Rattle.replica_histories.proofs.Certified.{Same, committed_back}
use Rattle.replica_histories.proofs.Logging.{Read, same_elsewhere}
use Rattle.replica_histories.proofs.Transfers.{open_above, fetched_most}
use Rattle.replica_histories.proofs.TransfersQuorums.{says_number}

-- a fetched state stays fetched, and a due fetch is sent
pub fetched_goes : (me k : ℕ) (due rest : List Message) (past : List Entry) (e : Entry) → ((x : Message) → Has (λ y. y ≡ x) due → Has (λ y. y ≡ x) rest ⊎ IsSending me x e) → IsFetchedOrDue k due past → IsFetchedOrDue k rest (e ∷ past)
fetched_goes me k due rest past e paid (inl l) = inl (omega arith)
fetched_goes me k due rest past e paid (inr h) = go (paid (Fetch k levels.Root 0) h)
  where
    go : Has (λ y. y ≡ Fetch k levels.Root 0) rest ⊎ IsSending me (Fetch k levels.Root 0) e → IsFetchedOrDue k rest (e ∷ past)
    go (inl r) = inr r
    go (inr g) = inl (let is = says_number me k e g in omega arith)

-- After an entry that changes no certificate up to the mark it is still reached.
pub reached_by : (c : Configuration) (me mark number : ℕ) (due rest : List Message) (past : List Entry) (e : Entry) → ((v : ℕ) → suc number ≤ mark → Same c me (e ∷ past) past v (suc number))
    → ((x : Message) → Has (λ y. y ≡ x) due → Has (λ y. y ≡ x) rest ⊎ IsSending me x e) → LowMarkIsReached c me mark number due past → LowMarkIsReached c me mark number rest (e ∷ past)
reached_by c me mark number due rest past e same paid (inl l) = inl l
reached_by c me mark number due rest past e same paid (inr h) = go (nat_le mark number) refl
  where
    go : (b : Bool) → nat_le mark number ≡ b → LowMarkIsReached c me mark number rest (e ∷ past)
    go true is = inl (leb-true mark number is)
    go false is =
        let above = leb-false mark number is in
        inr (fetched_goes me mark due rest past e paid h.0, λ v batch k. h.1 v batch (committed_back c me (e ∷ past) past v (suc number) batch (same v (omega arith)) k))

pub reached_goes : (c : Configuration) (me number : ℕ) (due rest : List Message) (log : LogData) (past : List Entry) (e : Entry) → Read c me log past e
    → ((x : Message) → Has (λ y. y ≡ x) due → Has (λ y. y ≡ x) rest ⊎ IsSending me x e) → LowMarkIsReached c me log.low number due past → LowMarkIsReached c me log.low number rest (e ∷ past)
reached_goes c me number due rest log past e r paid h = reached_by c me log.low number due rest past e (λ v below. same_elsewhere c me log past e v (suc number) r (inr (below_marks log (suc number) below))) paid h

-- if no message is due, the open transfer is not below it
pub reached_open : (c : Configuration) (me mark number : ℕ) (open_one : Option TransferData) (history : List Entry) → LowMarkIsReached c me mark number [] history → FitsStateTransfer c me open_one number history → mark ≤ open_number number open_one
reached_open c me mark number open_one history (inl l) f = let least = open_above c me open_one number history f in omega arith
reached_open c me mark number open_one history (inr h) f = go h.0
  where
    go : IsFetchedOrDue mark [] history → mark ≤ open_number number open_one
    go (inl l) = let most = fetched_most c me open_one number history f in omega arith
    go (inr d) = absurd d

-- nor is a transfer that may ask
pub reached_asking : (c : Configuration) (me mark number : ℕ) (t : TransferData) (history : List Entry) → LowMarkIsReached c me mark number [] history → TransferMayAsk c me t number history → mark ≤ t.number
reached_asking c me mark number t history (inl l) m = let above = m.ahead in omega arith
reached_asking c me mark number t history (inr h) m = go h.0
  where
    go : IsFetchedOrDue mark [] history → mark ≤ t.number
    go (inl l) = let most = m.newest in omega arith
    go (inr d) = absurd d
