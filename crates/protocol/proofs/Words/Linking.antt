-- A correct sender sent what a correct replica receives of it.
use Rattle.std.proofs.Common.{◌≡◌, ℕ, true, List, Some, ap, ◌∙◌}
use Rattle.wire_format.specs.Messages.{BodyData as Body, MessageData as Message}
use Rattle.wire_format.specs.Words.{said}
use Rattle.wire_format.proofs.Saying.{reads_said}
use Rattle.signing.specs.AuthenticBody.{authentic, signed_body}
use Rattle.signing.proofs.AuthenticBody.{authentic_was_opened, signed_was_signed}
use Rattle.protocol.specs.System.Configuration.{Configuration, is_correct, members, signers}
use Rattle.protocol.specs.System.Trace.{Entry, party_of, history_of, Once, Always, SendsBody, IsUnforgedAt, Unforged, Receives}
use Rattle.protocol.specs.System.Trace.Entry.{Got, Sent}
use Rattle.protocol.specs.Replica.Owed.{IsSending}
use Rattle.protocol.proofs.Words.Temporal.{once_weaker, once_always, once_once, once_in_history, once_in_trace}

-- a frame of this body is sent
abbrev pub Speaks : Body → List Entry → Entry → Type 0
Speaks body past (Sent p bytes) = said bytes ≡ Some body
Speaks body past _ = ⊥

-- a message that the replica sends is spoken
pub saying_speaks : (me : ℕ) (message : Message) (past : List Entry) (e : Entry) → IsSending me message e → Speaks (record { sender = me; message = message }) past e
saying_speaks me message past (Sent p bytes) h = h
saying_speaks me message past _ h = absurd h

-- a body that is received is the body that the bytes say
pub heard_said : (c : Configuration) (me : ℕ) (bytes : List ℕ) (body : Body) → authentic (members c me) me bytes ≡ Some body → said bytes ≡ Some body
heard_said c me bytes body h = let o = authentic_was_opened (members c me) me bytes body h in reads_said bytes o.frame o.opens.spelled ∙ ap Some o.body_is

-- and so is a signed body
pub signed_said : (c : Configuration) (bytes : List ℕ) (body : Body) → signed_body (signers c) bytes ≡ Some body → said bytes ≡ Some body
signed_said c bytes body h = let s = signed_was_signed (signers c) bytes body h in reads_said bytes s.frame s.spelled ∙ ap Some s.body_is

pub sent_spoken : (body : Body) (past : List Entry) (e : Entry) → SendsBody body past e → (party_of e ≡ body.sender) × Speaks body (history_of body.sender past) e
sent_spoken body past (Sent p bytes) h = h
sent_spoken body past _ h = absurd h

pub heard_was_said : (c : Configuration) (trace : List Entry) (p : ℕ) (body : Body) → Unforged c trace → is_correct c p ≡ true → is_correct c body.sender ≡ true
    → Once (Receives c p body) (history_of p trace) → Once (Speaks body) (history_of body.sender trace)
heard_was_said c trace p body unforged correct from h =
    once_in_history (Speaks body) body.sender trace
    (once_once (λ past e. (party_of e ≡ body.sender) × Speaks body (history_of body.sender past) e) trace
    (once_weaker (λ past e. IsUnforgedAt c past e × ((party_of e ≡ p) × Receives c p body (history_of p past) e) × Always (IsUnforgedAt c) past)
    (λ past e. Once (λ past e. (party_of e ≡ body.sender) × Speaks body (history_of body.sender past) e) past)
    step trace
    (once_always (IsUnforgedAt c) (λ past e. (party_of e ≡ p) × Receives c p body (history_of p past) e) trace unforged
    (once_in_trace (Receives c p body) p trace h))))
  where
    step : (past : List Entry) (e : Entry) → IsUnforgedAt c past e × ((party_of e ≡ p) × Receives c p body (history_of p past) e) × Always (IsUnforgedAt c) past
        → Once (λ past e. (party_of e ≡ body.sender) × Speaks body (history_of body.sender past) e) past
    step past (Got q bytes) t =
        let mine : is_correct c q ≡ true = rw t.1.0 correct in
        let receives : authentic (members c q) q bytes ≡ Some body = rw t.1.0 t.1.1 in
        once_weaker (SendsBody body) (λ past e. (party_of e ≡ body.sender) × Speaks body (history_of body.sender past) e)
        (sent_spoken body) past ((t.0 mine).0.receives body receives from)
    step past (Sent a b) t = absurd t.1.1
    step past _ t = absurd t.1.1
