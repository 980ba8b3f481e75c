-- Ordered replies to one request agree: each is of a request that ran, and none runs twice.
use Rattle.std.proofs.Common.{◌≡◌, ℕ, zero, suc, inl, inr, List, [], ◌∷◌, map, true, refl, sym, ap, ◌∙◌, subst, arith}
use Rattle.tuple_codec.specs.Operations.{Outcome}
use Rattle.terms.specs.declared.order.Mode.TheVariants as modes
use Rattle.wire_format.specs.Messages.{BodyData as Body, reply as Reply}
use Rattle.wire_format.specs.Words.{requests_of}
use Rattle.protocol.specs.System.Configuration.{Configuration, IsConfiguration, is_correct_replica, is_correct_client}
use Rattle.protocol.specs.System.Trace.{Entry, party_of, history_of, Once, Has, SendsBody, Unforged}
use Rattle.protocol.specs.System.Texts.{NoCollision}
use Rattle.protocol.specs.System.Run.{IsRun}
use Rattle.protocol.specs.Replica.State.{State, opening, execute, ran_in}
use Rattle.protocol.specs.Space.Linear.{Placing, ordered_point, batch_of, last_executed}
use Rattle.protocol.specs.Laws.Runs.{ran_points}
use Rattle.protocol.proofs.Words.Temporal.{once_weaker, once_in_history}
use Rattle.protocol.proofs.Words.Linking.{Speaks, sent_spoken}
use Rattle.protocol.proofs.Words.Elements.{has_left, has_right, has_weaker, has_mapped, has_some}
use Rattle.protocol.proofs.Words.Leaving.{executed_number}
use Rattle.protocol.proofs.Words.Reacting.{is_replica_right, is_client_right}
use Rattle.protocol.proofs.Points.Running.{Run}
use Rattle.protocol.proofs.Points.Keeping.{RanBy, opening_full, differ_same}
use Rattle.protocol.proofs.Points.Accepting.{Answers, replied, ordered_replied}
use Rattle.protocol.proofs.Points.Whole.{safe_run}
use Rattle.protocol.proofs.Points.Twice.{batches_differ}
use Rattle.progress.specs.Answered.{OrderedRepliesAgree}

-- ---- a run, for the laws over safe histories

pub run_of : (c : Configuration) → IsConfiguration c → (trace : List Entry) → IsRun c trace → Unforged c trace → NoCollision c trace → Run c trace
run_of c setting trace run unforged apart =
    safe_run c setting trace
    (record { replicas = λ p h. is_replica_right c p (history_of p trace) (run.replicas p h); clients = λ p h. is_client_right c p (history_of p trace) (run.clients p h); parties = run.parties }) unforged apart

-- ---- no request runs twice in the batches by their numbers

-- the executed batches from the number k on
abbrev batches_from : List Entry → ℕ → ℕ → List (List ℕ)
batches_from xs k zero = []
batches_from xs k (suc n) = batch_of xs k ∷ batches_from xs (suc k) n

-- the request of this client and timestamp, with its answer and its number
abbrev Answering : ℕ → ℕ → ℕ → Outcome → Placing → Type 0
Answering p t number answer x = (x.item.client ≡ p) × (x.item.timestamp ≡ t) × (x.item.answer ≡ answer) × (x.number ≡ number)

ran_has : (c : Configuration) (xs : List Entry) (st : State) (k n p t number : ℕ) (answer : Outcome) → k ≡ suc st.number → RanBy c xs st k n (Answers p t number answer)
    → Has (Answering p t number answer) (ran_points c st (batches_from xs k n))
ran_has c xs st k zero p t number answer is h = absurd h
ran_has c xs st k (suc n) p t number answer is (inl h) =
    has_left (Answering p t number answer) (map (ordered_point 0 (suc st.number)) (ran_in c (suc st.number) st (requests_of (batch_of xs k)))) (ran_points c (execute c st (batch_of xs k)) (batches_from xs (suc k) n))
    (has_mapped (Answering p t number answer) (ordered_point 0 (suc st.number)) (ran_in c (suc st.number) st (requests_of (batch_of xs k)))
    (has_weaker (Answers p t number answer (suc st.number)) (λ x. Answering p t number answer (ordered_point 0 (suc st.number) x)) (λ x a. (a.0, a.1, a.2, sym a.3)) (ran_in c (suc st.number) st (requests_of (batch_of xs k)))
    (subst (λ (j : ℕ). Has (Answers p t number answer j) (ran_in c j st (requests_of (batch_of xs k)))) is h)))
ran_has c xs st k (suc n) p t number answer is (inr h) =
    let next = executed_number c st (batch_of xs k) in
    has_right (Answering p t number answer) (map (ordered_point 0 (suc st.number)) (ran_in c (suc st.number) st (requests_of (batch_of xs k)))) (ran_points c (execute c st (batch_of xs k)) (batches_from xs (suc k) n))
    (ran_has c xs (execute c st (batch_of xs k)) (suc k) n p t number answer (omega arith) h)

pub ran_once : (c : Configuration) → IsConfiguration c → (xs : List Entry) (last p t n m : ℕ) (a b : Outcome)
    → RanBy c xs opening 1 last (Answers p t n a) → RanBy c xs opening 1 last (Answers p t m b) → (n ≡ m) × (a ≡ b)
ran_once c setting xs last p t n m a b h k =
    let x = has_some (Answering p t n a) (ran_points c opening (batches_from xs 1 last)) (ran_has c xs opening 1 last p t n a refl h) in
    let y = has_some (Answering p t m b) (ran_points c opening (batches_from xs 1 last)) (ran_has c xs opening 1 last p t m b refl k) in
    let same = differ_same (ran_points c opening (batches_from xs 1 last)) (batches_differ c setting opening (batches_from xs 1 last) opening_full).1 x.0 y.0 x.1 y.1 (x.2.0 ∙ sym y.2.0) (x.2.1 ∙ sym y.2.1) in
    (sym x.2.3 ∙ ap (λ (z : Placing). z.number) same ∙ y.2.3, sym x.2.2 ∙ ap (λ (z : Placing). z.item.answer) same ∙ y.2.2)

-- ---- the law

pub spoken : (body : Body) (trace : List Entry) → Once (SendsBody body) trace → Once (Speaks body) (history_of body.sender trace)
spoken body trace h =
    once_in_history (Speaks body) body.sender trace
    (once_weaker (SendsBody body) (λ past e. (party_of e ≡ body.sender) × Speaks body (history_of body.sender past) e) (sent_spoken body) trace h)

pub spoken_agree : (c : Configuration) (trace : List Entry) → Run c trace → (p t r s n m : ℕ) (a b : Outcome) → is_correct_client c p ≡ true → is_correct_replica c r ≡ true → is_correct_replica c s ≡ true
    → Once (Speaks (record { sender = r; message = Reply p t modes.Ordered n a })) (history_of r trace) → Once (Speaks (record { sender = s; message = Reply p t modes.Ordered m b })) (history_of s trace)
    → (n ≡ m) × (a ≡ b)
spoken_agree c trace run p t r s n m a b client one other h k =
    ran_once c run.setting trace (last_executed trace) p t n m a b
    (ordered_replied c trace r p t n a run one client (replied c trace r p t modes.Ordered n a run one h))
    (ordered_replied c trace s p t m b run other client (replied c trace s p t modes.Ordered m b run other k))

pub ordered_replies_agree : OrderedRepliesAgree
ordered_replies_agree c setting trace run unforged apart p t r s n m a b client one other h k =
    spoken_agree c trace (run_of c setting trace run unforged apart) p t r s n m a b client one other
    (spoken (record { sender = r; message = Reply p t modes.Ordered n a }) trace h)
    (spoken (record { sender = s; message = Reply p t modes.Ordered m b }) trace k)
