-- The lives of a client.
use Rattle.std.proofs.Common.{◌≡◌, ℕ, zero, suc, ◌+◌, ◌≤◌, ◌<◌, inl, inr, Bool, true, false, List, [], ◌∷◌, ◌++◌, refl, sym, ap, ◌∙◌, subst, arith, Option, Some, None}
use Rattle.std.proofs.lemmas.List.{append-nil}
use Rattle.tuple_codec.specs.Operations.{Operation, Outcome, IsOperation}
use Rattle.wire_format.specs.Messages.{MessageData as Message, request as Request}
use Rattle.protocol.specs.System.Configuration.{Configuration}
use Rattle.protocol.specs.System.Trace.{Entry, party_of, is_output, history_of, Once, Always}
use Rattle.protocol.specs.System.Trace.Entry.{Invoke, Got, Tick, Sent, Accepted}
use Rattle.protocol.specs.Client.RightClient.{OpenCall, open_call, last_call, last_call_above, first_mode, IsRequest, MayAccept, MayAsk, MayClient, SafeClient, IsLife, IsClientOfLives}
use Rattle.protocol.specs.Client.RightClient.IsClientOfLives.{lives}
use Rattle.protocol.proofs.Words.Options.{some_injective}
use Rattle.protocol.proofs.Words.Reacting.{CallsNext, calls_next, is_life_right, are_lives_right, one_life}
use Rattle.protocol.proofs.Points.Accepting.{open_last}
use Rattle.protocol.proofs.Points.Invoking.{one_invocation}
use Rattle.evidence.proofs.Presuming.{run_goes_on, not_both, correct_client_is}
use Rattle.evidence.specs.Lives.{OneLifeIsOfLives, LivesTakeCalls, LivesAsk, LivesTakeInputs, RunsTakeLives, RunsOfLivesGoOn, LivesAscend, TimestampsNameCalls, LivesAcceptTheLast, LifeAcceptsItsOwn, Calls, LifeBeginsSilent}

-- ---- a later life

pub one_life_is_of_lives : OneLifeIsOfLives
one_life_is_of_lives c me history h = one_life c me history h

pub lives_take_calls : LivesTakeCalls
lives_take_calls c me k timestamp op past before own above valid = go timestamp above
  where
    go : (t : ℕ) → last_call past < t → IsClientOfLives c me (Invoke k t op ∷ past)
    go zero l = absurd (omega arith)
    go (suc n) l =
        let low : last_call past ≤ n = omega arith in
        let life : IsLife c me n (Invoke k (suc n) op ∷ []) = inr (sym own, (refl, refl, valid), tt) in
        lives n (Invoke k (suc n) op ∷ []) past before low life

pub lives_ask : LivesAsk
lives_ask c me k timestamp op bytes past before own above valid request = go timestamp above request
  where
    go : (t : ℕ) → last_call past < t → IsRequest c me (first_mode op) (record { timestamp = t; op = op }) bytes
        → IsClientOfLives c me (Sent me bytes ∷ Invoke k t op ∷ past)
    go zero l asks = absurd (omega arith)
    go (suc n) l asks =
        let low : last_call past ≤ n = omega arith in
        let life : IsLife c me n (Sent me bytes ∷ Invoke k (suc n) op ∷ []) = inl (refl, (sym own, ((refl, refl, valid), (bytes, refl, asks), refl))) in
        lives n (Sent me bytes ∷ Invoke k (suc n) op ∷ []) past before low life

input_taken : (c : Configuration) (me : ℕ) (past : List Entry) → IsClientOfLives c me past → (e : Entry) → IsLife c me (last_call past) (e ∷ [])
    → IsClientOfLives c me (e ∷ past)
input_taken c me past before e life = let low : last_call past ≤ last_call past = omega arith in lives (last_call past) (e ∷ []) past before low life

pub lives_take_inputs : LivesTakeInputs
lives_take_inputs c me past before = (
  λ bytes. input_taken c me past before (Got me bytes) (inr (refl, tt, tt)),
  input_taken c me past before (Tick me) (inr (refl, tt, tt)),
)

pub runs_take_lives : RunsTakeLives
runs_take_lives c valid trace run k timestamp op correct right above =
    run_goes_on IsClientOfLives c (Invoke k timestamp op) trace run (correct_client_is c k correct) refl
    (λ q is h was. absurd (not_both c valid k q is h))
    (λ q is h was. lives_take_calls c q k timestamp op (history_of q trace) was (sym is)
    (subst (λ (p : ℕ). last_call (history_of p trace) < timestamp) is above) right)

pub runs_of_lives_go_on : RunsOfLivesGoOn
runs_of_lives_go_on c trace run p correct = (
  run_goes_on IsClientOfLives c (Tick p) trace run correct refl (λ q is h was. inr (is, tt, was)) (λ q is h was. ticks q is was),
  λ bytes. run_goes_on IsClientOfLives c (Got p bytes) trace run correct refl (λ q is h was. inr (is, tt, was)) (λ q is h was. gets bytes q is was),
)
  where
    ticks : (q : ℕ) → p ≡ q → IsClientOfLives c q (history_of q trace) → IsClientOfLives c q (Tick p ∷ history_of q trace)
    ticks q is was = input_taken c q (history_of q trace) was (Tick p) (inr (is, tt, tt))

    gets : (bytes : List ℕ) (q : ℕ) → p ≡ q → IsClientOfLives c q (history_of q trace) → IsClientOfLives c q (Got p bytes ∷ history_of q trace)
    gets bytes q is was = input_taken c q (history_of q trace) was (Got p bytes) (inr (is, tt, tt))

-- ---- timestamps

-- what a safe client may have at an entry
at_entry : (c : Configuration) (me : ℕ) (e : Entry) (later past : List Entry) → SafeClient c me (later ++ e ∷ past) → (party_of e ≡ me) × MayClient (MayAccept c me) me past e
at_entry c me e [] past safe = safe.0
at_entry c me e (x ∷ later) past safe = at_entry c me e later past safe.1

pub lives_ascend : LivesAscend
lives_ascend c me k timestamp op later past h =
    (at_entry c me (Invoke k timestamp op) later past (are_lives_right c me (later ++ Invoke k timestamp op ∷ past) h)).1.0

pub timestamps_name_calls : TimestampsNameCalls
timestamps_name_calls c me timestamp op other history h one two =
    one_invocation c me timestamp op other history (are_lives_right c me history h) one two

pub lives_accept_the_last : LivesAcceptTheLast
lives_accept_the_last c me k timestamp answer later past h =
    let may = (at_entry c me (Accepted k timestamp answer) later past (are_lives_right c me (later ++ Accepted k timestamp answer ∷ past) h)).1 in
    sym may.3 ∙ sym (open_last past may.0 may.2)

-- ---- a life by itself

module _ (c : Configuration) (me start : ℕ) where
  -- the entries of the life, over no earlier ones
  life_alone : (xs : List Entry) → IsLife c me start xs → SafeClient c me xs
  life_alone xs h =
      let low : last_call [] ≤ start = omega arith in
      subst (SafeClient c me) (append-nil xs) (is_life_right c me start [] low xs h tt)

  last_above : (xs : List Entry) → Always (CallsNext start) xs → start ≤ last_call_above start xs
  last_above [] next = omega arith
  last_above (Invoke x y z ∷ past) next = let l = last_above past next.1 in let t = next.0.0 in omega arith
  last_above (_ ∷ past) next = last_above past next.1

  open_above : (xs : List Entry) (call : OpenCall) → Always (CallsNext start) xs → open_call xs ≡ Some call → start < call.timestamp
  open_above [] call next h = absurd cc
  open_above (Invoke x y z ∷ past) call next h =
      let l = last_above past next.1 in
      let t = next.0.0 in
      let same : y ≡ call.timestamp = ap (λ (o : OpenCall). o.timestamp) (some_injective {A = OpenCall} (record { timestamp = y; op = z }) call h) in
      omega arith
  open_above (Accepted x y z ∷ past) call next h = absurd cc
  open_above (_ ∷ past) call next h = open_above past call next.1 h

always_at : (P : List Entry → Entry → Type 0) (later past : List Entry) → Always P (later ++ past) → Always P past
always_at P [] past h = h
always_at P (e ∷ later) past h = always_at P later past h.1

pub life_accepts_its_own : LifeAcceptsItsOwn
life_accepts_its_own c me start k timestamp answer later past h =
    let may = (at_entry c me (Accepted k timestamp answer) later past (life_alone c me start (later ++ Accepted k timestamp answer ∷ past) h)).1 in
    let next = always_at (CallsNext start) later (Accepted k timestamp answer ∷ past) (calls_next c me start (later ++ Accepted k timestamp answer ∷ past) h) in
    let above = open_above c me start past may.0 next.1 may.2 in
    let same = may.3 in
    omega arith

none_open : (xs : List Entry) (call : OpenCall) → (Once Calls xs → ⊥) → open_call xs ≡ Some call → ⊥
none_open [] call none h = cc
none_open (Invoke x y z ∷ past) call none h = none (inl tt)
none_open (Accepted x y z ∷ past) call none h = cc
none_open (_ ∷ past) call none h = none_open past call (λ k. none (inr k)) h

asks_open : (past : List Entry) (message : Message) → MayAsk past message → (call : OpenCall) × (open_call past ≡ Some call)
asks_open past (Request timestamp mode op) may = (record { timestamp = timestamp; op = op }, may.0)
asks_open past _ may = absurd may

pub life_begins_silent : LifeBeginsSilent
life_begins_silent c me start e past h none = go e (life_alone c me start (e ∷ past) h).0.1
  where
    go : (e : Entry) → MayClient (MayAccept c me) me past e → is_output e ≡ false
    go (Sent p bytes) may = let asks = asks_open past may.0.message may.3 in absurd (none_open past asks.0 none asks.1)
    go (Accepted k t a) may = absurd (none_open past may.0 none may.2)
    go (Invoke x y z) may = refl
    go (Got x y) may = refl
    go (Tick x) may = refl
    go _ may = absurd may
