-- The answers of all clients' calls.
use Rattle.std.proofs.Common.{◌≡◌, ℕ, zero, suc, ◌+◌, ◌-◌, ◌*◌, ◌/◌, ◌%◌, ◌<◌, ◌==◌, inl, inr, List, [], ◌∷◌, ◌++◌, length, map, refl, sym, ap, ◌∙◌, subst, arith}
use Rattle.std.specs.Prelude.{Contains, Some, slice_get}
use Rattle.std.specs.Option.{option_map}
use Rattle.std.specs.declared.alloc.Global.{Global}
use Rattle.std.specs.declared.vec.Vec.{Vec}
use Rattle.std.proofs.lemmas.List.{length_push, length-map, map_push}
use Rattle.std.proofs.lemmas.List.Elements.{All-contains, All-contains_itself, All-filter, All-get_or, Contains-append_right}
use Rattle.std.proofs.lemmas.Nat.{div-add-mod', mod_below}
use Rattle.std.proofs.lemmas.Option.{get_or_from_slice_get, none-some, same_Some, slice_get-map, slice_get_within}
use Rattle.std.proofs.lemmas.Bool.{cases_eq}
use Rattle.tuple_codec.specs.Operations.{Operation, Outcome}
use Rattle.tuple_codec.specs.OperationView.{operation_of, outcome_of}
use Rattle.tuple_codec.specs.declared.operations.Answer.{Answer}
use Rattle.tuple_codec.specs.declared.operations.Op.{Op}
use Rattle.protocol.specs.System.Configuration.{Configuration}
use Rattle.protocol.specs.System.Trace.{Entry, history_of, party_of}
use Rattle.protocol.specs.System.Trace.Entry.{Invoke, Accepted}
use Rattle.protocol.specs.Client.RightClient.{last_call}
use Rattle.space_node.specs.Calls.{Called}
use Rattle.space_node.specs.PartyStates.{PartyState}
use Rattle.space_node.proofs.Calling.{last_quiet}
use Rattle.cluster_run.specs.Answers.{AnswersRun, AreAnswered, CallIsAnswered}
use Rattle.cluster_run.specs.Hands.{AreDealt, AreGathered, Hands, HandsAreCalled, HasCalled, HasTrace, dealt_at}
use Rattle.cluster_run.proofs.Turns.{dealt_in, get_before, get_pushed}

-- ---- a call more

first_of : (e : Entry) (es : List Entry) → Contains (e ∷ es) e
first_of e es = (0, omega arith, refl)

still_answered : (more es : List Entry) (k t : ℕ) (op : Operation) (answer : Outcome) → CallIsAnswered es k t op answer → CallIsAnswered (more ++ es) k t op answer
still_answered more es k t op answer h = record {
  invoked = Contains-append_right more es (Invoke k t op) h.invoked;
  accepted = Contains-append_right more es (Accepted k t answer) h.accepted;
}

just_answered : (between old : List Entry) (k t : ℕ) (op : Operation) (answer : Outcome) → CallIsAnswered (Accepted k t answer ∷ (between ++ Invoke k t op ∷ old)) k t op answer
just_answered between old k t op answer = record {
  invoked = Contains-append_right (Accepted k t answer ∷ between) (Invoke k t op ∷ old) (Invoke k t op) (first_of (Invoke k t op) old);
  accepted = first_of (Accepted k t answer) (between ++ Invoke k t op ∷ old);
}

-- the last of both, or one of those before
last_or : {X Y : Type 0} (xs : List X) (ys : List Y) (x : X) (y : Y) (P : ℕ → X → Y → Type 0) → length ys ≡ length xs → P (length xs) x y
    → ((j : ℕ) (a : X) (b : Y) → slice_get xs j ≡ Some a → slice_get ys j ≡ Some b → P j a b)
    → (j : ℕ) (a : X) (b : Y) → slice_get (xs ++ x ∷ []) j ≡ Some a → slice_get (ys ++ y ∷ []) j ≡ Some b → P j a b
last_or xs ys x y P count last each j a b at bt = elim (cases_eq j (length xs)) [
  | inl e ↦ (let there : slice_get (xs ++ x ∷ []) j ≡ Some x = ap (slice_get (xs ++ x ∷ [])) e ∙ get_pushed xs x in
      let here : slice_get (ys ++ y ∷ []) j ≡ Some y = ap (slice_get (ys ++ y ∷ [])) (e ∙ sym count) ∙ get_pushed ys y in
      subst (λ k. P k a b) (sym e) (subst (λ u. P (length xs) u b) (same_Some x a (sym there ∙ at)) (subst (λ v. P (length xs) x v) (same_Some y b (sym here ∙ bt)) last)))
  | inr off ↦ each j a b (sym (get_before xs x j off) ∙ at) (sym (get_before ys y j (λ e. off (e ∙ count))) ∙ bt)
]

pub one_call : (start old new : PartyState) (ops : List Operation) (answers : List Outcome) (op : Operation) (answer : Outcome) → HasCalled start ops answers old → Called old op answer new
    → HasCalled start (ops ++ op ∷ []) (answers ++ answer ∷ []) new
one_call start old new ops answers op answer so_far call =
    let k = old.party - 256 in
    let t = suc (last_call old.history) in
    let client : k ≡ start.party - 256 = ap (λ p. p - 256) so_far.party in
    let when : t ≡ suc (length ops) = ap suc so_far.calls in
    let invoke = Invoke k t op in
    let longer = Accepted k t answer ∷ (call.between ++ invoke ∷ old.history) in
    let here : CallIsAnswered longer (start.party - 256) (suc (length ops)) op answer =
    subst (λ i. CallIsAnswered longer i (suc (length ops)) op answer) client (subst (λ s. CallIsAnswered longer k s op answer) when (just_answered call.between old.history k t op answer)) in
    record {
      party = call.party ∙ so_far.party;
      calls = ap last_call call.history ∙ (last_quiet call.between (invoke ∷ old.history) call.quiet ∙ (when ∙ (omega arith ∙ sym (length_push ops op))));
      count = length_push answers answer ∙ (ap (λ n. n + 1) so_far.count ∙ sym (length_push ops op));
      each = last_or ops answers op answer (λ j o a. CallIsAnswered new.history (start.party - 256) (suc j) o a) so_far.count
          (subst (λ es. CallIsAnswered es (start.party - 256) (suc (length ops)) op answer) (sym call.history) here)
          (λ j o a at bt. subst (λ es. CallIsAnswered es (start.party - 256) (suc j) o a) (sym call.history)
          (still_answered (Accepted k t answer ∷ call.between) (invoke ∷ old.history) (start.party - 256) (suc j) o a
          (still_answered (invoke ∷ []) old.history (start.party - 256) (suc j) o a (so_far.each j o a at bt))));
    }

-- ---- all of them

in_hand : {X Y : Type 0} (f : X → Y) (hands : Hands X) (h j : ℕ) (y : Y) → option_map f (dealt_at hands h j) ≡ Some y
    → (v : Vec X Global) × (slice_get hands h ≡ Some v) × (slice_get (map f v.items) j ≡ Some y)
in_hand f [] h j y e = absurd (none-some y e)
in_hand f (v ∷ hands) zero j y e = (v, refl, slice_get-map f v.items j ∙ e)
in_hand f (v ∷ hands) (suc h) j y e = in_hand f hands h j y e

in_trace : (trace : List Entry) (p : ℕ) (e : Entry) → Contains (history_of p trace) e → Contains trace e
in_trace trace p e h = All-contains (Contains trace) (history_of p trace) e (All-filter (λ x. party_of x == p) (Contains trace) trace (All-contains_itself trace)) h

module _ (c : Configuration) (ops : List (Op Global)) (answers : List (Answer Global)) (hands : Hands (Op Global)) (given : Hands (Answer Global)) (clients : List PartyState)
    (some : 0 < c.clients) (dealt : AreDealt ops c.clients hands) (called : HandsAreCalled hands clients given) (gathered : AreGathered given c.clients (length ops) answers)
    (done : HasTrace c clients) where
  answered : AreAnswered done.trace c.clients (map operation_of ops) (map outcome_of answers)
  answered = record {
    count = length-map answers outcome_of ∙ (gathered.count_is ∙ sym (length-map ops operation_of));
    each = λ i op answer at bt.
        let r = i % c.clients in
        let q = i / c.clients in
        let low = mod_below i c.clients some in
        let whole = div-add-mod' i c.clients in
        let lies : r + q * c.clients ≡ i = omega (arith, whole) in
        let below : i < length ops = subst (λ n. i < n) (length-map ops operation_of) (slice_get_within (map operation_of ops) i op at) in
        let lay : option_map outcome_of (dealt_at given r q) ≡ Some answer = ap (option_map outcome_of) (sym (gathered.each i below)) ∙ (sym (slice_get-map outcome_of answers i) ∙ bt) in
        let v = in_hand outcome_of given r q answer lay in
        let k = called r v.0 v.1 in
        let asked : slice_get (map operation_of k.hand.items) q ≡ Some op =
        slice_get-map operation_of k.hand.items q ∙ (ap (option_map operation_of) (sym (dealt_in hands r q k.hand k.hand_is) ∙ (dealt.each r q low ∙ ap (slice_get ops) lies))
        ∙ (sym (slice_get-map operation_of ops i) ∙ at)) in
        let there : CallIsAnswered k.client.history r (suc q) op answer = subst (λ n. CallIsAnswered k.client.history n (suc q) op answer) (omega arith) (k.called.each q op answer asked v.2) in
        let within = slice_get_within clients r k.client k.client_is in
        let same : history_of k.client.party done.trace ≡ k.client.history =
        subst (λ s. history_of s.party done.trace ≡ s.history) (get_or_from_slice_get clients r k.client k.client k.client_is)
        (All-get_or (λ s. history_of s.party done.trace ≡ s.history) clients r k.client within done.clients_are) in
        record {
          invoked = in_trace done.trace k.client.party (Invoke r (suc q) op) (subst (λ es. Contains es (Invoke r (suc q) op)) (sym same) there.invoked);
          accepted = in_trace done.trace k.client.party (Accepted r (suc q) answer) (subst (λ es. Contains es (Accepted r (suc q) answer)) (sym same) there.accepted);
        };
  }

  pub answers_run : AnswersRun c (map operation_of ops) (map outcome_of answers)
  answers_run = record { trace = done.trace; proper = done.proper; answered = answered }

pub call_more : (start old new : PartyState) (ops : List (Op Global)) (answers : List (Answer Global)) (op : Op Global) (answer : Answer Global)
    → HasCalled start (map operation_of ops) (map outcome_of answers) old → Called old (operation_of op) (outcome_of answer) new
    → HasCalled start (map operation_of (ops ++ op ∷ [])) (map outcome_of (answers ++ answer ∷ [])) new
call_more start old new ops answers op answer so_far call =
    subst (λ os. HasCalled start os (map outcome_of (answers ++ answer ∷ [])) new) (sym (map_push operation_of ops op))
    (subst (λ vs. HasCalled start (map operation_of ops ++ operation_of op ∷ []) vs new) (sym (map_push outcome_of answers answer))
    (one_call start old new (map operation_of ops) (map outcome_of answers) (operation_of op) (outcome_of answer) so_far call))

pub gathered_run : (answers : List (Answer Global)) (c : Configuration) (ops : List (Op Global)) (hands : Hands (Op Global)) (given : Hands (Answer Global))
    (clients : List PartyState) (n count : ℕ) → n ≡ c.clients → count ≡ length ops → 0 < n → AreDealt ops n hands → HandsAreCalled hands clients given → HasTrace c clients
    → AreGathered given n count answers → AnswersRun c (map operation_of ops) (map outcome_of answers)
gathered_run answers c ops hands given clients n count so_many all some dealt called done are =
    answers_run c ops answers hands given clients (subst (λ k. 0 < k) so_many some) (subst (λ k. AreDealt ops k hands) so_many dealt) called
    (subst (λ k. AreGathered given k (length ops) answers) so_many (subst (λ k. AreGathered given n k answers) all are)) done
