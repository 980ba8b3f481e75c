-- The promises and the results of clients' threads.
use Rattle.std.proofs.Common.{◌≡◌, ℕ, ◌+◌, ◌<◌, inl, inr, List, [], ◌∷◌, ◌++◌, length, refl, sym, ap, ◌∙◌, subst, arith, rules}
use Rattle.std.specs.Prelude.{Err, IfOk, MatchResult, Ok, OnOk, Result, Some, slice_get}
use Rattle.std.specs.Result.{result_and}
use Rattle.std.specs.declared.alloc.Global.{Global}
use Rattle.std.specs.declared.thread.PromisedHandle.{PromisedHandle}
use Rattle.std.specs.declared.vec.Vec.{Vec}
use Rattle.std.proofs.lemmas.List.{length_push}
use Rattle.std.proofs.lemmas.Option.{same_Some, slice_get_within}
use Rattle.std.proofs.lemmas.Bool.{cases_eq}
use Rattle.tuple_codec.specs.declared.operations.Answer.{Answer}
use Rattle.tuple_codec.specs.declared.operations.Op.{Op}
use Rattle.space_node.specs.PartyStates.{PartyState}
use Rattle.cluster_run.specs.Hands.{Hands, HandsAreCalled, HasCalledHand}
use Rattle.cluster_run.specs.Threads.{AddsCalled, AreJoined, AreStarted, StartsThread, promises_of}
use Rattle.cluster_run.specs.declared.calling.AllCalled.{AllCalled}
use Rattle.cluster_run.specs.declared.calling.Called.{Called}
use Rattle.cluster_run.specs.declared.calling.CallsHand.{CallsHand}
use Rattle.cluster_run.proofs.Turns.{get_before, get_pushed, got}

pub started_more : (hands : Hands (Op Global)) (hand : Vec (Op Global) Global) (old new : List CallsHand) (n : ℕ) → AreStarted hands old → StartsThread old n hand new → n ≡ length old
    → slice_get hands n ≡ Some hand → AreStarted hands new × (length new ≡ length old + 1)
started_more hands hand old new n so_far starts at is = (
  (λ h p e. elim (cases_eq h (length old)) [
    | inl here ↦ (let same : starts.promise ≡ p =
        same_Some starts.promise p (sym (get_pushed old starts.promise) ∙ (sym (ap (slice_get (old ++ starts.promise ∷ [])) here) ∙ (sym (ap (λ ps. slice_get ps h) starts.new_is) ∙ e))) in
        subst (λ q. (q.number ≡ h) × (slice_get hands h ≡ Some q.ops.value)) same
        (starts.number_is ∙ (at ∙ sym here), ap (slice_get hands) (here ∙ sym at) ∙ (is ∙ ap Some (sym starts.hand_is))))
    | inr off ↦ so_far h p (sym (get_before old starts.promise h off) ∙ (sym (ap (λ ps. slice_get ps h) starts.new_is) ∙ e))
  ]),
  ap length starts.new_is ∙ length_push old starts.promise,
)

pub joined_more : (ps : List CallsHand) (clients : List PartyState) (answers : Hands (Answer Global)) (p : CallsHand) (s : PartyState) (v : Vec (Answer Global) Global)
    → AreJoined ps clients answers → HasCalledHand p.ops.value p.number v s → AreJoined (ps ++ p ∷ []) (clients ++ s ∷ []) (answers ++ v ∷ [])
joined_more ps clients answers p s v so_far called = record {
  clients_count = length_push clients s ∙ (ap (λ n. n + 1) so_far.clients_count ∙ sym (length_push ps p));
  answers_count = length_push answers v ∙ (ap (λ n. n + 1) so_far.answers_count ∙ sym (length_push ps p));
  each = λ h q t w e f g. elim (cases_eq h (length ps)) [
    | inl here ↦ (let one : p ≡ q = same_Some p q (sym (get_pushed ps p) ∙ (sym (ap (slice_get (ps ++ p ∷ [])) here) ∙ e)) in
        let two : s ≡ t = same_Some s t (sym (get_pushed clients s) ∙ (sym (ap (slice_get (clients ++ s ∷ [])) (here ∙ sym so_far.clients_count)) ∙ f)) in
        let three : v ≡ w = same_Some v w (sym (get_pushed answers v) ∙ (sym (ap (slice_get (answers ++ v ∷ [])) (here ∙ sym so_far.answers_count)) ∙ g)) in
        subst (λ x. HasCalledHand x.ops.value x.number w t) one (subst (λ x. HasCalledHand p.ops.value p.number w x) two (subst (λ x. HasCalledHand p.ops.value p.number x s) three called)))
    | inr off ↦ so_far.each h q t w (sym (get_before ps p h off) ∙ e) (sym (get_before clients s h (λ k. off (k ∙ so_far.clients_count))) ∙ f)
        (sym (get_before answers v h (λ k. off (k ∙ so_far.answers_count))) ∙ g)
  ];
}

pub hands_called : (hands : Hands (Op Global)) (ps : List CallsHand) (clients : List PartyState) (answers : Hands (Answer Global)) → AreStarted hands ps → AreJoined ps clients answers
    → HandsAreCalled hands clients answers
hands_called hands ps clients answers started joined h v at =
    let below : h < length answers = slice_get_within answers h v at in
    let p = got ps h (omega (arith, below, joined.answers_count)) in
    let s = got clients h (omega (arith, below, joined.answers_count, joined.clients_count)) in
    let is = started h p.0 p.1 in
    record {
      hand = p.0.ops.value;
      hand_is = is.1;
      client = s.0;
      client_is = s.1;
      called = subst (λ n. HasCalledHand p.0.ops.value n v s.0) is.0 (joined.each h p.0 s.0 v p.1 s.1 at);
    }

joined_one : {N E : Type 0} (r : Result (Vec (Answer Global) Global) E) (ps : List CallsHand) (p : CallsHand) (s : PartyState) (old new : AllCalled N) → AreJoined ps old.clients.items old.answers.items
    → MatchResult r (λ v. (new.clients.items ≡ old.clients.items ++ s ∷ []) × (new.answers.items ≡ old.answers.items ++ v ∷ [])) (λ fault. ⊥) → IfOk r (λ v. HasCalledHand p.ops.value p.number v s)
    → AreJoined (ps ++ p ∷ []) new.clients.items new.answers.items
joined_one (Ok v) ps p s old new so_far adds called =
    subst (λ cs. AreJoined (ps ++ p ∷ []) cs new.answers.items) (sym adds.0)
    (subst (λ vs. AreJoined (ps ++ p ∷ []) (old.clients.items ++ s ∷ []) vs) (sym adds.1) (joined_more ps old.clients.items old.answers.items p s v so_far called))
joined_one (Err e) ps p s old new so_far adds called = absurd adds

pub joined_or : {N E : Type 0} (outcome added : Result (Unit {0}) E) (ps : List CallsHand) (p : CallsHand) (old new : AllCalled N) (called : Called N)
    → OnOk outcome (AreJoined ps old.clients.items old.answers.items) → OnOk added (AddsCalled old called new) → IfOk called.answers (λ v. HasCalledHand p.ops.value p.number v called.client)
    → OnOk (result_and outcome added) (AreJoined (ps ++ p ∷ []) new.clients.items new.answers.items)
joined_or (Ok u) (Ok w) ps p old new called so_far adds kept = joined_one called.answers ps p called.client old new so_far adds kept
joined_or (Ok u) (Err e) ps p old new called so_far adds kept = search rules
joined_or (Err d) added ps p old new called so_far adds kept = search rules

pub promises_more : {T : Type 0} (threads : List (PromisedHandle T CallsHand)) (thread : PromisedHandle T CallsHand) → promises_of (threads ++ thread ∷ []) ≡ promises_of threads ++ thread.promise ∷ []
promises_more [] thread = refl
promises_more (t ∷ threads) thread = ap (λ ps. t.promise ∷ ps) (promises_more threads thread)

pub starts : {T : Type 0} (old new : List (PromisedHandle T CallsHand)) (thread : PromisedHandle T CallsHand) (n : ℕ) (hand : Vec (Op Global) Global) → new ≡ old ++ thread ∷ []
    → thread.promise.number ≡ n → thread.promise.ops.value ≡ hand → StartsThread (promises_of old) n hand (promises_of new)
starts old new thread n hand is number_is hand_is = record {
  promise = thread.promise;
  number_is = number_is;
  hand_is = hand_is;
  new_is = ap promises_of is ∙ promises_more old thread;
}

pub called_or : {E : Type 0} (started joined : Result (Unit {0}) E) (hands : Hands (Op Global)) (ps : List CallsHand) (clients : List PartyState) (answers : Hands (Answer Global))
    → OnOk started (AreStarted hands ps) → OnOk joined (AreJoined ps clients answers) → OnOk (result_and started joined) (HandsAreCalled hands clients answers)
called_or (Ok u) (Ok w) hands ps clients answers starts joins = hands_called hands ps clients answers starts joins
called_or (Ok u) (Err e) hands ps clients answers starts joins = search rules
called_or (Err d) joined hands ps clients answers starts joins = search rules

pub on_second : {E : Type 0} (one other : Result (Unit {0}) E) (P : Type 0) → OnOk other P → OnOk (result_and one other) P
on_second (Ok u) other P holds = holds
on_second (Err e) other P holds = search rules
