-- The requests that frames run.
use Rattle.std.proofs.Common.{◌≡◌, ℕ, suc, ◌+◌, ◌≤◌, ◌<◌, List, [], ◌++◌, map, drop, get_or, length, Bor, sym, ap, ◌∙◌, subst, append-nil, append_assoc, drop-cons, add-one}
use Rattle.std.specs.Prelude.{fold}
use Rattle.std.proofs.lemmas.List.{map-append}
use Rattle.tuple_codec.specs.Operations.{Operation}
use Rattle.space.specs.Births.{SpaceState, state_after}
use Rattle.space.specs.Watching.{WatchedState}
use Rattle.space.proofs.Batches.{next_after}
use Rattle.wire_format.specs.Words.{requests_of}
use Rattle.protocol.specs.System.Configuration.{Configuration}
use Rattle.protocol.specs.Replica.State.{State, run_frame, ran_in, execute}
use Rattle.execution.specs.Executed.{ExecutedData, ExecutesBatchText, told_of}
use Rattle.execution.specs.Running.{SoFar, state_with, state_of, frame_ran, RunsOneFrame, RunsAll}
use Rattle.execution.specs.Touching.{RepliesState, ChangesAreTouched}

-- ---- one frame

-- ---- frames one after another

abbrev pub texts : List (Bor (List ℕ)) → List (List ℕ)
texts xs = map (λ f. f.now) xs

-- Running the rest leads to the end of the whole.
pub record Left (clients number : ℕ) (xs : List (Bor (List ℕ))) (x y : SoFar) (i : ℕ) : Type 0 where
  pub states : (c : Configuration) (n : ℕ) → c.clients ≡ clients
      → fold (run_frame c number) (state_of n x) (texts xs) ≡ fold (run_frame c number) (state_of n y) (texts (drop i xs))
  pub tells : (c : Configuration) (n : ℕ) → c.clients ≡ clients
      → x.told ++ map told_of (ran_in c number (state_of n x) (texts xs)) ≡ y.told ++ map told_of (ran_in c number (state_of n y) (texts (drop i xs)))

pub goes_on : (clients number : ℕ) (xs : List (Bor (List ℕ))) (x y z : SoFar) (i : ℕ) (d : Bor (List ℕ)) → i < length xs
    → Left clients number xs x y i → RunsOneFrame clients number (get_or xs i d).now y z → Left clients number xs x z (i + 1)
goes_on clients number xs x y z i d l left step = record {
  states = λ c n e.
      let k = step c n e in
      left.states c n e ∙ (rw (drop-cons xs i d l) (rw add-one (ap (λ (s : State). fold (run_frame c number) s (texts (drop (suc i) xs))) (sym k.state))));
  tells = λ c n e.
      let k = step c n e in
      let f : List ℕ = (get_or xs i d).now in
      let rest : List (List ℕ) = texts (drop (suc i) xs) in
      let st : State = state_of n y in
      left.tells c n e
      ∙ rw (drop-cons xs i d l) (ap (λ t. y.told ++ t) (map-append told_of (frame_ran c number st f) (ran_in c number (run_frame c number st f) rest)) ∙ sym (append_assoc y.told (map told_of (frame_ran c number st f)) (map told_of (ran_in c number (run_frame c number st f) rest)))
      ∙ ap (λ t. t ++ map told_of (ran_in c number (run_frame c number st f) rest)) (sym k.told)
      ∙ rw add-one (ap (λ (s : State). z.told ++ map told_of (ran_in c number s rest)) (sym k.state)));
}

pub ends : (clients number : ℕ) (xs : List (Bor (List ℕ))) (x y : SoFar) (i : ℕ) → drop i xs ≡ []
    → Left clients number xs x y i → RunsAll clients number (texts xs) x y
ends clients number xs x y i e left = λ c n m. record {
  state = sym (left.states c n m ∙ ap (λ ys. fold (run_frame c number) (state_of n y) (texts ys)) e);
  told = sym (left.tells c n m ∙ ap (λ ys. y.told ++ map told_of (ran_in c number (state_of n y) (texts ys))) e ∙ append-nil y.told);
}

-- ---- a batch

pub executes : (old new : ExecutedData) (number : ℕ) (batch : List ℕ) (frames : List (List ℕ)) (x y : SoFar)
    → state_of old.state.number x ≡ old.state → x.told ≡ [] → frames ≡ requests_of batch → number ≡ suc old.state.number
    → new.state ≡ state_of number y → RunsAll old.clients number frames x y → ExecutesBatchText old batch y.told new
unfolding execute
executes old new number batch frames x y was none same next is run = λ c e.
    let k = run c old.state.number e in
    let a : state_of old.state.number y ≡ fold (run_frame c (suc old.state.number)) old.state (requests_of batch) =
    k.state ∙ ap (λ (m : ℕ). fold (run_frame c m) (state_of old.state.number x) frames) next
    ∙ ap (λ fs. fold (run_frame c (suc old.state.number)) (state_of old.state.number x) fs) same
    ∙ ap (λ (s : State). fold (run_frame c (suc old.state.number)) s (requests_of batch)) was in
    record {
      state = is ∙ ap (λ (m : ℕ). state_with m y.space y.replies) next ∙ ap (λ (s : State). let t : State = record s { number = suc old.state.number } in t) a;
      ran = k.told ∙ ap (λ ts. ts ++ map told_of (ran_in c number (state_of old.state.number x) frames)) none
          ∙ ap (λ (m : ℕ). map told_of (ran_in c m (state_of old.state.number x) frames)) next
          ∙ ap (λ fs. map told_of (ran_in c (suc old.state.number) (state_of old.state.number x) fs)) same
          ∙ ap (λ (s : State). map told_of (ran_in c (suc old.state.number) s (requests_of batch))) was;
    }

-- ---- changes

pub changes_on : (w w' w'' : WatchedState) (r r' r'' : RepliesState) → ChangesAreTouched w r w' r' → ChangesAreTouched w' r' w'' r'' → ChangesAreTouched w r w'' r''
changes_on w w' w'' r r' r'' one two = record {
  space = λ page l h. let b = two.space page l h in let a = one.space page l b.0 in (a.0, b.1 ∙ a.1);
  replies = λ client l h. let b = two.replies client l h in let a = one.replies client l b.0 in (a.0, b.1 ∙ a.1);
  is_space = λ h. two.is_space (one.is_space h);
  are_replies = λ h. two.are_replies (one.are_replies h);
}

pub births_after : (s s' : SpaceState) (client : ℕ) (o : Operation) → s' ≡ state_after s client o → s'.next ≤ s.next + 256
births_after s s' client o e = subst (λ (x : SpaceState). x.next ≤ s.next + 256) (sym e) (next_after s client o)
