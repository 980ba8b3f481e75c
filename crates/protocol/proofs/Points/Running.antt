-- A run, each of its beginnings, and the batches that it executes.
use Rattle.std.proofs.Common.{◌≡◌, ℕ, zero, suc, ◌+◌, ◌*◌, ◌≤◌, ◌<◌, inl, inr, Bool, true, false, cond, List, [], ◌∷◌, length, refl, sym, ap, ◌∙◌, subst, arith, ◌||◌, Option, Some, None, eqb-true, eq-eqb}
use Rattle.std.specs.Prelude.{◌==◌, nat_le}
use Rattle.std.specs.Option.{option_map_or}
use Rattle.std.proofs.lemmas.Bool.{and_parts, leb-true, eqb-false}
use Rattle.quorum.proofs.Counting.{some_more}
use Rattle.protocol.specs.Replica.RightReplica
use Rattle.quorum.specs.Quorum.{count_below}
use Rattle.protocol.specs.System.Configuration.{Configuration, IsConfiguration, is_correct, is_correct_replica, is_correct_client}
use Rattle.protocol.specs.System.Trace.{Entry, party_of, history_of, Once, Always}
use Rattle.protocol.specs.System.Trace.Entry.{Invoke, Executed}
use Rattle.protocol.specs.Replica.Certificates.{first_given}
use Rattle.std.specs.Bool.{then_some}
use Rattle.quorum.specs.Votes.{or_else}
use Rattle.protocol.specs.Replica.RightReplica.{HistoryReaches}
use Rattle.protocol.specs.Client.RightClient.{SafeClient}
use Rattle.protocol.specs.Replica.State.{State, opening, execute, after_batches}
use Rattle.protocol.specs.System.Texts.{IsText, NoCollision}
use Rattle.protocol.specs.System.Texts.IsText.{null, batch, part, page_of, under, installed}
use Rattle.protocol.specs.Space.Linear.{last_executed, reached, count_correct, has_reached, is_level, batch_at, batch_of}
use Rattle.protocol.proofs.Words.Temporal.{once_weaker}
use Rattle.protocol.proofs.Words.Options.{given_once, then_some_gives}
use Rattle.protocol.proofs.Agreement.Executing.{executed_agree}
use Rattle.protocol.proofs.Agreement.Firsts.{first_later}
use Rattle.protocol.specs.Laws.Histories.{ExecutesBatch, AreExecuted, IsStateOf}
use Rattle.protocol.proofs.Agreement.States.{number_after, states_agree}
use Rattle.protocol.proofs.Points.Levels.{many_correct, reached_history, number_reached}
use Rattle.protocol.proofs.Points.Reading.{Runs, runs_earlier}

pub record Run (c : Configuration) (xs : List Entry) : Type 0 where
  pub setting : IsConfiguration c
  pub runs : Runs c xs
  pub apart : NoCollision c xs
  pub parties : Always (λ past e. is_correct c (party_of e) ≡ true) xs

-- ---- the texts of a beginning

text_later : (c : Configuration) (e : Entry) (xs : List Entry) (text : List ℕ) → IsText c xs text → IsText c (e ∷ xs) text
text_later c e xs _ null = null
text_later c e xs text (batch _ h) = batch text (inr h)
text_later c e xs text (part _ h) = part text (inr h)
text_later c e xs _ (page_of batches i l h) = page_of batches i l (first_later c e xs 1 batches h)
text_later c e xs text (under batches _ h u) = under batches text (first_later c e xs 1 batches h) u
text_later c e xs text (installed batches _ h u) = installed batches text (first_later c e xs 1 batches h) (inr u)

pub run_earlier : (c : Configuration) (e : Entry) (xs : List Entry) → Run c (e ∷ xs) → Run c xs
run_earlier c e xs r = record {
  setting = r.setting;
  runs = runs_earlier c e xs r.runs;
  apart = λ x y a b. r.apart x y (text_later c e xs x a) (text_later c e xs y b);
  parties = r.parties.1;
}

pub once_run : (c : Configuration) (Q : List Entry → Entry → Type 0) (xs : List Entry) → Run c xs → Once Q xs → Once (λ past e. Run c (e ∷ past) × Q past e) xs
once_run c Q [] r h = h
once_run c Q (e ∷ past) r (inl h) = inl (r, h)
once_run c Q (e ∷ past) r (inr h) = inr (once_run c Q past (run_earlier c e past r) h)

pub always_run : (c : Configuration) (Q : List Entry → Entry → Type 0) (xs : List Entry) → ((past : List Entry) (e : Entry) → Run c (e ∷ past) → Q past e) → Run c xs → Always Q xs
always_run c Q [] f r = tt
always_run c Q (e ∷ past) f r = (f past e r, always_run c Q past f (run_earlier c e past r))

-- ---- the batch of a number is the executed one

pub given_executed : (c : Configuration) (k : ℕ) (b : List ℕ) (past : List Entry) (e : Entry) → Run c (e ∷ past) → batch_at k e ≡ Some b → ExecutesBatch c k b past e
given_executed c k b past (Executed r number text) run h =
    let g = then_some_gives (number == k) text b h in
    (pick (is_correct_replica c r) refl run.parties.0, eqb-true number k g.0, g.1)
  where
    own : (x : Bool) → (r == r) ≡ x → x ≡ true → SafeClient c r (cond x (Executed r number text ∷ history_of r past) (history_of r past)) → ⊥
    own true is e right = right.0.1
    own false is e right = absurd cc

    pick : (x : Bool) → is_correct_replica c r ≡ x → (x || is_correct_client c r) ≡ true → is_correct_replica c r ≡ true
    pick true is h = is
    pick false is h = absurd (own (r == r) refl (eq-eqb r r refl) (run.runs.clients r h))
given_executed c k b past (Invoke x y z) run h = absurd cc
given_executed c k b past _ run h = absurd cc

some_given : (c : Configuration) (k : ℕ) (b : List ℕ) (xs : List Entry) → Once (ExecutesBatch c k b) xs → (x : List ℕ) × (first_given (λ past e. batch_at k e) xs ≡ Some x)
some_given c k b [] h = absurd h
some_given c k b (e ∷ past) (inr h) = go (first_given (λ past e. batch_at k e) past) (some_given c k b past h)
  where
    go : (o : Option (List ℕ)) → (x : List ℕ) × (o ≡ Some x) → (x : List ℕ) × (or_else o (batch_at k e) ≡ Some x)
    go None t = absurd (let bad = t.1 in cc)
    go (Some y) t = (y, refl)
some_given c k b (Executed r number text ∷ past) (inl h) = go (first_given (λ past e. batch_at k e) past)
  where
    go : (o : Option (List ℕ)) → (x : List ℕ) × (or_else o (then_some (number == k) text) ≡ Some x)
    go None = (text, rw (eq-eqb number k h.1) refl)
    go (Some y) = (y, refl)
some_given c k b (_ ∷ past) (inl h) = absurd h

pub batch_is : (c : Configuration) (xs : List Entry) (k : ℕ) (b : List ℕ) → Run c xs → Once (ExecutesBatch c k b) xs → batch_of xs k ≡ b
batch_is c xs k b run h =
    let s = some_given c k b xs h in
    let there : Once (ExecutesBatch c k s.0) xs =
    once_weaker (λ past e. Run c (e ∷ past) × (batch_at k e ≡ Some s.0)) (ExecutesBatch c k s.0) (λ past e t. given_executed c k s.0 past e t.0 t.1) xs
    (once_run c (λ past e. batch_at k e ≡ Some s.0) xs run (given_once (λ past e. batch_at k e) s.0 xs s.1)) in
    let same = executed_agree c run.setting xs run.runs.replicas run.runs.unforged run.apart k s.0 b there h in
    ap (λ (o : Option (List ℕ)). option_map_or (λ batch. batch) o (0 ∷ [])) s.1 ∙ same

-- ---- the states of the batches by number

-- the state after n batches, from the number k on
unfoldable pub state_by : Configuration → List Entry → State → ℕ → ℕ → State
state_by c xs st k zero = st
state_by c xs st k (suc n) = state_by c xs (execute c st (batch_of xs k)) (suc k) n

after_by : (c : Configuration) (xs : List Entry) (st : State) (k : ℕ) (batches : List (List ℕ)) → Run c xs → AreExecuted c xs k batches → after_batches c st batches ≡ state_by c xs st k (length batches)
unfolding state_by
after_by c xs st k [] run h = refl
after_by c xs st k (b ∷ batches) run h =
    let e : batch_of xs k ≡ b = batch_is c xs k b run h.0 in
    let n : k + 1 ≡ suc k = omega arith in
    let rest : AreExecuted c xs (suc k) batches = subst (λ (i : ℕ). AreExecuted c xs i batches) n h.1 in
    after_by c xs (execute c st b) (suc k) batches run rest ∙ ap (λ (x : List ℕ). state_by c xs (execute c st x) (suc k) (length batches)) (sym e)

-- the state of a correct replica is that of the batches up to its number, and these were executed
pub record IsBy (c : Configuration) (xs : List Entry) (st : State) : Type 0 where
  pub is : st ≡ state_by c xs opening 1 st.number
  pub executed : (k : ℕ) → 1 ≤ k → k ≤ st.number → (b : List ℕ) × Once (ExecutesBatch c k b) xs

some_executed : (c : Configuration) (xs : List Entry) (first : ℕ) (batches : List (List ℕ)) → AreExecuted c xs first batches → (k : ℕ) → first ≤ k → k < first + length batches
    → (b : List ℕ) × Once (ExecutesBatch c k b) xs
some_executed c xs first [] h k l m = absurd (omega arith)
some_executed c xs first (x ∷ batches) h k l m = go (first == k) refl (some_executed c xs (first + 1) batches h.1 k)
  where
    go : (b : Bool) → (first == k) ≡ b → (first + 1 ≤ k → k < first + 1 + length batches → (b : List ℕ) × Once (ExecutesBatch c k b) xs) → (b : List ℕ) × Once (ExecutesBatch c k b) xs
    go true e below = (x, subst (λ (i : ℕ). Once (ExecutesBatch c i x) xs) (eqb-true first k e) h.0)
    go false e below = let n = eqb-false first k e in let a : first + 1 ≤ k = omega arith in let d : k < first + 1 + length batches = omega arith in below a d

pub is_by : (c : Configuration) (xs : List Entry) (st : State) → Run c xs → IsStateOf c xs st → IsBy c xs st
is_by c xs st run s =
    let n = number_after c opening s.batches in
    let m : st.number ≡ (after_batches c opening s.batches).number = ap (λ (x : State). x.number) s.is in
    let l : length s.batches ≡ st.number = omega arith in
    record {
      is = s.is ∙ after_by c xs opening 1 s.batches run s.executed ∙ ap (state_by c xs opening 1) l;
      executed = λ k a b. let d : k < 1 + length s.batches = omega arith in some_executed c xs 1 s.batches s.executed k a d;
    }

pub state_is_by : (c : Configuration) (xs : List Entry) (r : ℕ) (point : RightReplica.Point) → Run c xs → is_correct_replica c r ≡ true → HistoryReaches c r (history_of r xs) point → IsBy c xs point.state
state_is_by c xs r point run correct leaves =
    is_by c xs point.state run ((states_agree c run.setting xs run.runs.replicas run.runs.unforged run.apart r correct).0 point leaves).state

-- ---- consequences of a level

-- a correct replica has reached the level
pub level_reached : (c : Configuration) (xs : List Entry) (k : ℕ) → IsConfiguration c → is_level c xs k ≡ true → (r : ℕ) × (is_correct_replica c r ≡ true) × (k ≤ reached xs r)
level_reached c xs k setting h =
    let had : count_correct c ≤ count_below (has_reached c xs k) (3 * c.faults + 1) + c.faults = leb-true (count_correct c) (count_below (has_reached c xs k) (3 * c.faults + 1) + c.faults) h in
    let many = many_correct c setting in
    let none : (n : ℕ) → count_below (λ s. false) n ≡ 0 = none_below in
    let z = none (3 * c.faults + 1) in
    let more : count_below (λ s. false) (3 * c.faults + 1) < count_below (has_reached c xs k) (3 * c.faults + 1) = omega arith in
    let s = some_more (has_reached c xs k) (λ s. false) (3 * c.faults + 1) more in
    let p = and_parts (is_correct_replica c s.0) (nat_le k (reached xs s.0)) s.3 in
    (s.0, p.0, leb-true k (reached xs s.0) p.1)
  where
    none_below : (n : ℕ) → count_below (λ s. false) n ≡ 0
    none_below zero = refl
    none_below (suc n) = none_below n

-- at a level each lower number was executed
pub level_executed : (c : Configuration) (xs : List Entry) (n : ℕ) → Run c xs → is_level c xs n ≡ true → (k : ℕ) → 1 ≤ k → k ≤ n → (b : List ℕ) × Once (ExecutesBatch c k b) xs
level_executed c xs n run h k l m =
    let r = level_reached c xs n run.setting h in
    let right = run.runs.replicas r.0 r.1 in
    let by = state_is_by c xs r.0 right.0 run r.1 right.1 in
    let at = number_reached c r.0 (history_of r.0 xs) right.0 right.1 in
    let same = reached_history r.0 xs in
    let reach = r.2 in
    let d : k ≤ right.0.state.number = omega arith in
    by.executed k l d

pub executed_greatest : (c : Configuration) (k : ℕ) (b : List ℕ) (xs : List Entry) → Once (ExecutesBatch c k b) xs → k ≤ last_executed xs
executed_greatest c k b [] h = absurd h
executed_greatest c k b (Executed r number text ∷ past) (inl h) = let n = h.1 in omega arith
executed_greatest c k b (e ∷ past) (inr h) = let n = executed_greatest c k b past h in omega arith
executed_greatest c k b (_ ∷ past) (inl h) = absurd h
