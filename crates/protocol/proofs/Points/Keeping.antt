-- A kept reply is of a request that ran in the batch of its number, and no request runs twice.
use Rattle.std.proofs.Common.{◌≡◌, ℕ, zero, suc, ◌+◌, ◌-◌, ◌≤◌, ◌<◌, ◌⊎◌, inl, inr, Bool, true, false, cond, List, [], ◌∷◌, ◌++◌, length, map, fold, filter, refl, sym, ap, ◌∙◌, subst, arith, ◌&&◌, Option, Some, None, eqb-true}
use Rattle.std.specs.Prelude.{◌==◌, nat_lt, nat_le, ⊤}
use Rattle.std.specs.Option.{option_map_or}
use Rattle.std.proofs.lemmas.Bool.{and_parts, leb-true, ltb-true, eqb-false}
use Rattle.std.proofs.lemmas.List.{length-set, get_or-set_same, get_or-set_other}
use Rattle.protocol.specs.Replica.RightReplica
use Rattle.protocol.proofs.Points.Sorting
use Rattle.protocol.specs.System.Configuration.{Configuration, IsConfiguration, is_client, is_correct_replica}
use Rattle.wire_format.specs.Messages.{MessageData as Message, request as Request}
use Rattle.wire_format.specs.Words.{requests_of, said}
use Rattle.terms.specs.declared.order.Mode.TheVariants as modes
use Rattle.protocol.specs.System.Frames.{same_mode}
use Rattle.protocol.specs.System.Trace.{Entry, party_of, Once, Has}
use Rattle.protocol.specs.System.Trace.Entry.{Invoke, Got, Tick, Executed, Installed, Sent, Accepted}
use Rattle.protocol.specs.Replica.State.{State, Call, Ran, opening, runs, run_call, call_in, call_of, run_frame, execute, ran_by, ran_in, kept_by, kept_of, last_time}
use Rattle.reply_cache.specs.Replies.{Kept, Replies, last_of, with_reply}
use Rattle.protocol.specs.Replica.RightReplica.{HistoryReaches, May, MovesPoint}
use Rattle.protocol.specs.Laws.Histories.{ExecutesBatch}
use Rattle.protocol.specs.Space.Linear.{Item, Placing, NoneTwice, ordered_point, ordered_points, first_position, batch_of, comes_before, insert_point, sorted}
use Rattle.protocol.proofs.Words.Options.{and_then_some, some_injective}
use Rattle.protocol.proofs.Points.Legality.{none_points, none_later}
use Rattle.protocol.proofs.Agreement.States.{GoodAll}
use Rattle.protocol.proofs.Points.Running.{Run, state_by, batch_is, is_by}
use Rattle.protocol.proofs.Points.Sorting.{AllOf, all_weaker, all_filter, all_append, insert_all, sorted_all}
use Rattle.protocol.specs.Replica.State.{ran_call}
use Rattle.protocol.specs.Replica.RightReplica.{waiting_after}
use Rattle.protocol.proofs.Words.Leaving.{last_put, none_kept, opening_is, executed_number}
use Rattle.protocol.proofs.Words.Elements.{has_either, has_left, has_right}

-- ---- requests that ran in n batches from the number k on

abbrev pub RanBy : Configuration → List Entry → State → ℕ → ℕ → (ℕ → Ran → Type 0) → Type 0
RanBy c xs st k zero Q = ⊥
RanBy c xs st k (suc n) Q = Has (Q k) (ran_in c k st (requests_of (batch_of xs k))) ⊎ RanBy c xs (execute c st (batch_of xs k)) (suc k) n Q

pub ran_by-more : (c : Configuration) (xs : List Entry) (st : State) (k n m : ℕ) (Q : ℕ → Ran → Type 0) → n ≤ m → RanBy c xs st k n Q → RanBy c xs st k m Q
ran_by-more c xs st k zero m Q l h = absurd h
ran_by-more c xs st k (suc n) zero Q l h = absurd (omega arith)
ran_by-more c xs st k (suc n) (suc m) Q l (inl h) = inl h
ran_by-more c xs st k (suc n) (suc m) Q l (inr h) = let l' : n ≤ m = omega arith in inr (ran_by-more c xs (execute c st (batch_of xs k)) (suc k) n m Q l' h)

ran_by-last : (c : Configuration) (xs : List Entry) (st : State) (k n j : ℕ) (Q : ℕ → Ran → Type 0) → j ≡ k + n → Has (Q j) (ran_in c j (state_by c xs st k n) (requests_of (batch_of xs j))) → RanBy c xs st k (suc n) Q
unfolding state_by
ran_by-last c xs st k zero j Q is h = let e : j ≡ k = omega arith in inl (subst (λ (i : ℕ). Has (Q i) (ran_in c i st (requests_of (batch_of xs i)))) e h)
ran_by-last c xs st k (suc n) j Q is h = let e : j ≡ suc k + n = omega arith in inr (ran_by-last c xs (execute c st (batch_of xs k)) (suc k) n j Q e h)

abbrev pub Keeps : ℕ → Kept → ℕ → Ran → Type 0
Keeps cl kept j x = (x.kept ≡ kept) × (x.call.client ≡ cl) × (kept.number ≡ j) × (x.kept.timestamp ≡ x.call.timestamp)

pub frames_kept : (c : Configuration) (k : ℕ) (st : State) (frames : List (List ℕ)) (cl : ℕ) (kept : Kept) → kept_of (fold (run_frame c k) st frames) cl ≡ Some kept
    → (kept_of st cl ≡ Some kept) ⊎ Has (Keeps cl kept k) (ran_in c k st frames)
frames_kept c k st [] cl kept h = inl h
frames_kept c k st (frame ∷ frames) cl kept h = go (call_of c frame) (frames_kept c k (run_frame c k st frame) frames cl kept h)
  where
    test : (call : Call) (b : Bool) (rest : List Ran)
        → (kept_of (cond b (ran_call st k call) st) cl ≡ Some kept) ⊎ Has (Keeps cl kept k) rest
        → (kept_of st cl ≡ Some kept) ⊎ Has (Keeps cl kept k) (cond b (record { call = call; kept = kept_by st k call } ∷ []) [] ++ rest)
    test call false rest h = h
    test call true rest (inr h) = inr (inr h)
    test call true rest (inl h) =
        pick (last_put st.replies call.client cl (kept_by st k call))
      where
        pick : ((kept_of (ran_call st k call) cl ≡ Some (kept_by st k call)) × (call.client ≡ cl)) ⊎ (kept_of (ran_call st k call) cl ≡ kept_of st cl)
            → (kept_of st cl ≡ Some kept) ⊎ Has (Keeps cl kept k) (let x : Ran = record { call = call; kept = kept_by st k call } in x ∷ rest)
        pick (inl e) = let same : kept_by st k call ≡ kept = some_injective (kept_by st k call) kept (sym e.0 ∙ h) in inr (inl (same, e.1, sym (ap (λ (x : Kept). x.number) same), refl))
        pick (inr e) = inl (sym e ∙ h)

    go : (o : Option Call) → (kept_of (option_map_or (run_call st k) o st) cl ≡ Some kept) ⊎ Has (Keeps cl kept k) (ran_in c k (run_frame c k st frame) frames)
        → (kept_of st cl ≡ Some kept) ⊎ Has (Keeps cl kept k) (option_map_or (ran_by st k) o [] ++ ran_in c k (run_frame c k st frame) frames)
    go None h = h
    go (Some call) h = test call (runs st call) (ran_in c k (run_frame c k st frame) frames) h

pub executed_kept : (c : Configuration) (st : State) (b : List ℕ) (cl : ℕ) → kept_of (execute c st b) cl ≡ kept_of (fold (run_frame c (suc st.number)) st (requests_of b)) cl
unfolding execute
executed_kept c st b cl = refl

pub kept_ran : (c : Configuration) (xs : List Entry) (st : State) (k n cl : ℕ) (kept : Kept) → k ≡ suc st.number → kept_of (state_by c xs st k n) cl ≡ Some kept
    → (kept_of st cl ≡ Some kept) ⊎ RanBy c xs st k n (Keeps cl kept)
unfolding state_by
kept_ran c xs st k zero cl kept is h = inl h
kept_ran c xs st k (suc n) cl kept is h =
    let number = executed_number c st (batch_of xs k) in
    let is' : suc k ≡ suc (execute c st (batch_of xs k)).number = omega arith in
    go (kept_ran c xs (execute c st (batch_of xs k)) (suc k) n cl kept is' h)
  where
    go : (kept_of (execute c st (batch_of xs k)) cl ≡ Some kept) ⊎ RanBy c xs (execute c st (batch_of xs k)) (suc k) n (Keeps cl kept) → (kept_of st cl ≡ Some kept) ⊎ RanBy c xs st k (suc n) (Keeps cl kept)
    go (inr h) = inr (inr h)
    go (inl h) =
        let there : kept_of (fold (run_frame c k) st (requests_of (batch_of xs k))) cl ≡ Some kept =
        ap (λ (i : ℕ). kept_of (fold (run_frame c i) st (requests_of (batch_of xs k))) cl) is ∙ sym (executed_kept c st (batch_of xs k) cl) ∙ h in
        pick (frames_kept c k st (requests_of (batch_of xs k)) cl kept there)
      where
        pick : (kept_of st cl ≡ Some kept) ⊎ Has (Keeps cl kept k) (ran_in c k st (requests_of (batch_of xs k))) → (kept_of st cl ≡ Some kept) ⊎ RanBy c xs st k (suc n) (Keeps cl kept)
        pick (inl e) = inl e
        pick (inr e) = inr (inl e)

-- a reply that is kept after n batches is of a request that ran in one of them
pub kept_ran-opening : (c : Configuration) (xs : List Entry) (n cl : ℕ) (kept : Kept) → kept_of (state_by c xs opening 1 n) cl ≡ Some kept → RanBy c xs opening 1 n (Keeps cl kept)
kept_ran-opening c xs n cl kept h = go (kept_ran c xs opening 1 n cl kept refl h)
  where
    go : (kept_of opening cl ≡ Some kept) ⊎ RanBy c xs opening 1 n (Keeps cl kept) → RanBy c xs opening 1 n (Keeps cl kept)
    go (inl e) = absurd (let none : None ≡ Some kept = sym (none_kept cl) ∙ e in cc)
    go (inr e) = e

-- ---- requests that ran in the running event

abbrev pub IsRun : Ran → ℕ → Ran → Type 0
IsRun x j y = (y ≡ x) × (y.kept.number ≡ j) × (y.kept.timestamp ≡ y.call.timestamp)

ran_here : (c : Configuration) (k : ℕ) (st : State) (frames : List (List ℕ)) (x : Ran) → Has (λ y. y ≡ x) (ran_in c k st frames) → Has (IsRun x k) (ran_in c k st frames)
ran_here c k st [] x h = h
ran_here c k st (frame ∷ frames) x h = go (call_of c frame) h (ran_here c k (run_frame c k st frame) frames x)
  where
    test : (call : Call) (b : Bool) (rest : List Ran) → (Has (λ y. y ≡ x) rest → Has (IsRun x k) rest) → Has (λ y. y ≡ x) (cond b (record { call = call; kept = kept_by st k call } ∷ []) [] ++ rest)
        → Has (IsRun x k) (cond b (record { call = call; kept = kept_by st k call } ∷ []) [] ++ rest)
    test call false rest below h = below h
    test call true rest below (inl h) = inl (h, refl, refl)
    test call true rest below (inr h) = inr (below h)

    go : (o : Option Call) → Has (λ y. y ≡ x) (option_map_or (ran_by st k) o [] ++ ran_in c k (run_frame c k st frame) frames)
        → (Has (λ y. y ≡ x) (ran_in c k (run_frame c k st frame) frames) → Has (IsRun x k) (ran_in c k (run_frame c k st frame) frames))
        → Has (IsRun x k) (option_map_or (ran_by st k) o [] ++ ran_in c k (run_frame c k st frame) frames)
    go None h below = below h
    go (Some call) h below = test call (runs st call) (ran_in c k (run_frame c k st frame) frames) below h

module _ (c : Configuration) (xs : List Entry) (run : Run c xs) (r : ℕ) (correct : is_correct_replica c r ≡ true) where
  pub rans_ran : (history : List Entry) → ((k : ℕ) (b : List ℕ) → Once (ExecutesBatch c k b) history → Once (ExecutesBatch c k b) xs) → GoodAll c xs r history
      → (point : RightReplica.Point) → HistoryReaches c r history point → (x : Ran) → Has (λ y. y ≡ x) point.ran → RanBy c xs opening 1 point.state.number (IsRun x)
  rans_ran [] emb good point leaves x h = absurd (subst (λ (p : RightReplica.Point). Has (λ y. y ≡ x) p.ran) leaves h)
  rans_ran (e ∷ past) emb good point leaves x h = go e leaves.2.own (λ k b u. emb k b (inl u)) leaves.2.may leaves.2.moves (rans_ran past (λ k b u. emb k b (inr u)) good.1 leaves.0 leaves.1 x)
    where
      ran_same : (p : RightReplica.Point) → point ≡ p → p.ran ≡ [] → RanBy c xs opening 1 point.state.number (IsRun x)
      ran_same p e none = absurd (subst (λ (rans : List Ran). Has (λ y. y ≡ x) rans) (ap (λ (q : RightReplica.Point). q.ran) e ∙ none) h)

      go : (e : Entry) → party_of e ≡ r → ((k : ℕ) (b : List ℕ) → ExecutesBatch c k b past e → Once (ExecutesBatch c k b) xs) → May c r past leaves.0 e → MovesPoint c r past leaves.0 e point
          → (Has (λ y. y ≡ x) leaves.0.ran → RanBy c xs opening 1 leaves.0.state.number (IsRun x)) → RanBy c xs opening 1 point.state.number (IsRun x)
      go (Got p bytes) own there may move below = ran_same (record leaves.0 { ran = []; waiting = waiting_after c r leaves.0 bytes }) move refl
      go (Tick p) own there may move below = ran_same (record leaves.0 { ran = [] }) move refl
      go (Sent p bytes) own there may move below =
          subst (λ (q : RightReplica.Point). RanBy c xs opening 1 q.state.number (IsRun x)) (sym move) (below (subst (λ (q : RightReplica.Point). Has (λ y. y ≡ x) q.ran) move h))
      go (Invoke a b d) own there may move below = absurd may
      go (Accepted a b d) own there may move below = absurd may
      go (Installed p k root) own there may move below =
          let was = below (subst (λ (rans : List Ran). Has (λ y. y ≡ x) rans) move.ran h) in
          let n = move.number in let above = may.0 in
          let l : leaves.0.state.number ≤ point.state.number = omega arith in
          ran_by-more c xs opening 1 leaves.0.state.number point.state.number (IsRun x) l was
      go (Executed p k batch) own there may move below =
          pick (has_either (λ y. y ≡ x) leaves.0.ran (ran_in c k leaves.0.state (requests_of batch)) (subst (λ (q : RightReplica.Point). Has (λ y. y ≡ x) q.ran) move h))
        where
          number : point.state.number ≡ suc leaves.0.state.number
          number = ap (λ (q : RightReplica.Point). q.state.number) move ∙ executed_number c leaves.0.state batch

          pick : Has (λ y. y ≡ x) leaves.0.ran ⊎ Has (λ y. y ≡ x) (ran_in c k leaves.0.state (requests_of batch)) → RanBy c xs opening 1 point.state.number (IsRun x)
          pick (inl u) = let n = number in let l : leaves.0.state.number ≤ point.state.number = omega arith in ran_by-more c xs opening 1 leaves.0.state.number point.state.number (IsRun x) l (below u)
          pick (inr u) =
              let b : batch_of xs k ≡ batch = batch_is c xs k batch run (there k batch (subst (λ (i : ℕ). is_correct_replica c i ≡ true) (sym own) correct, refl, refl)) in
              let by = is_by c xs leaves.0.state run (good.1.0 leaves.0 leaves.1).state in
              let ran = ran_here c k leaves.0.state (requests_of batch) x u in
              let moved : Has (IsRun x k) (ran_in c k leaves.0.state (requests_of (batch_of xs k))) = subst (λ (i : List ℕ). Has (IsRun x k) (ran_in c k leaves.0.state (requests_of i))) (sym b) ran in
              let at : Has (IsRun x k) (ran_in c k (state_by c xs opening 1 leaves.0.state.number) (requests_of (batch_of xs k))) = subst (λ (s : State). Has (IsRun x k) (ran_in c k s (requests_of (batch_of xs k)))) by.is moved in
              let k_is = may.next in
              let place : k ≡ 1 + leaves.0.state.number = omega arith in
              subst (λ (n : ℕ). RanBy c xs opening 1 n (IsRun x)) (sym number) (ran_by-last c xs opening 1 leaves.0.state.number k (IsRun x) place at)

-- ---- among the points

pub record IsRanPoint (c : Configuration) (trace : List Entry) (Q : ℕ → Ran → Type 0) (x : Placing) : Type 0 where
  pub number : ℕ
  pub position : ℕ
  pub ran : Ran
  pub is : x ≡ ordered_point position number ran
  pub place : first_position c trace number ≡ Some position
  pub holds : Q number ran

pub ran_point : (c : Configuration) (trace : List Entry) (st : State) (k n more : ℕ) (Q : ℕ → Ran → Type 0) → ((j : ℕ) (x : Ran) → Q j x → (q : ℕ) × (first_position c trace j ≡ Some q)) → n ≤ more
    → RanBy c trace st k n Q → Has (IsRanPoint c trace Q) (ordered_points c trace st k more)
ran_point c trace st k zero more Q places l h = absurd h
ran_point c trace st k (suc n) zero Q places l h = absurd (omega arith)
ran_point c trace st k (suc n) (suc more) Q places l (inr h) =
    let l' : n ≤ more = omega arith in
    has_right (IsRanPoint c trace Q) _ _ (ran_point c trace (execute c st (batch_of trace k)) (suc k) n more Q places l' h)
ran_point c trace st k (suc n) (suc more) Q places l (inl h) =
    has_left (IsRanPoint c trace Q) _ _ (go (first_position c trace k) refl)
  where
    each : (p : ℕ) → first_position c trace k ≡ Some p → (xs : List Ran) → Has (Q k) xs → Has (IsRanPoint c trace Q) (map (ordered_point p k) xs)
    each p is [] h = absurd h
    each p is (x ∷ xs) (inl h) = inl (record { number = k; position = p; ran = x; is = refl; place = is; holds = h })
    each p is (x ∷ xs) (inr h) = inr (each p is xs h)

    none : (xs : List Ran) → Has (Q k) xs → first_position c trace k ≡ None → ⊥
    none [] h e = h
    none (x ∷ xs) (inl h) e = let p = places k x h in let bad : None ≡ Some p.0 = sym e ∙ p.1 in absurd cc
    none (x ∷ xs) (inr h) e = none xs h e

    go : (o : Option ℕ) → first_position c trace k ≡ o → Has (IsRanPoint c trace Q) (option_map_or (λ position. map (ordered_point position k) (ran_in c k st (requests_of (batch_of trace k)))) o [])
    go None is = absurd (none (ran_in c k st (requests_of (batch_of trace k))) h is)
    go (Some p) is = each p is (ran_in c k st (requests_of (batch_of trace k))) h

-- ---- no request runs twice

abbrev pub Differ : Placing → Placing → Type 0
Differ x y = x.item.client ≡ y.item.client → x.item.timestamp ≡ y.item.timestamp → ⊥

abbrev pub AllDiffer : List Placing → Type 0
AllDiffer [] = ⊤
AllDiffer (x ∷ xs) = AllOf (Differ x) xs × AllDiffer xs

pub differ_filter : (keep : Placing → Bool) (xs : List Placing) → AllDiffer xs → AllDiffer (filter keep xs)
differ_filter keep [] a = tt
differ_filter keep (x ∷ xs) a = go (keep x) (differ_filter keep xs a.1)
  where
    go : (b : Bool) → AllDiffer (filter keep xs) → AllDiffer (cond b (x ∷ filter keep xs) (filter keep xs))
    go true below = (all_filter (Differ x) keep xs a.0, below)
    go false below = below

pub differ_append : (xs ys : List Placing) → AllDiffer xs → AllDiffer ys → AllOf (λ x. AllOf (Differ x) ys) xs → AllDiffer (xs ++ ys)
differ_append [] ys a b d = b
differ_append (x ∷ xs) ys a b d = (all_append (Differ x) xs ys a.0 d.0, differ_append xs ys a.1 b d.1)

differ_insert : (x : Placing) (ys : List Placing) → AllOf (Differ x) ys → AllDiffer ys → AllDiffer (insert_point x ys)
differ_insert x [] a d = (tt, tt)
differ_insert x (y ∷ ys) a d = go (comes_before x y) (differ_insert x ys a.1 d.1)
  where
    go : (b : Bool) → AllDiffer (insert_point x ys) → AllDiffer (cond b (x ∷ y ∷ ys) (y ∷ insert_point x ys))
    go true below = (a, d)
    go false below = (insert_all (Differ y) x ys (λ e f. a.0 (sym e) (sym f)) d.0, below)

pub differ_sorted : (xs : List Placing) → AllDiffer xs → AllDiffer (sorted xs)
differ_sorted [] a = tt
differ_sorted (x ∷ xs) a = differ_insert x (sorted xs) (sorted_all (Differ x) xs a.0) (differ_sorted xs a.1)

pub none_twice : (xs : List Placing) → AllDiffer xs → NoneTwice (map (λ (x : Placing). x.item) xs)
none_twice [] a = tt
none_twice (x ∷ xs) a = (apart xs a.0, none_twice xs a.1)
  where
    apart : (ys : List Placing) → AllOf (Differ x) ys → Has (λ (y : Item). (y.client ≡ x.item.client) × (y.timestamp ≡ x.item.timestamp)) (map (λ (y : Placing). y.item) ys) → ⊥
    apart [] a h = h
    apart (y ∷ ys) a (inl h) = a.0 (sym h.0) (sym h.1)
    apart (y ∷ ys) a (inr h) = apart ys a.1 h

-- two of the points of one client and timestamp are one
pub differ_same : (xs : List Placing) → AllDiffer xs → (x y : Placing) → Has (λ z. z ≡ x) xs → Has (λ z. z ≡ y) xs → x.item.client ≡ y.item.client → x.item.timestamp ≡ y.item.timestamp → x ≡ y
differ_same [] a x y h k e f = absurd h
differ_same (z ∷ xs) a x y (inl h) (inl k) e f = sym h ∙ k
differ_same (z ∷ xs) a x y (inl h) (inr k) e f = absurd (Sorting.all_has (Differ z) xs y a.0 k (ap (λ (u : Placing). u.item.client) h ∙ e) (ap (λ (u : Placing). u.item.timestamp) h ∙ f))
differ_same (z ∷ xs) a x y (inr h) (inl k) e f = absurd (Sorting.all_has (Differ z) xs x a.0 h (ap (λ (u : Placing). u.item.client) k ∙ sym e) (ap (λ (u : Placing). u.item.timestamp) k ∙ sym f))
differ_same (z ∷ xs) a x y (inr h) (inr k) e f = differ_same xs a.1 x y h k e f

-- ---- timestamps grow

pub put_here : (replies : Replies) (client : ℕ) (kept : Kept) → client < length replies → last_of (with_reply replies client kept) client ≡ Some kept
put_here replies client kept l = get_or-set_same replies client (Some kept) None l

put_there : (replies : Replies) (i client : ℕ) (kept : Kept) → (i ≡ client → ⊥) → last_of (with_reply replies i kept) client ≡ last_of replies client
put_there replies i client kept n = get_or-set_other replies i client (Some kept) None (λ e. n (sym e))

abbrev pub Later : State → Placing → Type 0
Later st x = (cl : ℕ) → x.item.client ≡ 256 + cl → last_time st cl < x.item.timestamp

abbrev pub after_call : State → ℕ → Call → State
after_call st k call = ran_call st k call

pub time_here : (st : State) (k : ℕ) (call : Call) → call.client < length st.replies → last_time (after_call st k call) call.client ≡ call.timestamp
time_here st k call l = ap (λ (o : Option Kept). option_map_or (λ (kept : Kept). kept.timestamp) o 0) (put_here st.replies call.client (kept_by st k call) l)

pub time_grows : (st : State) (k : ℕ) (call : Call) (cl : ℕ) → call.client < length st.replies → last_time st call.client < call.timestamp → last_time st cl ≤ last_time (after_call st k call) cl
time_grows st k call cl l m = go (call.client == cl) refl
  where
    go : (b : Bool) → (call.client == cl) ≡ b → last_time st cl ≤ last_time (after_call st k call) cl
    go true e = let same : call.client ≡ cl = eqb-true call.client cl e in subst (λ (i : ℕ). last_time st i ≤ last_time (after_call st k call) i) same (let h = time_here st k call l in omega arith)
    go false e =
        let h : last_time (after_call st k call) cl ≡ last_time st cl = ap (λ (o : Option Kept). option_map_or (λ (kept : Kept). kept.timestamp) o 0)
        (put_there st.replies call.client cl (kept_by st k call) (eqb-false call.client cl e)) in omega arith

pub call_small : (c : Configuration) → IsConfiguration c → (frame : List ℕ) (call : Call) → call_of c frame ≡ Some call → call.client < 256
call_small c setting frame call h =
    let r = and_then_some (call_in c) (said frame) call h in
    go r.0.sender r.0.message r.2
  where
    few : c.clients ≤ 256
    few = setting.clients

    go : (sender : ℕ) (message : Message) → call_in c (record { sender = sender; message = message }) ≡ Some call → call.client < 256
    go sender (Request t mode op) h = test (same_mode mode modes.Ordered && is_client c sender) refl h
      where
        test : (b : Bool) → (same_mode mode modes.Ordered && is_client c sender) ≡ b → cond b (Some (let x : Call = record { client = sender - 256; timestamp = t; op = op } in x)) None ≡ Some call → call.client < 256
        test true e h =
            let is : ◌≡◌ {A = Call} (record { client = sender - 256; timestamp = t; op = op }) call = some_injective {A = Call} (record { client = sender - 256; timestamp = t; op = op }) call h in
            let at : sender - 256 ≡ call.client = ap (λ (x : Call). x.client) is in
            let p = and_parts (same_mode mode modes.Ordered) (is_client c sender) e in
            let u = and_parts (nat_le 256 sender) (nat_lt sender (256 + c.clients)) p.1 in
            let a : 256 ≤ sender = leb-true 256 sender u.0 in
            let b : sender < 256 + c.clients = ltb-true sender (256 + c.clients) u.1 in
            let f = few in
            omega arith
        test false e h = absurd cc
    go sender _ h = absurd cc

abbrev pub Full : State → Type 0
Full st = length st.replies ≡ 256

pub opening_full : Full opening
opening_full = opening_is.replies.all

pub frames_full : (c : Configuration) (k : ℕ) (st : State) (frames : List (List ℕ)) → Full st → Full (fold (run_frame c k) st frames)
frames_full c k st [] full = full
frames_full c k st (frame ∷ frames) full = frames_full c k (run_frame c k st frame) frames (go (call_of c frame))
  where
    test : (call : Call) (b : Bool) → Full (cond b (after_call st k call) st)
    test call true = length-set st.replies call.client (Some (kept_by st k call)) ∙ full
    test call false = full

    go : (o : Option Call) → Full (option_map_or (run_call st k) o st)
    go None = full
    go (Some call) = test call (runs st call)

pub executed_full : (c : Configuration) (st : State) (b : List ℕ) → Full st → Full (execute c st b)
unfolding execute
executed_full c st b full = frames_full c (suc st.number) st (requests_of b) full

abbrev DifferWith : ℕ → ℕ → List Placing → State → List Ran → Type 0
DifferWith p k rest s rans = AllOf (Later s) (map (ordered_point p k) rans ++ rest) × AllDiffer (map (ordered_point p k) rans ++ rest)

pub frames_differ : (c : Configuration) → IsConfiguration c → (p k : ℕ) (st : State) (frames : List (List ℕ)) (rest : List Placing) → Full st → AllOf (Later (fold (run_frame c k) st frames)) rest → AllDiffer rest
    → AllOf (Later st) (map (ordered_point p k) (ran_in c k st frames) ++ rest) × AllDiffer (map (ordered_point p k) (ran_in c k st frames) ++ rest)
frames_differ c setting p k st [] rest full later differ = (later, differ)
frames_differ c setting p k st (frame ∷ frames) rest full later differ = go (call_of c frame) refl (λ f. frames_differ c setting p k (run_frame c k st frame) frames rest f later differ)
  where
    test : (call : Call) → call_of c frame ≡ Some call → (b : Bool) → runs st call ≡ b → (Full (cond b (after_call st k call) st) → DifferWith p k rest (cond b (after_call st k call) st) (ran_in c k (cond b (after_call st k call) st) frames))
        → DifferWith p k rest st (cond b (record { call = call; kept = kept_by st k call } ∷ []) [] ++ ran_in c k (cond b (after_call st k call) st) frames)
    test call is false e below = below full
    test call is true e below =
        let small : call.client < 256 = call_small c setting frame call is in
        let f : length st.replies ≡ 256 = full in
        let l : call.client < length st.replies = omega arith in
        let newer : last_time st call.client < call.timestamp = ltb-true (last_time st call.client) call.timestamp e in
        let r = below (length-set st.replies call.client (Some (kept_by st k call)) ∙ full) in
        let xs : List Placing = map (ordered_point p k) (ran_in c k (after_call st k call) frames) ++ rest in (
          (
            λ cl is_cl. let n : call.client ≡ cl = omega arith in subst (λ (i : ℕ). last_time st i < call.timestamp) n newer,
            all_weaker (Later (after_call st k call)) (Later st) (λ x h cl is_cl. let a = h cl is_cl in let g = time_grows st k call cl l newer in omega arith) xs r.0,
          ),
          (
            all_weaker (Later (after_call st k call)) (Differ (ordered_point p k (record { call = call; kept = kept_by st k call })))
                (λ x h same time. let a = h call.client (sym same) in let b = time_here st k call l in let t : call.timestamp ≡ x.item.timestamp = time in absurd (omega arith)) xs r.0,
            r.1,
          ),
        )

    go : (o : Option Call) → call_of c frame ≡ o → (Full (option_map_or (run_call st k) o st) → DifferWith p k rest (option_map_or (run_call st k) o st) (ran_in c k (option_map_or (run_call st k) o st) frames))
        → DifferWith p k rest st (option_map_or (ran_by st k) o [] ++ ran_in c k (option_map_or (run_call st k) o st) frames)
    go None is below = below full
    go (Some call) is below = test call is (runs st call) refl below

pub executed_times : (c : Configuration) (st : State) (b : List ℕ) (cl : ℕ) → last_time (execute c st b) cl ≡ last_time (fold (run_frame c (suc st.number)) st (requests_of b)) cl
unfolding execute
executed_times c st b cl = refl

pub points_differ : (c : Configuration) → IsConfiguration c → (trace : List Entry) (st : State) (k more : ℕ) → k ≡ suc st.number → Full st
    → AllOf (Later st) (ordered_points c trace st k more) × AllDiffer (ordered_points c trace st k more)
points_differ c setting trace st k zero is full = (tt, tt)
points_differ c setting trace st k (suc more) is full =
    let number = executed_number c st (batch_of trace k) in
    let is' : suc k ≡ suc (execute c st (batch_of trace k)).number = omega arith in
    go (first_position c trace k) refl (points_differ c setting trace (execute c st (batch_of trace k)) (suc k) more is' (executed_full c st (batch_of trace k) full))
  where
    moved : (x : Placing) → Later (execute c st (batch_of trace k)) x → Later (fold (run_frame c k) st (requests_of (batch_of trace k))) x
    moved x h cl is_cl =
        let a = h cl is_cl in
        let b = executed_times c st (batch_of trace k) cl in
        let d : last_time (fold (run_frame c k) st (requests_of (batch_of trace k))) cl ≡ last_time (fold (run_frame c (suc st.number)) st (requests_of (batch_of trace k))) cl =
        ap (λ (i : ℕ). last_time (fold (run_frame c i) st (requests_of (batch_of trace k))) cl) is in
        omega arith

    go : (o : Option ℕ) → first_position c trace k ≡ o
        → AllOf (Later (execute c st (batch_of trace k))) (ordered_points c trace (execute c st (batch_of trace k)) (suc k) more) × AllDiffer (ordered_points c trace (execute c st (batch_of trace k)) (suc k) more)
        → AllOf (Later st) (option_map_or (λ position. map (ordered_point position k) (ran_in c k st (requests_of (batch_of trace k)))) o [] ++ ordered_points c trace (execute c st (batch_of trace k)) (suc k) more)
        × AllDiffer (option_map_or (λ position. map (ordered_point position k) (ran_in c k st (requests_of (batch_of trace k)))) o [] ++ ordered_points c trace (execute c st (batch_of trace k)) (suc k) more)
    go None e below = rw (none_points c trace (execute c st (batch_of trace k)) (suc k) more (none_later c k trace e)) (tt, tt)
    go (Some p) e below = frames_differ c setting p k st (requests_of (batch_of trace k)) (ordered_points c trace (execute c st (batch_of trace k)) (suc k) more) full
        (all_weaker (Later (execute c st (batch_of trace k))) (Later (fold (run_frame c k) st (requests_of (batch_of trace k)))) moved (ordered_points c trace (execute c st (batch_of trace k)) (suc k) more) below.0) below.1
