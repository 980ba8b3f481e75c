-- The points of accepted reads.
use Rattle.std.proofs.Common.{◌≡◌, ℕ, zero, suc, ◌+◌, ◌-◌, ◌≤◌, ◌<◌, ◌⊎◌, inl, inr, Bool, true, false, cond, max, List, [], ◌∷◌, ◌++◌, length, refl, sym, ap, ◌∙◌, subst, arith, Option, Some, None, eq-eqb, append_assoc}
use Rattle.std.specs.Prelude.{◌==◌, option_and_then}
use Rattle.std.specs.Option.{option_map_or}
use Rattle.std.proofs.lemmas.Bool.{cases_order}
use Rattle.protocol.proofs.Points.Accepting
use Rattle.protocol.specs.System.Configuration.{Configuration, is_correct_client}
use Rattle.terms.specs.declared.order.Mode.{Mode}
use Rattle.terms.specs.declared.order.Mode.TheVariants as modes
use Rattle.protocol.specs.System.Frames.{same_mode}
use Rattle.protocol.specs.System.Trace.{Entry, history_of, Once, Has}
use Rattle.protocol.specs.System.Trace.Entry.{Invoke, Got, Tick, Executed, Installed, Sent, Accepted}
use Rattle.space.specs.Applying.{Contents, no_tuples, is_read_only, outcome}
use Rattle.protocol.specs.Replica.State.{opening, tuples}
use Rattle.protocol.specs.Client.RightClient.{OpenCall, open_call, Vote, newest_vote}
use Rattle.protocol.specs.Laws.Histories.{ExecutesBatch}
use Rattle.protocol.specs.Space.Linear.{Placing, first_position, is_level, ordered_points, invoked_at, read_point, read_points, Invokes, Accepts}
use Rattle.std.specs.Bool.{then_some}
use Rattle.quorum.specs.Votes.{or_else}
use Rattle.protocol.proofs.Words.Modes.{same_mode-true}
use Rattle.protocol.proofs.Words.Temporal.{once_weaker}
use Rattle.protocol.proofs.Words.Options.{some_injective, and_then_some, then_some_gives}
use Rattle.protocol.proofs.Agreement.States.{once_append}
use Rattle.protocol.proofs.Points.Levels.{level_stays}
use Rattle.protocol.proofs.Points.Running.{Run, run_earlier, state_by, level_executed, executed_greatest}
use Rattle.protocol.proofs.Points.Sorting.{AllOf, all_weaker, Stands, IsReadAt, tuples_at}
use Rattle.protocol.proofs.Points.Ran.{place_lower, tuples_by}
use Rattle.protocol.proofs.Points.Keeping.{IsRanPoint, ran_point, Differ, AllDiffer}
use Rattle.protocol.proofs.Points.Invoking.{once_within, opened_invoked, invoked_in_trace, one_invocation}
use Rattle.protocol.proofs.Points.Accepting.{Accepting, accepting, accepted_once, accepted_level, accepted_place, read_before, embedded, replied, read_replied, ordered_replied, voted, Answers}
use Rattle.protocol.specs.Space.Linear.{last_executed}
use Rattle.tuple_codec.specs.Operations.{Outcome, Operation}
use Rattle.protocol.specs.Space.Linear.{invoke_past}
use Rattle.protocol.proofs.Words.Elements.{has_right}

abbrev pub read_of : Configuration → List Entry → ℕ → OpenCall → Outcome → List Entry → Vote → Placing
read_of c trace p call a past vote = record {
  item = record {
    client = p;
    timestamp = call.timestamp;
    op = call.op;
    answer = a;
    position = max (invoked_at p past) (option_map_or (λ x. x) (first_position c trace vote.number) 0);
  };
  number = vote.number;
  mode = modes.ReadOnly;
}

-- the point is that of the read accepted at the entry
abbrev pub MadeAt : Configuration → List Entry → Placing → List Entry → Entry → Type 0
MadeAt c trace y past (Accepted cl t a) =
    (call : OpenCall) × (vote : Vote) × (open_call (history_of (256 + cl) past) ≡ Some call) × (newest_vote c (256 + cl) (history_of (256 + cl) past) t ≡ Some vote)
    × (vote.mode ≡ modes.ReadOnly) × (read_of c trace (256 + cl) call a past vote ≡ y)
MadeAt c trace y past _ = ⊥

abbrev made_option : Configuration → List Entry → ℕ → ℕ → Outcome → List Entry → Option Placing
made_option c trace p t a past = option_and_then (λ call. option_and_then (read_point c trace p call a past) (newest_vote c p (history_of p past) t)) (open_call (history_of p past))

made_here : (c : Configuration) (trace : List Entry) (y : Placing) (past : List Entry) (cl t : ℕ) (a : Outcome) → made_option c trace (256 + cl) t a past ≡ Some y → MadeAt c trace y past (Accepted cl t a)
made_here c trace y past cl t a h =
    let r = and_then_some (λ (call : OpenCall). option_and_then (read_point c trace (256 + cl) call a past) (newest_vote c (256 + cl) (history_of (256 + cl) past) t)) (open_call (history_of (256 + cl) past)) y h in
    let q = and_then_some (read_point c trace (256 + cl) r.0 a past) (newest_vote c (256 + cl) (history_of (256 + cl) past) t) y r.2 in
    let g = then_some_gives (same_mode q.0.mode modes.ReadOnly) (read_of c trace (256 + cl) r.0 a past q.0) y q.2 in
    (r.0, q.0, r.1, q.1, same_mode-true q.0.mode modes.ReadOnly g.0, g.1)

here_made : (c : Configuration) (trace : List Entry) (y : Placing) (past : List Entry) (cl t : ℕ) (a : Outcome) → MadeAt c trace y past (Accepted cl t a) → made_option c trace (256 + cl) t a past ≡ Some y
here_made c trace y past cl t a m =
    ap (option_and_then (λ (call : OpenCall). option_and_then (read_point c trace (256 + cl) call a past) (newest_vote c (256 + cl) (history_of (256 + cl) past) t))) m.2
    ∙ ap (option_and_then (read_point c trace (256 + cl) m.0 a past)) m.3
    ∙ ap (λ (mode : Mode). then_some (same_mode mode modes.ReadOnly) (read_of c trace (256 + cl) m.0 a past m.1)) m.4
    ∙ ap Some m.5

-- each read's point comes from an acceptance
pub reads_made : (c : Configuration) (trace xs : List Entry) → AllOf (λ y. Once (MadeAt c trace y) xs) (read_points c trace xs)
reads_made c trace [] = tt
reads_made c trace (Accepted cl t a ∷ past) = go (made_option c trace (256 + cl) t a past) refl (all_weaker (λ y. Once (MadeAt c trace y) past) (λ y. Once (MadeAt c trace y) (Accepted cl t a ∷ past)) (λ y h. inr h) (read_points c trace past) (reads_made c trace past))
  where
    go : (o : Option Placing) → made_option c trace (256 + cl) t a past ≡ o → AllOf (λ y. Once (MadeAt c trace y) (Accepted cl t a ∷ past)) (read_points c trace past)
        → AllOf (λ y. Once (MadeAt c trace y) (Accepted cl t a ∷ past)) (option_map_or (λ point. point ∷ []) o [] ++ read_points c trace past)
    go None is rest = rest
    go (Some y) is rest = (inl (made_here c trace y past cl t a is), rest)
reads_made c trace (Invoke x y z ∷ past) = all_weaker (λ y. Once (MadeAt c trace y) past) (λ w. Once (MadeAt c trace w) (Invoke x y z ∷ past)) (λ y h. inr h) (read_points c trace past) (reads_made c trace past)
reads_made c trace (Got x y ∷ past) = all_weaker (λ y. Once (MadeAt c trace y) past) (λ w. Once (MadeAt c trace w) (Got x y ∷ past)) (λ y h. inr h) (read_points c trace past) (reads_made c trace past)
reads_made c trace (Tick x ∷ past) = all_weaker (λ y. Once (MadeAt c trace y) past) (λ w. Once (MadeAt c trace w) (Tick x ∷ past)) (λ y h. inr h) (read_points c trace past) (reads_made c trace past)
reads_made c trace (Sent x y ∷ past) = all_weaker (λ y. Once (MadeAt c trace y) past) (λ w. Once (MadeAt c trace w) (Sent x y ∷ past)) (λ y h. inr h) (read_points c trace past) (reads_made c trace past)
reads_made c trace (Executed x y z ∷ past) = all_weaker (λ y. Once (MadeAt c trace y) past) (λ w. Once (MadeAt c trace w) (Executed x y z ∷ past)) (λ y h. inr h) (read_points c trace past) (reads_made c trace past)
reads_made c trace (Installed x y z ∷ past) = all_weaker (λ y. Once (MadeAt c trace y) past) (λ w. Once (MadeAt c trace w) (Installed x y z ∷ past)) (λ y h. inr h) (read_points c trace past) (reads_made c trace past)

-- and each acceptance of a read has its point
pub made_read : (c : Configuration) (trace : List Entry) (y : Placing) (xs : List Entry) → Once (MadeAt c trace y) xs → Has (λ z. z ≡ y) (read_points c trace xs)
made_read c trace y [] h = h
made_read c trace y (Accepted cl t a ∷ past) (inr h) = has_right (λ z. z ≡ y) _ _ (made_read c trace y past h)
made_read c trace y (Accepted cl t a ∷ past) (inl h) = rw (here_made c trace y past cl t a h) (inl refl)
made_read c trace y (_ ∷ past) (inl h) = absurd h
made_read c trace y (_ ∷ past) (inr h) = made_read c trace y past h

-- ---- modes of acceptances

abbrev pub ModeAt : Configuration → Mode → ℕ → ℕ → List Entry → Entry → Type 0
ModeAt c mode p t past (Accepted cl time a) =
    (256 + cl ≡ p) × (time ≡ t) × ((vote : Vote) × (newest_vote c (256 + cl) (history_of (256 + cl) past) time ≡ Some vote) × (vote.mode ≡ mode))
ModeAt c mode p t past _ = ⊥

mode_accepts : (c : Configuration) (mode : Mode) (p t : ℕ) (xs : List Entry) → Once (ModeAt c mode p t) xs → (a : Outcome) × Once (Accepts p t a) xs
mode_accepts c mode p t [] h = absurd h
mode_accepts c mode p t (e ∷ past) (inr h) = let r = mode_accepts c mode p t past h in (r.0, inr r.1)
mode_accepts c mode p t (Accepted x y z ∷ past) (inl h) = (z, inl (h.0, h.1, refl))
mode_accepts c mode p t (_ ∷ past) (inl h) = absurd h

not_again : (c : Configuration) (mode other : Mode) (p t : ℕ) (past : List Entry) (e : Entry) → Run c (e ∷ past) → ModeAt c mode p t past e → Once (ModeAt c other p t) past → ⊥
not_again c mode other p t past (Accepted x y z) run h k =
    let r = mode_accepts c other p t past k in
    accepted_once c past (256 + x) y z r.0 (accepting c past x y z run)
    (subst (λ (i : ℕ). Once (Accepts i y r.0) past) (sym h.0) (subst (λ (i : ℕ). Once (Accepts p i r.0) past) (sym h.1) r.1))
not_again c mode other p t past (Invoke x y z) run h k = h
not_again c mode other p t past _ run h k = h

both_modes : (c : Configuration) (p t : ℕ) (past : List Entry) (e : Entry) → ModeAt c modes.ReadOnly p t past e → ModeAt c modes.Ordered p t past e → ⊥
both_modes c p t past (Accepted x y z) h k =
    let same : h.2.0 ≡ k.2.0 = some_injective h.2.0 k.2.0 (sym h.2.1 ∙ k.2.1) in
    let bad : modes.ReadOnly ≡ modes.Ordered = sym h.2.2 ∙ ap (λ (v : Vote). v.mode) same ∙ k.2.2 in absurd cc
both_modes c p t past (Invoke x y z) h k = h
both_modes c p t past _ h k = h

pub one_mode : (c : Configuration) (p t : ℕ) (xs : List Entry) → Run c xs → Once (ModeAt c modes.ReadOnly p t) xs → Once (ModeAt c modes.Ordered p t) xs → ⊥
one_mode c p t [] run h k = h
one_mode c p t (e ∷ past) run (inl h) (inl k) = both_modes c p t past e h k
one_mode c p t (e ∷ past) run (inl h) (inr k) = not_again c modes.ReadOnly modes.Ordered p t past e run h k
one_mode c p t (e ∷ past) run (inr h) (inl k) = not_again c modes.Ordered modes.ReadOnly p t past e run k h
one_mode c p t (e ∷ past) run (inr h) (inr k) = one_mode c p t past (run_earlier c e past run) h k

mode_made : (c : Configuration) (trace : List Entry) (y : Placing) (past : List Entry) (e : Entry) → Run c (e ∷ past) → MadeAt c trace y past e → ModeAt c modes.ReadOnly y.item.client y.item.timestamp past e
mode_made c trace y past (Accepted cl t a) run m =
    let x = accepting c past cl t a run in
    let call : x.call ≡ m.0 = some_injective x.call m.0 (sym x.opened ∙ m.2) in
    let time : t ≡ y.item.timestamp = sym x.time ∙ ap (λ (o : OpenCall). o.timestamp) call ∙ ap (λ (z : Placing). z.item.timestamp) m.5 in
    (ap (λ (z : Placing). z.item.client) m.5, time, (m.1, m.3, m.4))
mode_made c trace y past (Invoke x z w) run m = absurd m
mode_made c trace y past _ run m = absurd m

pub made_mode : (c : Configuration) (trace : List Entry) (y : Placing) (xs : List Entry) → Run c xs → Once (MadeAt c trace y) xs → Once (ModeAt c modes.ReadOnly y.item.client y.item.timestamp) xs
made_mode c trace y [] run h = h
made_mode c trace y (e ∷ past) run (inl h) = inl (mode_made c trace y past e run h)
made_mode c trace y (e ∷ past) run (inr h) = inr (made_mode c trace y past (run_earlier c e past run) h)

-- no read is there twice
pub reads_differ : (c : Configuration) (trace xs : List Entry) → Run c xs → AllDiffer (read_points c trace xs)
reads_differ c trace [] run = tt
reads_differ c trace (Accepted cl t a ∷ past) run = go (made_option c trace (256 + cl) t a past) refl (reads_differ c trace past (run_earlier c (Accepted cl t a) past run))
  where
    go : (o : Option Placing) → made_option c trace (256 + cl) t a past ≡ o → AllDiffer (read_points c trace past) → AllDiffer (option_map_or (λ point. point ∷ []) o [] ++ read_points c trace past)
    go None is rest = rest
    go (Some y) is rest = (
      all_weaker (λ z. Once (MadeAt c trace z) past) (Differ y) (λ z h same time.
          let k = mode_made c trace y past (Accepted cl t a) run (made_here c trace y past cl t a is) in
          let early = made_mode c trace z past (run_earlier c (Accepted cl t a) past run) h in
          let moved : Once (ModeAt c modes.ReadOnly y.item.client y.item.timestamp) past = subst (λ (i : ℕ). Once (ModeAt c modes.ReadOnly i y.item.timestamp) past) (sym same) (subst (λ (i : ℕ). Once (ModeAt c modes.ReadOnly z.item.client i) past) (sym time) early) in
          not_again c modes.ReadOnly modes.ReadOnly y.item.client y.item.timestamp past (Accepted cl t a) run k moved)
          (read_points c trace past) (reads_made c trace past),
      rest,
    )
reads_differ c trace (Invoke x y z ∷ past) run = reads_differ c trace past (run_earlier c (Invoke x y z) past run)
reads_differ c trace (Got x y ∷ past) run = reads_differ c trace past (run_earlier c (Got x y) past run)
reads_differ c trace (Tick x ∷ past) run = reads_differ c trace past (run_earlier c (Tick x) past run)
reads_differ c trace (Sent x y ∷ past) run = reads_differ c trace past (run_earlier c (Sent x y) past run)
reads_differ c trace (Executed x y z ∷ past) run = reads_differ c trace past (run_earlier c (Executed x y z) past run)
reads_differ c trace (Installed x y z ∷ past) run = reads_differ c trace past (run_earlier c (Installed x y z) past run)

-- ---- where a read stands

level_at : (c : Configuration) (xs : List Entry) (k q : ℕ) → first_position c xs k ≡ Some q → is_level c xs k ≡ true
level_at c [] k q h = absurd cc
level_at c (e ∷ past) k q h = go (first_position c past k) refl (is_level c (e ∷ past) k) refl h (level_at c past k)
  where
    go : (o : Option ℕ) → first_position c past k ≡ o → (b : Bool) → is_level c (e ∷ past) k ≡ b → or_else o (then_some b (length past)) ≡ Some q → ((q : ℕ) → first_position c past k ≡ Some q → is_level c past k ≡ true) → is_level c (e ∷ past) k ≡ true
    go (Some x) is b eb h below = level_stays c e past k (below x is)
    go None is true eb h below = eb
    go None is false eb h below = absurd cc

length_behind : (later xs : List Entry) → length xs ≤ length (later ++ xs)
length_behind [] xs = omega arith
length_behind (e ∷ later) xs = let l = length_behind later xs in omega arith

level_behind : (c : Configuration) (later xs : List Entry) (k q : ℕ) → first_position c (later ++ xs) k ≡ Some q → q < length xs → is_level c xs k ≡ true
level_behind c [] xs k q h l = level_at c xs k q h
level_behind c (e ∷ later) xs k q h l = go (first_position c (later ++ xs) k) refl (is_level c (e ∷ later ++ xs) k) h (level_behind c later xs k q)
  where
    go : (o : Option ℕ) → first_position c (later ++ xs) k ≡ o → (b : Bool) → or_else o (then_some b (length (later ++ xs))) ≡ Some q → (first_position c (later ++ xs) k ≡ Some q → q < length xs → is_level c xs k ≡ true) → is_level c xs k ≡ true
    go (Some x) is b h below = below (is ∙ h) l
    go None is true h below = let e : length (later ++ xs) ≡ q = some_injective (length (later ++ xs)) q h in let m = length_behind later xs in absurd (omega arith)
    go None is false h below = absurd cc

-- the past of the latest invocation is a beginning
invoke_behind : (p : ℕ) (xs : List Entry) → (later : List Entry) × (xs ≡ later ++ invoke_past p xs)
invoke_behind p [] = ([], refl)
invoke_behind p (Invoke client t op ∷ past) = go (256 + client == p) (invoke_behind p past)
  where
    go : (b : Bool) → (later : List Entry) × (past ≡ later ++ invoke_past p past) → (later : List Entry) × (Invoke client t op ∷ past ≡ later ++ cond b past (invoke_past p past))
    go true r = (Invoke client t op ∷ [], refl)
    go false r = (Invoke client t op ∷ r.0, ap (λ t'. Invoke client t op ∷ t') r.1)
invoke_behind p (Got x y ∷ past) = let r = invoke_behind p past in (Got x y ∷ r.0, ap (λ t. Got x y ∷ t) r.1)
invoke_behind p (Tick x ∷ past) = let r = invoke_behind p past in (Tick x ∷ r.0, ap (λ t. Tick x ∷ t) r.1)
invoke_behind p (Sent x y ∷ past) = let r = invoke_behind p past in (Sent x y ∷ r.0, ap (λ t. Sent x y ∷ t) r.1)
invoke_behind p (Executed x y z ∷ past) = let r = invoke_behind p past in (Executed x y z ∷ r.0, ap (λ t. Executed x y z ∷ t) r.1)
invoke_behind p (Installed x y z ∷ past) = let r = invoke_behind p past in (Installed x y z ∷ r.0, ap (λ t. Installed x y z ∷ t) r.1)
invoke_behind p (Accepted x y z ∷ past) = let r = invoke_behind p past in (Accepted x y z ∷ r.0, ap (λ t. Accepted x y z ∷ t) r.1)

invoked_within : (p : ℕ) (xs : List Entry) → invoked_at p xs ≤ length xs
invoked_within p xs = let r = invoke_behind p xs in let l = length_behind r.0 (invoke_past p xs) in let e = ap length r.1 in omega arith

-- each invocation stands at or before the latest
invoked_by : (p t : ℕ) (op : Operation) (xs : List Entry) → Once (Invokes p t op) xs → Once (λ past e. Invokes p t op past e × (length past ≤ invoked_at p xs)) xs
invoked_by p t op [] h = h
invoked_by p t op (Invoke client time o ∷ past) (inl h) = inl (h, rw (eq-eqb (256 + client) p h.0) (omega arith))
invoked_by p t op (Invoke client time o ∷ past) (inr h) = inr (go (256 + client == p) (invoked_by p t op past h) (once_within (Invokes p t op) past h))
  where
    go : (b : Bool) → Once (λ past' e. Invokes p t op past' e × (length past' ≤ invoked_at p past)) past → Once (λ past' e. Invokes p t op past' e × (length past' < length past)) past
        → Once (λ past' e. Invokes p t op past' e × (length past' ≤ length (cond b past (invoke_past p past)))) past
    go true below near = once_weaker (λ past' e. Invokes p t op past' e × (length past' < length past)) (λ past' e. Invokes p t op past' e × (length past' ≤ length past)) (λ past' e u. (u.0, let l = u.1 in omega arith)) past near
    go false below near = below
invoked_by p t op (_ ∷ past) (inl h) = absurd h
invoked_by p t op (_ ∷ past) (inr h) = inr (invoked_by p t op past h)

-- ---- an acceptance in a run

abbrev pub all_ordered : Configuration → List Entry → List Placing
all_ordered c trace = ordered_points c trace opening 1 (last_executed trace)

pub record ReadFacts (c : Configuration) (trace : List Entry) (y : Placing) : Type 0 where
  pub stands : Stands (first_position c trace) y
  pub client : is_correct_client c y.item.client ≡ true
  pub invoked : Once (λ past e. Invokes y.item.client y.item.timestamp y.item.op past e × (length past ≤ y.item.position)) trace
  pub right : IsReadAt (tuples_at y.number no_tuples (all_ordered c trace)) y.item

module _ (c : Configuration) (trace : List Entry) (run : Run c trace) (later past : List Entry) (e : Entry) (is : trace ≡ later ++ e ∷ past) (p t : ℕ) (a : Outcome) (x : Accepting c past p t a) where
  place : (q : ℕ) × (first_position c trace x.vote.number ≡ Some q) × (q < length past)
  place = accepted_place c trace later past e p t a is x

  at_most : x.vote.number ≤ last_executed trace
  at_most = go x.vote.number refl
    where
      go : (n : ℕ) → x.vote.number ≡ n → n ≤ last_executed trace
      go zero eq = omega arith
      go (suc n) eq =
          let one : 1 ≤ suc n = omega arith in
          let l : suc n ≤ x.vote.number = omega arith in
          let b = level_executed c past x.vote.number x.run (accepted_level c past p t a x) (suc n) one l in
          executed_greatest c (suc n) b.0 trace (subst (λ (ys : List Entry). Once (ExecutesBatch c (suc n) b.0) ys) (sym is) (once_append (ExecutesBatch c (suc n) b.0) later (e ∷ past) (inr b.1)))

  call_invoked : Once (Invokes p x.call.timestamp x.call.op) past
  call_invoked = invoked_in_trace p x.call.timestamp x.call.op past (opened_invoked c p x.call (history_of p past) (x.run.runs.clients p x.client) x.opened)

  invoked_place : (k q : ℕ) → x.vote.mode ≡ modes.ReadOnly → x.vote.number < k → first_position c trace k ≡ Some q → invoked_at p past ≤ q
  invoked_place k q in_mode l h = go (cases_order (invoked_at p past) q)
    where
      go : (invoked_at p past ≡ q) ⊎ ((invoked_at p past < q) ⊎ (q < invoked_at p past)) → invoked_at p past ≤ q
      go (inl m) = omega arith
      go (inr (inl m)) = omega arith
      go (inr (inr m)) =
          let r = invoke_behind p past in
          let shape : trace ≡ (later ++ e ∷ r.0) ++ invoke_past p past =
          is ∙ ap (λ (ys : List Entry). later ++ e ∷ ys) r.1 ∙ sym (append_assoc later (e ∷ r.0) (invoke_past p past)) in
          let near : q < length (invoke_past p past) = omega arith in
          let up : is_level c (invoke_past p past) k ≡ true = level_behind c (later ++ e ∷ r.0) (invoke_past p past) k q (subst (λ (ys : List Entry). first_position c ys k ≡ Some q) shape h) near in
          absurd (read_before c past p t a x in_mode k l up)

  pub read_bound : (read_of c trace p x.call a past x.vote).item.position ≤ length past
  read_bound =
      let q = place in
      let at : option_map_or (λ x. x) (first_position c trace x.vote.number) 0 ≡ q.0 = ap (λ (o : Option ℕ). option_map_or (λ x. x) o 0) q.1 in
      let i = invoked_within p past in
      let l = q.2 in
      omega arith

  pub read_facts : x.vote.mode ≡ modes.ReadOnly → ReadFacts c trace (read_of c trace p x.call a past x.vote)
  read_facts in_mode =
      let q = place in
      let at : option_map_or (λ x. x) (first_position c trace x.vote.number) 0 ≡ q.0 = ap (λ (o : Option ℕ). option_map_or (λ x. x) o 0) q.1 in
      let v = voted c past p t a x in
      let there = embedded _ v.replica trace later past e is v.says in
      let r = replied c trace v.replica p t x.vote.mode x.vote.number x.vote.answer run v.is_correct there in
      let reply = read_replied c trace v.replica p t x.vote.number x.vote.answer run v.is_correct x.client (subst (λ (mode : Mode). Accepting.Replied c trace v.replica p t mode x.vote.number x.vote.answer) in_mode r) in
      let own : Once (Invokes p t x.call.op) (history_of p trace) =
      embedded (Invokes p t x.call.op) p trace later past e is (subst (λ (i : ℕ). Once (Invokes p i x.call.op) (history_of p past)) x.time (opened_invoked c p x.call (history_of p past) (x.run.runs.clients p x.client) x.opened)) in
      let same : reply.op ≡ x.call.op = one_invocation c p t reply.op x.call.op (history_of p trace) (run.runs.clients p x.client) reply.invoked own in
      let number : x.vote.number ≡ opening.number + x.vote.number = omega arith in
      let state : tuples_at x.vote.number no_tuples (all_ordered c trace) ≡ tuples (state_by c trace opening 1 x.vote.number) =
      tuples_by c trace opening 1 (last_executed trace) x.vote.number x.vote.number refl number at_most (λ j l m. let u = place_lower c trace j x.vote.number q.0 m q.1 in (u.0, u.1)) in
      record {
        stands = record {
          at = q.0;
          is_at = q.1;
          after = omega arith;
          before = λ k w l h.
              let m : x.vote.number ≤ k = omega arith in
              let u = place_lower c trace x.vote.number k w m h in
              let eq : q.0 ≡ u.0 = some_injective q.0 u.0 (sym q.1 ∙ u.1) in
              let b = u.2 in
              let i = invoked_place k w in_mode l h in
              omega arith;
        };
        client = x.client;
        invoked =
            let by = invoked_by p x.call.timestamp x.call.op past call_invoked in
            let near : Once (λ past' e'. Invokes p x.call.timestamp x.call.op past' e' × (length past' ≤ (read_of c trace p x.call a past x.vote).item.position)) past =
            once_weaker (λ past' e'. Invokes p x.call.timestamp x.call.op past' e' × (length past' ≤ invoked_at p past))
            (λ past' e'. Invokes p x.call.timestamp x.call.op past' e' × (length past' ≤ (read_of c trace p x.call a past x.vote).item.position)) (λ past' e' u. (u.0, let l = u.1 in omega arith)) past by in
            subst (λ (ys : List Entry). Once (λ past' e'. Invokes p x.call.timestamp x.call.op past' e' × (length past' ≤ (read_of c trace p x.call a past x.vote).item.position)) ys) (sym is)
            (once_append (λ past' e'. Invokes p x.call.timestamp x.call.op past' e' × (length past' ≤ (read_of c trace p x.call a past x.vote).item.position)) later (e ∷ past) (inr near));
        right = record {
          is_read = subst (λ (o : Operation). is_read_only o ≡ true) same reply.is_read;
          answer = sym x.answer ∙ reply.answer_is ∙ ap (λ (ts : Contents). outcome ts (p - 256) reply.op) (sym state) ∙ ap (outcome (tuples_at x.vote.number no_tuples (all_ordered c trace)) (p - 256)) same;
        };
      }

  -- an ordered call's request ran
  pub ordered_has : x.vote.mode ≡ modes.Ordered → Has (IsRanPoint c trace (Answers p t x.vote.number x.vote.answer)) (all_ordered c trace)
  ordered_has in_mode =
      let q = place in
      let v = voted c past p t a x in
      let there = embedded _ v.replica trace later past e is v.says in
      let r = replied c trace v.replica p t x.vote.mode x.vote.number x.vote.answer run v.is_correct there in
      let ran = ordered_replied c trace v.replica p t x.vote.number x.vote.answer run v.is_correct x.client (subst (λ (mode : Mode). Accepting.Replied c trace v.replica p t mode x.vote.number x.vote.answer) in_mode r) in
      let self : last_executed trace ≤ last_executed trace = omega arith in
      ran_point c trace opening 1 (last_executed trace) (last_executed trace) (Answers p t x.vote.number x.vote.answer)
      (λ j y u. (q.0, subst (λ (i : ℕ). first_position c trace i ≡ Some q.0) u.3 q.1)) self ran
