-- The parties that have stopped, as the program finds them; and that no others have.
use Rattle.std.proofs.Common.{◌≡◌, ℕ, zero, suc, ◌+◌, ◌-◌, ◌<◌, ◌≤◌, ◌⊎◌, inl, inr, Bool, true, false, cond, ◌||◌, List, [], ◌∷◌, ◌++◌, length, get_or, Option, Some, None, refl, sym, ap, ◌∙◌, subst, arith, append_assoc, eq-eqb, lt-ltb}
use Rattle.std.specs.Prelude.{filter, slice_get, ◌==◌, nat_lt, AllPairs}
use Rattle.std.specs.List.{range_with_len}
use Rattle.std.specs.Option.{option_map_or}
use Rattle.std.proofs.lemmas.Bool.{and_from, and_parts, cases_lt, or_left, or_right}
use Rattle.std.proofs.lemmas.List.{get_or_default}
use Rattle.std.proofs.lemmas.Option.{slice_get_read, get_or_from_slice_get}
use Rattle.quorum.specs.Quorum.{member}
use Rattle.wire_format.specs.Lists.{Each, ascends, leads}
use Rattle.protocol.specs.System.Configuration.{Configuration, IsConfiguration, replicas, is_correct, is_correct_replica, is_correct_client}
use Rattle.protocol.specs.System.Trace.{history_of}
use Rattle.protocol.specs.System.Schedule.{World}
use Rattle.protocol.specs.System.Run.{GaveNothingLast, OnlyTheseStopped}
use Rattle.protocol.specs.Client.RightClient.{IsPromptClient}
use Rattle.protocol.specs.Replica.Owed.{IsPromptReplica}
use Rattle.protocol.proofs.Words.Elements.{each_append}
use Rattle.replica.specs.State.{ReplicaData, has_stopped}
use Rattle.replica.proofs.Prompt.{replicas_are_prompt}
use Rattle.schedule_world.specs.declared.stage.StageClient.{StageClient}
use Rattle.schedule_world.specs.declared.stage.Stage.{Stage}
use Rattle.schedule_world.specs.Stages.{PartiesArePlaced, StageIsAt}
use Rattle.schedule_world.specs.Stopped.{is_stopped_replica, is_stopped_client, stopped_replicas, stopped_clients, stopped_parties}
use Rattle.schedule_world.proofs.Attending.{replica_below}
use Rattle.schedule_world.proofs.Meant.{pairs_from}
use Rattle.schedule_world.proofs.Standing.{client_within, client_below, client_of}
use Rattle.schedule_world.proofs.Taking.{one_of_them}

-- ---- one after another

first_case : (b : Bool) (x : ℕ) (xs : List ℕ) → cond b (x ∷ xs) xs ≡ cond b (x ∷ []) [] ++ xs
first_case true x xs = refl
first_case false x xs = refl

filter_first : (t : ℕ → Bool) (x : ℕ) (rest : List ℕ) → filter t (x ∷ rest) ≡ filter t (x ∷ []) ++ filter t rest
filter_first t x rest = first_case (t x) x (filter t rest)

one_more : (t : ℕ → Bool) (x : ℕ) (rest old more whole : List ℕ) → more ≡ old ++ filter t (x ∷ [])
    → old ++ filter t (x ∷ rest) ≡ whole → more ++ filter t rest ≡ whole
one_more t x rest old more whole e w =
    ap (λ xs. xs ++ filter t rest) e ∙ append_assoc old (filter t (x ∷ [])) (filter t rest)
    ∙ ap (λ xs. old ++ xs) (sym (filter_first t x rest)) ∙ w

range_more : (a n end : ℕ) → n < end → range_with_len (a + n) (end - n) ≡ (a + n) ∷ range_with_len (a + (n + 1)) (end - (n + 1))
range_more a n end h =
    let e : end - n ≡ suc (end - (n + 1)) = omega (arith, h) in
    let s : (a + n) + 1 ≡ a + (n + 1) = omega arith in
    ap (range_with_len (a + n)) e ∙ ap (λ m. (a + n) ∷ range_with_len m (end - (n + 1))) s

-- the loop at the number n of those from a on
pub number_added : (t : ℕ → Bool) (a n end : ℕ) (old more whole : List ℕ) → n < end → more ≡ old ++ filter t ((a + n) ∷ [])
    → old ++ filter t (range_with_len (a + n) (end - n)) ≡ whole → more ++ filter t (range_with_len (a + (n + 1)) (end - (n + 1))) ≡ whole
number_added t a n end old more whole h e w =
    one_more t (a + n) (range_with_len (a + (n + 1)) (end - (n + 1))) old more whole e
    (ap (λ xs. old ++ filter t xs) (sym (range_more a n end h)) ∙ w)

pub number_first : (t : ℕ → Bool) (a end : ℕ) (old : List ℕ) → old ++ filter t (range_with_len (a + 0) (end - 0)) ≡ old ++ filter t (range_with_len a end)
number_first t a end old =
    let e : a + 0 ≡ a = omega arith in
    let f : end - 0 ≡ end = omega arith in
    ap (λ x. old ++ filter t (range_with_len x (end - 0))) e ∙ ap (λ x. old ++ filter t (range_with_len a x)) f

-- ---- members

member_case : (b : Bool) (y : ℕ) (ys : List ℕ) (x : ℕ) → member ys x ≡ true → member (cond b (y ∷ ys) ys) x ≡ true
member_case true y ys x h = or_right (y == x) (member ys x) h
member_case false y ys x h = h

member_here : (b : Bool) (y : ℕ) (ys : List ℕ) → b ≡ true → member (cond b (y ∷ ys) ys) y ≡ true
member_here true y ys h = let e = eq-eqb y y refl in rw e refl
member_here false y ys h = absurd cc

member_range : (t : ℕ → Bool) (x a n : ℕ) → t x ≡ true → a ≤ x → x < a + n → member (filter t (range_with_len a n)) x ≡ true
member_range t x a zero h low high = absurd (omega (arith, low, high))
member_range t x a (suc n) h low high = go (cases_lt a x) (member_range t x (a + 1) n h)
  where
    go : (a < x) ⊎ (x ≤ a) → (a + 1 ≤ x → x < a + 1 + n → member (filter t (range_with_len (a + 1) n)) x ≡ true)
        → member (filter t (a ∷ range_with_len (a + 1) n)) x ≡ true
    go (inl l) later = member_case (t a) a (filter t (range_with_len (a + 1) n)) x (later (omega (arith, l)) (omega (arith, high)))
    go (inr l) later =
        let e : a ≡ x = omega (arith, low, l) in
        subst (λ y. member (filter t (a ∷ range_with_len (a + 1) n)) y ≡ true) e (member_here (t a) a (filter t (range_with_len (a + 1) n)) (ap t e ∙ h))

member_left : (xs ys : List ℕ) (x : ℕ) → member xs x ≡ true → member (xs ++ ys) x ≡ true
member_left [] ys x h = absurd cc
member_left (y ∷ xs) ys x h = go (y == x) h (member_left xs ys x)
  where
    go : (b : Bool) → (b || member xs x) ≡ true → (member xs x ≡ true → member (xs ++ ys) x ≡ true) → (b || member (xs ++ ys) x) ≡ true
    go true h rest = refl
    go false h rest = rest h

member_right : (xs ys : List ℕ) (x : ℕ) → member ys x ≡ true → member (xs ++ ys) x ≡ true
member_right [] ys x h = h
member_right (y ∷ xs) ys x h = or_right (y == x) (member (xs ++ ys) x) (member_right xs ys x h)

each_passes : (t : ℕ → Bool) (P : ℕ → Type 0) → ((x : ℕ) → t x ≡ true → P x) → (xs : List ℕ) → Each P (filter t xs)
each_passes t P f [] = tt
each_passes t P f (x ∷ xs) = go (t x) refl (each_passes t P f xs)
  where
    go : (b : Bool) → t x ≡ b → Each P (filter t xs) → Each P (cond b (x ∷ filter t xs) (filter t xs))
    go true is rest = (f x is, rest)
    go false is rest = rest

-- ---- the order

leads_range : (t : ℕ → Bool) (x a n : ℕ) → x < a → leads nat_lt x (filter t (range_with_len a n)) ≡ true
leads_range t x a zero low = refl
leads_range t x a (suc n) low = go (t a) (leads_range t x (a + 1) n (omega (arith, low)))
  where
    go : (b : Bool) → leads nat_lt x (filter t (range_with_len (a + 1) n)) ≡ true → leads nat_lt x (cond b (a ∷ filter t (range_with_len (a + 1) n)) (filter t (range_with_len (a + 1) n))) ≡ true
    go true rest = lt-ltb x a low
    go false rest = rest

ascends_range : (t : ℕ → Bool) (a n : ℕ) → ascends nat_lt (filter t (range_with_len a n)) ≡ true
ascends_range t a zero = refl
ascends_range t a (suc n) = go (t a) (ascends_range t (a + 1) n)
  where
    go : (b : Bool) → ascends nat_lt (filter t (range_with_len (a + 1) n)) ≡ true → ascends nat_lt (cond b (a ∷ filter t (range_with_len (a + 1) n)) (filter t (range_with_len (a + 1) n))) ≡ true
    go true rest =
        and_from (leads nat_lt a (filter t (range_with_len (a + 1) n))) (ascends nat_lt (filter t (range_with_len (a + 1) n)))
        (leads_range t a (a + 1) n (omega arith)) rest
    go false rest = rest

ascends_append : (xs ys : List ℕ) → ascends nat_lt xs ≡ true → ascends nat_lt ys ≡ true → Each (λ x. leads nat_lt x ys ≡ true) xs → ascends nat_lt (xs ++ ys) ≡ true
ascends_append [] ys up more below = more
ascends_append (x ∷ []) ys up more below = and_from (leads nat_lt x ys) (ascends nat_lt ys) below.0 more
ascends_append (x ∷ y ∷ xs) ys up more below =
    let parts = and_parts (nat_lt x y) (ascends nat_lt (y ∷ xs)) up in
    and_from (nat_lt x y) (ascends nat_lt (y ∷ xs ++ ys)) parts.0 (ascends_append (y ∷ xs) ys parts.1 more below.1)

pub parties_ascend : (c : Configuration) (s : Stage) → IsConfiguration c → AllPairs (λ p q. p < q) (stopped_parties c s)
parties_ascend c s valid =
    pairs_from (stopped_parties c s)
    (ascends_append (stopped_replicas c s) (stopped_clients c s) (ascends_range (is_stopped_replica c s.replicas.items) 0 (replicas c))
    (ascends_range (is_stopped_client c s.stage_clients.items) 256 c.clients)
    (each_passes (is_stopped_replica c s.replicas.items) _ low (range_with_len 0 (replicas c))))
  where
    low : (p : ℕ) → is_stopped_replica c s.replicas.items p ≡ true → leads nat_lt p (stopped_clients c s) ≡ true
    low p h =
        let below = replica_below c p (and_parts (is_correct_replica c p) (option_map_or has_stopped (slice_get s.replicas.items p) false) h).0 in
        let most = valid.most in
        leads_range (is_stopped_client c s.stage_clients.items) p 256 c.clients (omega (arith, below, most))

-- ---- the program's tests

-- the element of the list at the place, if the test passes there
read_place : {X : Type 0} (test : X → Bool) (xs : List X) (i : ℕ) → option_map_or test (slice_get xs i) false ≡ true
    → (x : X) × (slice_get xs i ≡ Some x) × (test x ≡ true)
read_place {X} test xs i h = go (slice_get xs i) refl h
  where
    go : (o : Option X) → slice_get xs i ≡ o → option_map_or test o false ≡ true → (x : X) × (slice_get xs i ≡ Some x) × (test x ≡ true)
    go None is h = absurd cc
    go (Some x) is h = (x, is, h)

pub at_place : {X : Type 0} (test : X → Bool) (xs : List X) (i : ℕ) (d : X) → i < length xs → option_map_or test (slice_get xs i) false ≡ test (get_or xs i d)
at_place test xs i d within =
    ap (λ o. option_map_or test o false) (slice_get_read xs (length xs) i (get_or xs i d) refl within (get_or_default xs i d (get_or xs i d) within))

-- ---- no others have stopped

module _ (c : Configuration) (s : Stage) (placed : PartiesArePlaced c s) (w : World) (st : StageIsAt c w s) where
  abbrev rs : List ReplicaData
  rs = s.replicas.items

  abbrev stage_clients : List StageClient
  stage_clients = s.stage_clients.items

  abbrev client_stopped : StageClient → Bool
  client_stopped stage_client = stage_client.client.stopped

  -- replicas

  replica_listed : (p : ℕ) (d : ReplicaData) → is_correct_replica c p ≡ true → p < length rs → has_stopped (get_or rs p d) ≡ true → member (stopped_parties c s) p ≡ true
  replica_listed p d h within stopped =
      let below = replica_below c p h in
      member_left (stopped_replicas c s) (stopped_clients c s) p
      (member_range (is_stopped_replica c rs) p 0 (replicas c)
      (and_from (is_correct_replica c p) (option_map_or has_stopped (slice_get rs p) false) h (at_place has_stopped rs p d within ∙ stopped))
      (omega arith) (omega (arith, below)))

  replica_prompt : (p : ℕ) → is_correct_replica c p ≡ true → member (stopped_parties c s) p ≡ false → IsPromptReplica c p (history_of p w.past)
  replica_prompt p h out =
      let below = replica_below c p h in
      let within : p < length rs = omega (arith, below, placed.replicas) in
      let d = one_of_them rs p within in
      subst (λ n. IsPromptReplica c n (history_of p w.past)) (placed.numbers p d within)
      (replicas_are_prompt c (get_or rs p d) (history_of p w.past) (st.attend.replicas p d h).0 (runs d within (has_stopped (get_or rs p d)) refl))
    where
      runs : (d : ReplicaData) → p < length rs → (b : Bool) → has_stopped (get_or rs p d) ≡ b → has_stopped (get_or rs p d) ≡ false
      runs d within true is = let bad : false ≡ true = sym out ∙ replica_listed p d h within is in absurd cc
      runs d within false is = is

  replica_silent : (p : ℕ) → is_stopped_replica c rs p ≡ true → (is_correct c p ≡ true) × GaveNothingLast (history_of p w.past)
  replica_silent p h =
      let parts = and_parts (is_correct_replica c p) (option_map_or has_stopped (slice_get rs p) false) h in
      let r = read_place has_stopped rs p parts.1 in (
        or_left (is_correct_replica c p) (is_correct_client c p) parts.0,
        (st.attend.replicas p r.0 parts.0).1 (ap has_stopped (get_or_from_slice_get rs p r.0 r.0 r.1) ∙ r.2),
      )

  -- clients

  less : (k : ℕ) → 256 + k - 256 ≡ k
  less k = omega arith

  client_listed : (k : ℕ) (d : StageClient) → is_correct_client c (256 + k) ≡ true → k < length stage_clients → client_stopped (get_or stage_clients k d) ≡ true → member (stopped_parties c s) (256 + k) ≡ true
  client_listed k d h within stopped =
      let below = client_below c k h in
      member_right (stopped_replicas c s) (stopped_clients c s) (256 + k)
      (member_range (is_stopped_client c stage_clients) (256 + k) 256 c.clients
      (and_from (is_correct_client c (256 + k)) (option_map_or client_stopped (slice_get stage_clients (256 + k - 256)) false) h
      (ap (λ i. option_map_or client_stopped (slice_get stage_clients i) false) (less k) ∙ at_place client_stopped stage_clients k d within ∙ stopped))
      (omega arith) (omega (arith, below)))

  client_prompt : (k : ℕ) → is_correct_client c (256 + k) ≡ true → member (stopped_parties c s) (256 + k) ≡ false → IsPromptClient c (256 + k) (history_of (256 + k) w.past)
  client_prompt k h out =
      let within = client_within c s k placed h in
      let d = one_of_them stage_clients k within in
      subst (λ n. IsPromptClient c (256 + n) (history_of (256 + k) w.past)) (placed.client_numbers k d within)
      ((st.attend.clients k d h).0.running (runs d within (client_stopped (get_or stage_clients k d)) refl)).gave
    where
      runs : (d : StageClient) → k < length stage_clients → (b : Bool) → client_stopped (get_or stage_clients k d) ≡ b → client_stopped (get_or stage_clients k d) ≡ false
      runs d within true is = let bad : false ≡ true = sym out ∙ client_listed k d h within is in absurd cc
      runs d within false is = is

  client_silent : (p : ℕ) → is_stopped_client c stage_clients p ≡ true → (is_correct c p ≡ true) × GaveNothingLast (history_of p w.past)
  client_silent p h =
      let parts = and_parts (is_correct_client c p) (option_map_or client_stopped (slice_get stage_clients (p - 256)) false) h in
      let k = client_of c p parts.0 in
      let at : p - 256 ≡ k.0 = ap (λ q. q - 256) k.1 ∙ less k.0 in
      let stage_client = read_place client_stopped stage_clients k.0 (ap (λ i. option_map_or client_stopped (slice_get stage_clients i) false) (sym at) ∙ parts.1) in (
        or_right (is_correct_replica c p) (is_correct_client c p) parts.0,
        subst (λ q. GaveNothingLast (history_of q w.past)) (sym k.1)
            ((st.attend.clients k.0 stage_client.0 k.2).2 (ap client_stopped (get_or_from_slice_get stage_clients k.0 stage_client.0 stage_client.0 stage_client.1) ∙ stage_client.2)),
      )

  pub only_these : OnlyTheseStopped c (stopped_parties c s) w.past
  only_these = record {
    replicas = replica_prompt;
    clients = λ p h out.
        let k = client_of c p h in
        subst (λ q. IsPromptClient c q (history_of q w.past)) (sym k.1)
        (client_prompt k.0 k.2 (ap (member (stopped_parties c s)) (sym k.1) ∙ out));
    silent = each_append (λ p. (is_correct c p ≡ true) × GaveNothingLast (history_of p w.past)) (stopped_replicas c s) (stopped_clients c s)
        (each_passes (is_stopped_replica c rs) _ replica_silent (range_with_len 0 (replicas c)))
        (each_passes (is_stopped_client c stage_clients) _ client_silent (range_with_len 256 c.clients));
  }
