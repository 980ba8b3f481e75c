-- The waiting requests, after a client's request replaces its older one.
use Rattle.std.proofs.Common.{◌≡◌, ◌≢◌, ℕ, zero, suc, ◌<◌, ◌≤◌, ◌⊎◌, inl, inr, Bool, true, false, cond, not, ◌&&◌, ◌||◌, ◌==◌, nat_lt, List, [], ◌∷◌, ◌++◌, filter, find, Some, refl, sym, ap, ◌∙◌, subst, arith, eqb-true}
use Rattle.std.specs.Prelude.{AllPairs}
use Rattle.std.specs.List.{list_all}
use Rattle.std.proofs.lemmas.Bool.{eqb-false, lt-ltb, le-ltb, and_left, and_right}
use Rattle.std.proofs.lemmas.List.{map-append}
use Rattle.std.proofs.lemmas.List.Kept.{AllPairs-cons, AllPairs-filter}
use Rattle.std.proofs.lemmas.Option.{same_Some}
use Rattle.tuple_codec.specs.Operations.{Operation}
use Rattle.wire_format.specs.Lists.{Each}
use Rattle.protocol.specs.System.Configuration.{Configuration}
use Rattle.protocol.specs.System.Trace.{Has}
use Rattle.protocol.specs.Replica.State.{State, Call, call_of, last_time}
use Rattle.protocol.specs.Replica.RightReplica.{is_newer}
use Rattle.protocol.specs.Replica.Owed.{IsNoOlder}
use Rattle.protocol.proofs.Words.Elements.{has_either, has_filter, has_map, has_mapped, each_filtered, each_has, each_mapped, each_weaker, each_where, each_with, all_of_each}
use Rattle.protocol.proofs.Words.Pairs.{all_of, each_of}
use Rattle.replica_histories.proofs.NumbersLists.{mapped_kept}
use Rattle.desk.specs.declared.waiting.WaitingRequest.{WaitingRequest}
use Rattle.desk.specs.Waiting.{is_of, texts}
use Rattle.desk.specs.DeskOf.{waiting_call, waiting_calls, SpellCalls, AreOfDifferentClients}

-- ---- lists

first_differs : {A : Type 0} (R : A → A → Type 0) (x : A) (xs : List A) → AllPairs R (x ∷ xs) → Each (R x) xs
first_differs R x xs h = each_of (R x) xs (λ k d within. h zero (suc k) d (omega arith) (omega arith))

rest_differs : {A : Type 0} (R : A → A → Type 0) (x : A) (xs : List A) → AllPairs R (x ∷ xs) → AllPairs R xs
rest_differs R x xs h i j d below within = h (suc i) (suc j) d (omega arith) (omega arith)

pairs_with : {A : Type 0} (R : A → A → Type 0) (xs : List A) (y : A) → AllPairs R xs → Each (λ x. R x y) xs → AllPairs R (xs ++ y ∷ [])
pairs_with R [] y h e = λ i j d below within. absurd (omega (arith, below, within))
pairs_with R (x ∷ xs) y h e =
    AllPairs-cons R x (xs ++ y ∷ []) (all_of (R x) (xs ++ y ∷ []) (each_with (R x) xs y (first_differs R x xs h) e.0)) (pairs_with R xs y (rest_differs R x xs h) e.1)

-- ---- requests of one client

abbrev Differ : WaitingRequest → WaitingRequest → Type 0
Differ r t = r.client.number ≢ t.client.number

-- the client's requests, if any, are older
abbrev pub AreOlder : ℕ → ℕ → List WaitingRequest → Type 0
AreOlder k t rs = Each (λ r. (r.client.number ≡ k) → r.timestamp.0 < t) rs

-- none is the client's
abbrev AreOfOthers : ℕ → List WaitingRequest → Type 0
AreOfOthers k rs = Each (λ r. r.client.number ≢ k) rs

others : (k : ℕ) (r : WaitingRequest) (rs : List WaitingRequest) → r.client.number ≡ k → Each (Differ r) rs → AreOfOthers k rs
others k r rs is h = each_weaker (Differ r) (λ x. x.client.number ≢ k) (λ x ne same. ne (is ∙ sym same)) rs h

pub older : (k t : ℕ) (rs : List WaitingRequest) → AreOfDifferentClients rs → ((r : WaitingRequest) → find (is_of k) rs ≡ Some r → r.timestamp.0 < t) → AreOlder k t rs
older k t [] d f = tt
older k t (x ∷ xs) d f = go (x.client.number == k) refl f (older k t xs (rest_differs Differ x xs d))
  where
    go : (b : Bool) → (x.client.number == k) ≡ b → ((r : WaitingRequest) → cond b (Some x) (find (is_of k) xs) ≡ Some r → r.timestamp.0 < t)
        → (((r : WaitingRequest) → find (is_of k) xs ≡ Some r → r.timestamp.0 < t) → AreOlder k t xs) → AreOlder k t (x ∷ xs)
    go true e g below = (
      λ same. g x refl,
      each_weaker (λ (r : WaitingRequest). r.client.number ≢ k) (λ r. (r.client.number ≡ k) → r.timestamp.0 < t) (λ r ne same. absurd (ne same)) xs
          (others k x xs (eqb-true x.client.number k e) (first_differs Differ x xs d)),
    )
    go false e g below = (λ same. absurd (eqb-false x.client.number k e same), below g)

-- ---- their calls

calls_of_others : (c : Configuration) (k : ℕ) (rs : List WaitingRequest) → AreOfOthers k rs → Each (λ x. x.client ≢ k) (waiting_calls c rs)
calls_of_others c k rs o = each_mapped (λ (x : Call). x.client ≢ k) (waiting_call c) rs o

calls_older : (c : Configuration) (k t : ℕ) (rs : List WaitingRequest) → AreOlder k t rs → Each (λ x. (x.client ≡ k) → x.timestamp < t) (waiting_calls c rs)
calls_older c k t rs o = each_mapped (λ (x : Call). (x.client ≡ k) → x.timestamp < t) (waiting_call c) rs o

-- of a client the found request's call alone waits
pub found_call : (c : Configuration) (k : ℕ) (rs : List WaitingRequest) (r : WaitingRequest) (call : Call) → AreOfDifferentClients rs → find (is_of k) rs ≡ Some r
    → Has (λ x. x ≡ call) (waiting_calls c rs) → call.client ≡ k → Has (λ x. x ≡ r) rs × (waiting_call c r ≡ call)
found_call c k [] r call d f has at = absurd has
found_call c k (y ∷ ys) r call d f has at = go (y.client.number == k) refl f has (λ g more. found_call c k ys r call (rest_differs Differ y ys d) g more at)
  where
    go : (b : Bool) → (y.client.number == k) ≡ b → cond b (Some y) (find (is_of k) ys) ≡ Some r → (waiting_call c y ≡ call) ⊎ Has (λ z. z ≡ call) (waiting_calls c ys)
        → (find (is_of k) ys ≡ Some r → Has (λ z. z ≡ call) (waiting_calls c ys) → Has (λ x. x ≡ r) ys × (waiting_call c r ≡ call)) → Has (λ x. x ≡ r) (y ∷ ys) × (waiting_call c r ≡ call)
    go true e g (inl same) rest = (inl (same_Some y r g), ap (waiting_call c) (sym (same_Some y r g)) ∙ same)
    go true e g (inr more) rest =
        absurd (each_has (λ (z : Call). z.client ≢ k) (waiting_calls c ys) call (calls_of_others c k ys (others k y ys (eqb-true y.client.number k e) (first_differs Differ y ys d))) more at)
    go false e g (inl same) rest = absurd (eqb-false y.client.number k e (ap (λ (z : Call). z.client) same ∙ at))
    go false e g (inr more) rest = let later = rest g more in (inr later.0, later.1)

-- and its frame spells it
pub found_spells : (c : Configuration) (k : ℕ) (rs : List WaitingRequest) (r : WaitingRequest) (call : Call) → SpellCalls c rs → AreOfDifferentClients rs → find (is_of k) rs ≡ Some r
    → Has (λ x. x ≡ call) (waiting_calls c rs) → call.client ≡ k → call_of c r.frame.items ≡ Some call
found_spells c k rs r call h d f has at =
    let found = found_call c k rs r call d f has at in
    each_has (λ (x : WaitingRequest). call_of c x.frame.items ≡ Some (waiting_call c x)) rs r h found.0 ∙ ap Some found.1

-- if all are older, none of the timestamp waits
pub none_waits : (c : Configuration) (k t : ℕ) (op : Operation) (rs : List WaitingRequest) → AreOlder k t rs → Has (λ x. x ≡ record { client = k; timestamp = t; op = op }) (waiting_calls c rs) → ⊥
none_waits c k t op rs o has =
    let less = each_has (λ (x : Call). (x.client ≡ k) → x.timestamp < t) (waiting_calls c rs) (record { client = k; timestamp = t; op = op }) (calls_older c k t rs o) has refl in
    omega (arith, less)

-- the call is another client's, or older, or this one
abbrev MayWait : ℕ → ℕ → Operation → Call → Type 0
MayWait k t op x = (x.client ≡ k) → (x.timestamp < t) ⊎ ((x.timestamp ≡ t) × (x.op ≡ op))

-- a request newer than the waiting ones is no older
pub no_older : (c : Configuration) (k t : ℕ) (op : Operation) (rs : List WaitingRequest) → AreOlder k t rs → IsNoOlder (waiting_calls c rs) k t op
no_older c k t op rs o =
    each_weaker (λ (x : Call). (x.client ≡ k) → x.timestamp < t) (MayWait k t op) (λ x f same. inl (f same)) (waiting_calls c rs) (calls_older c k t rs o)

-- and so is the one that waits
pub no_older_same : (c : Configuration) (k t : ℕ) (op : Operation) (rs : List WaitingRequest) (r : WaitingRequest) → SpellCalls c rs → AreOfDifferentClients rs
    → find (is_of k) rs ≡ Some r → call_of c r.frame.items ≡ Some (record { client = k; timestamp = t; op = op }) → IsNoOlder (waiting_calls c rs) k t op
no_older_same c k t op rs r h d f is = each_where (MayWait k t op) (waiting_calls c rs) (λ x has same.
    let one : x ≡ record { client = k; timestamp = t; op = op } = same_Some x _ (sym (found_spells c k rs r x h d f has same) ∙ is) in
    inr (ap (λ (z : Call). z.timestamp) one, ap (λ (z : Call). z.op) one))

-- ---- the waiting requests then

-- the request is newer than the other
abbrev beats : ℕ → ℕ → Operation → Call → Bool
beats k t op other = is_newer (record { client = k; timestamp = t; op = op }) other

-- a request waits that isn't older
not_newer : (c : Configuration) (k t : ℕ) (op : Operation) (rs : List WaitingRequest) (r : WaitingRequest) → find (is_of k) rs ≡ Some r → t ≤ r.timestamp.0
    → list_all (is_newer (record { client = k; timestamp = t; op = op })) (waiting_calls c rs) ≡ false
not_newer c k t op [] r f le = absurd cc
not_newer c k t op (y ∷ ys) r f le = go (y.client.number == k) refl f (λ g. not_newer c k t op ys r g le)
  where
    go : (b : Bool) → (y.client.number == k) ≡ b → cond b (Some y) (find (is_of k) ys) ≡ Some r → (find (is_of k) ys ≡ Some r → list_all (beats k t op) (waiting_calls c ys) ≡ false)
        → (beats k t op (waiting_call c y) && list_all (beats k t op) (waiting_calls c ys)) ≡ false
    go false e g below = and_right (beats k t op (waiting_call c y)) (list_all (beats k t op) (waiting_calls c ys)) (below g)
    go true e g below = and_left (beats k t op (waiting_call c y)) (list_all (beats k t op) (waiting_calls c ys))
        (ap (λ (b : Bool). not b || nat_lt y.timestamp.0 t) e ∙ le-ltb y.timestamp.0 t (subst (λ (z : WaitingRequest). t ≤ z.timestamp.0) (sym (same_Some y r g)) le))

-- it is newer than all waiting ones
all_newer : (k t : ℕ) (op : Operation) (calls : List Call) → Each (λ x. (x.client ≡ k) → x.timestamp < t) calls → list_all (is_newer (record { client = k; timestamp = t; op = op })) calls ≡ true
all_newer k t op calls h = all_of_each (λ (x : Call). (x.client ≡ k) → x.timestamp < t) (is_newer (record { client = k; timestamp = t; op = op })) (λ x f. one x f (x.client == k) refl) calls h
  where
    one : (x : Call) → (x.client ≡ k → x.timestamp < t) → (b : Bool) → (x.client == k) ≡ b → (not (x.client == k) || nat_lt x.timestamp t) ≡ true
    one x f true e = ap (λ (b : Bool). not b || nat_lt x.timestamp t) e ∙ lt-ltb x.timestamp t (f (eqb-true x.client k e))
    one x f false e = ap (λ (b : Bool). not b || nat_lt x.timestamp t) e

-- the call is newer than its client's last executed one, and than all waiting ones
abbrev pub is_latest : State → List Call → Call → Bool
is_latest st calls call = nat_lt (last_time st call.client) call.timestamp && list_all (is_newer call) calls

-- a call is not, if its timestamp isn't above its client's last executed one, or above a waiting one
pub seen_before : (st : State) (calls : List Call) (k t : ℕ) (op : Operation) → t ≤ last_time st k → is_latest st calls (record { client = k; timestamp = t; op = op }) ≡ false
seen_before st calls k t op le = and_left (nat_lt (last_time st k) t) (list_all (beats k t op) calls) (le-ltb (last_time st k) t le)

pub waits_before : (c : Configuration) (st : State) (k t : ℕ) (op : Operation) (rs : List WaitingRequest) (r : WaitingRequest) → find (is_of k) rs ≡ Some r
    → t ≤ r.timestamp.0 → is_latest st (waiting_calls c rs) (record { client = k; timestamp = t; op = op }) ≡ false
waits_before c st k t op rs r f le = and_right (nat_lt (last_time st k) t) (list_all (beats k t op) (waiting_calls c rs)) (not_newer c k t op rs r f le)

-- a call newer than both is
pub latest : (c : Configuration) (st : State) (k t : ℕ) (op : Operation) (rs : List WaitingRequest) → last_time st k < t → AreOlder k t rs
    → is_latest st (waiting_calls c rs) (record { client = k; timestamp = t; op = op }) ≡ true
latest c st k t op rs lt o =
    ap (λ (b : Bool). b && list_all (beats k t op) (waiting_calls c rs)) (lt-ltb (last_time st k) t lt) ∙ all_newer k t op (waiting_calls c rs) (calls_older c k t rs o)

-- ---- the requests then

pub calls_replaced : (c : Configuration) (k : ℕ) (rs : List WaitingRequest) (r : WaitingRequest)
    → waiting_calls c (filter (λ x. not (is_of k x)) rs ++ r ∷ []) ≡ filter (λ x. not (x.client == k)) (waiting_calls c rs) ++ waiting_call c r ∷ []
calls_replaced c k rs r =
    map-append (waiting_call c) (filter (λ x. not (is_of k x)) rs) (r ∷ [])
    ∙ ap (λ (calls : List Call). calls ++ waiting_call c r ∷ []) (mapped_kept (waiting_call c) (λ x. not (x.client == k)) rs)

pub spelled_replaced : (c : Configuration) (k : ℕ) (rs : List WaitingRequest) (r : WaitingRequest) → SpellCalls c rs → call_of c r.frame.items ≡ Some (waiting_call c r) → SpellCalls c (filter (λ x. not (is_of k x)) rs ++ r ∷ [])
spelled_replaced c k rs r h is =
    each_with (λ (x : WaitingRequest). call_of c x.frame.items ≡ Some (waiting_call c x)) (filter (λ x. not (is_of k x)) rs) r
    (each_filtered (λ (x : WaitingRequest). call_of c x.frame.items ≡ Some (waiting_call c x)) (λ x. call_of c x.frame.items ≡ Some (waiting_call c x)) (λ x. not (is_of k x)) (λ x e y. y) rs h) is

pub differ_replaced : (k : ℕ) (rs : List WaitingRequest) (r : WaitingRequest) → r.client.number ≡ k → AreOfDifferentClients rs → AreOfDifferentClients (filter (λ x. not (is_of k x)) rs ++ r ∷ [])
differ_replaced k rs r is d =
    pairs_with Differ (filter (λ x. not (is_of k x)) rs) r (AllPairs-filter Differ (λ x. not (is_of k x)) rs d) (apart rs)
  where
    apart : (xs : List WaitingRequest) → Each (λ x. x.client.number ≢ r.client.number) (filter (λ x. not (is_of k x)) xs)
    apart [] = tt
    apart (x ∷ xs) = go (x.client.number == k) refl (apart xs)
      where
        go : (b : Bool) → (x.client.number == k) ≡ b → Each (λ y. y.client.number ≢ r.client.number) (filter (λ y. not (is_of k y)) xs)
            → Each (λ y. y.client.number ≢ r.client.number) (cond (not b) (x ∷ filter (λ y. not (is_of k y)) xs) (filter (λ y. not (is_of k y)) xs))
        go true e below = below
        go false e below = (λ same. eqb-false x.client.number k e (same ∙ is), below)

pub frames_replaced : (test : WaitingRequest → Bool) (rs : List WaitingRequest) (r : WaitingRequest) (frame : List ℕ) → Has (λ x. x ≡ frame) (texts (filter test rs ++ r ∷ []))
    → Has (λ x. x ≡ frame) (texts rs) ⊎ (frame ≡ r.frame.items)
frames_replaced test rs r frame h = go (has_either (λ (x : WaitingRequest). x.frame.items ≡ frame) (filter test rs) (r ∷ []) (has_map (λ x. x ≡ frame) (λ (x : WaitingRequest). x.frame.items) (filter test rs ++ r ∷ []) h))
  where
    go : Has (λ (x : WaitingRequest). x.frame.items ≡ frame) (filter test rs) ⊎ Has (λ (x : WaitingRequest). x.frame.items ≡ frame) (r ∷ []) → Has (λ x. x ≡ frame) (texts rs) ⊎ (frame ≡ r.frame.items)
    go (inl k) = inl (has_mapped (λ x. x ≡ frame) (λ (x : WaitingRequest). x.frame.items) rs (has_filter (λ (x : WaitingRequest). x.frame.items ≡ frame) test rs k))
    go (inr (inl k)) = inr (sym k)
    go (inr (inr k)) = absurd k
