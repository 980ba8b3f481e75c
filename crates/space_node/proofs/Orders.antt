-- The shares of ordering of a new cluster, one for each replica, in their order.
use Rattle.std.proofs.Common.{◌≡◌, ℕ, suc, ◌+◌, ◌<◌, ◌≤◌, Bool, true, false, cond, List, [], ◌∷◌, ◌++◌, length, get_or, drop, map, refl, sym, ap, ◌∙◌, subst, arith}
use Rattle.std.specs.Prelude.{All, Some, nat_le, nat_lt, slice_get}
use Rattle.std.specs.List.{remove}
use Rattle.std.proofs.Math.Seq.{drop-cons}
use Rattle.std.proofs.lemmas.Bool.Decides.{nat_tests}
use Rattle.std.proofs.lemmas.List.{append-nil, get_or-map, length-map}
use Rattle.std.proofs.lemmas.List.Elements.{All-get_or}
use Rattle.journal.specs.Parts.{Part}
use Rattle.space_node.specs.Places.{IsFirstShareOf, all_but_first, clients_among, left_after, replicas_among}

-- the orders that are left are those of the replicas among the parties that have no state yet
abbrev pub AreLeft : List Part → List Part → ℕ → Type 0
AreLeft shares orders k = map (λ (o : Part). o.party) orders ≡ replicas_among (drop k (map (λ (s : Part). s.party) shares))

-- ---- the first order

pub removed : (orders : List Part) → remove orders 0 ≡ all_but_first orders
removed [] = refl
removed (order ∷ orders) = refl

pub some_order : (p : ℕ) (orders : List Part) → slice_get (map (λ (o : Part). o.party) orders) 0 ≡ Some p → 0 < length orders
some_order p [] first = absurd cc
some_order p (order ∷ orders) first = omega arith

pub first_party : (p : ℕ) (orders : List Part) (order : Part) → slice_get (map (λ (o : Part). o.party) orders) 0 ≡ Some p → order ≡ get_or orders 0 order → order.party ≡ p
first_party p [] order first is = absurd cc
first_party p (x ∷ orders) order first is =
    let head : x.party ≡ p = go first in
    ap (λ (o : Part). o.party) is ∙ head
  where
    go : Some x.party ≡ Some p → x.party ≡ p
    go same = cc

pub first_new : (orders : List Part) (order : Part) → 0 < length orders → order ≡ get_or orders 0 order → All (λ (o : Part). o.history ≡ []) orders → order.history ≡ []
first_new orders order some is all =
    subst (λ (o : Part). o.history ≡ []) (sym is) (All-get_or (λ (o : Part). o.history ≡ []) orders 0 order some all)

-- ---- one more party has its state

left_of : (b : Bool) (p : ℕ) (orders : List Part) (ps : List ℕ) → map (λ (o : Part). o.party) orders ≡ cond b (p ∷ ps) ps
    → map (λ (o : Part). o.party) (cond b (all_but_first orders) orders) ≡ ps
left_of true p [] ps are = absurd cc
left_of true p (order ∷ orders) ps are = cc
left_of false p orders ps are = are

module _ (shares orders : List Part) (k : ℕ) (share : Part) (low : k < length shares) (is : share ≡ get_or shares k share) (left : AreLeft shares orders k) where
  next : drop k (map (λ (s : Part). s.party) shares) ≡ share.party ∷ drop (k + 1) (map (λ (s : Part). s.party) shares)
  next =
      let there : k < length (map (λ (s : Part). s.party) shares) = subst (λ (n : ℕ). k < n) (sym (length-map shares (λ (s : Part). s.party))) low in
      let at : get_or (map (λ (s : Part). s.party) shares) k share.party ≡ share.party =
      get_or-map (λ (s : Part). s.party) shares k share share.party low ∙ ap (λ (s : Part). s.party) (sym is) in
      let after : suc k ≡ k + 1 = omega arith in
      drop-cons (map (λ (s : Part). s.party) shares) k share.party there
      ∙ (ap (λ (p : ℕ). p ∷ drop (suc k) (map (λ (s : Part). s.party) shares)) at
      ∙ ap (λ (j : ℕ). share.party ∷ drop j (map (λ (s : Part). s.party) shares)) after)

  are : map (λ (o : Part). o.party) orders ≡ replicas_among (share.party ∷ drop (k + 1) (map (λ (s : Part). s.party) shares))
  are = left ∙ ap replicas_among next

  pub is_first : IsFirstShareOf share.party orders
  is_first below =
      let rest = replicas_among (drop (k + 1) (map (λ (s : Part). s.party) shares)) in
      let replica : nat_lt share.party 256 ≡ true = grind (arith, nat_tests) in
      ap (λ (ps : List ℕ). slice_get ps 0) (are ∙ ap (λ (b : Bool). cond b (share.party ∷ rest) rest) replica)

  pub are_left : (later : List Part) → later ≡ left_after share.party orders → AreLeft shares later (k + 1)
  are_left later same =
      ap (map (λ (o : Part). o.party)) same
      ∙ left_of (nat_lt share.party 256) share.party orders (replicas_among (drop (k + 1) (map (λ (s : Part). s.party) shares))) are

-- a replica that has its state has taken the first order
pub after_replica : (p : ℕ) (orders later : List Part) → p < 256 → later ≡ all_but_first orders → later ≡ left_after p orders
after_replica p orders later below same =
    let replica : nat_lt p 256 ≡ true = grind (arith, nat_tests) in
    same ∙ ap (λ (b : Bool). cond b (all_but_first orders) orders) (sym replica)

-- it is no client
pub no_client : (p : ℕ) (clients : List ℕ) → p < 256 → clients ≡ clients ++ clients_among (p ∷ [])
no_client p clients below =
    let replica : nat_le 256 p ≡ false = grind (arith, nat_tests) in
    sym (append-nil clients) ∙ ap (λ (b : Bool). clients ++ cond b (p ∷ []) []) (sym replica)

-- and a client takes none
pub after_client : (p : ℕ) (orders : List Part) → 256 ≤ p → orders ≡ left_after p orders
after_client p orders high =
    let client : nat_lt p 256 ≡ false = grind (arith, nat_tests) in
    ap (λ (b : Bool). cond b (all_but_first orders) orders) (sym client)
