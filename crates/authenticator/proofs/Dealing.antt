-- The keys that a seed gives a party: one for each direction with each of its peers, and no other.
use Rattle.std.proofs.Common.{◌≡◌, ℕ, zero, suc, ◌+◌, ◌*◌, ◌<◌, ◌≤◌, ◌⊎◌, inl, inr, Bool, true, false, cond, ◌&&◌, ◌||◌, ◌==◌, nat_lt, nat_le, List, [], ◌∷◌, ◌++◌, Some, refl, sym, ap, ap₂, subst, ◌∙◌, arith, eqb-true}
use Rattle.std.specs.Prelude.{not, find, option_map, ◌-◌}
use Rattle.std.proofs.lemmas.List.{append_assoc, append-nil}
use Rattle.std.specs.List.{range_with_len}
use Rattle.std.proofs.lemmas.Bool.{and_parts, and_from, eq-eqb, eqb-false, ltb-true, ltb-false, leb-true}
use Rattle.terms.specs.declared.parties.TheConstants.{FIRST_CLIENT}
use Rattle.wire_format.specs.Lists.{Each}
use Rattle.authenticator.specs.Keys.{derived_key, find_key, is_between, row}
use Rattle.authenticator.specs.Dealing.{all_clients, all_replicas, both_keys, clients_of, dealt_keys, keys_with, other_replicas, others_among, peers}
use Rattle.authenticator.specs.Laws.{IsOwnKey, is_among_clients, is_peer}
use Rattle.authenticator.specs.declared.row.SharedKey.{SharedKey}

-- ---- parties in a list

abbrev pub IsIn : ℕ → List ℕ → Type 0
IsIn x [] = ⊥
IsIn x (y ∷ ys) = (y ≡ x) ⊎ IsIn x ys

in_right : (x : ℕ) (ys zs : List ℕ) → IsIn x zs → IsIn x (ys ++ zs)
in_right x [] zs has = has
in_right x (y ∷ ys) zs has = inr (in_right x ys zs has)

in_left : (x : ℕ) (ys zs : List ℕ) → IsIn x ys → IsIn x (ys ++ zs)
in_left x [] zs has = absurd has
in_left x (y ∷ ys) zs (inl here) = inl here
in_left x (y ∷ ys) zs (inr later) = inr (in_left x ys zs later)

le_and_not_eq : (a x : ℕ) → a ≤ x → (a ≡ x → ⊥) → a + 1 ≤ x
le_and_not_eq a x least other = go (nat_lt a x) refl
  where
    go : (is : Bool) → nat_lt a x ≡ is → a + 1 ≤ x
    go true is = let less = ltb-true a x is in omega (arith, less)
    go false is = let most = ltb-false a x is in absurd (other (omega (arith, least, most)))

in_range : (x a n : ℕ) → a ≤ x → x < a + n → IsIn x (range_with_len a n)
in_range x a zero least less = absurd (omega (arith, least, less))
in_range x a (suc n) least less = go (a == x) refl (λ above. in_range x (a + 1) n above (omega (arith, less)))
  where
    go : (is : Bool) → (a == x) ≡ is → (a + 1 ≤ x → IsIn x (range_with_len (a + 1) n)) → IsIn x (range_with_len a (suc n))
    go true is rest = inl (eqb-true a x is)
    go false is rest = inr (rest (let other = eqb-false a x is in let under = le_and_not_eq a x least other in under))

in_others : (x me : ℕ) (parties : List ℕ) → (x == me) ≡ false → IsIn x parties → IsIn x (others_among parties me)
in_others x me [] other has = has
in_others x me (party ∷ parties) other (inl here) =
    let apart : (party == me) ≡ false = subst (λ (n : ℕ). (n == me) ≡ false) (sym here) other in rw apart (inl here)
in_others x me (party ∷ parties) other (inr later) = go (not (party == me)) (in_others x me parties other later)
  where
    go : (stays : Bool) → IsIn x (others_among parties me) → IsIn x (cond stays (party ∷ others_among parties me) (others_among parties me))
    go true has = inr has
    go false has = has

no_not : (b : Bool) → not b ≡ true → b ≡ false
no_not true h = absurd cc
no_not false h = refl

pub in_peers : (faults clients me party : ℕ) → is_peer faults clients me party ≡ true → IsIn party (peers faults clients me)
in_peers faults clients me party is = go (not (party == me) && nat_lt party (3 * faults + 1)) refl is
  where
    client : (b : Bool) → nat_lt me FIRST_CLIENT ≡ b → (b && is_among_clients clients party) ≡ true
        → IsIn party (all_clients (cond b clients 0))
    client true below h =
        let parts = and_parts (nat_le FIRST_CLIENT party) (nat_lt party (FIRST_CLIENT + clients)) h in
        in_range party FIRST_CLIENT clients (leb-true FIRST_CLIENT party parts.0) (ltb-true party (FIRST_CLIENT + clients) parts.1)
    client false below h = absurd cc

    go : (b : Bool) → (not (party == me) && nat_lt party (3 * faults + 1)) ≡ b
        → (b || (nat_lt me FIRST_CLIENT && is_among_clients clients party)) ≡ true → IsIn party (peers faults clients me)
    go true replica h =
        let parts = and_parts (not (party == me)) (nat_lt party (3 * faults + 1)) replica in
        in_left party (other_replicas faults me) (all_clients (clients_of me clients))
        (in_others party me (all_replicas faults) (no_not (party == me) parts.0)
        (in_range party 0 (3 * faults + 1) (omega arith) (let below = ltb-true party (3 * faults + 1) parts.1 in omega (arith, below))))
    go false replica h =
        in_right party (other_replicas faults me) (all_clients (clients_of me clients)) (client (nat_lt me FIRST_CLIENT) refl h)

-- ---- their keys

module _ (seed : List ℕ) where
  abbrev IsDerived : SharedKey → Type 0
  IsDerived shared = shared.key ≡ derived_key seed shared.from shared.to

  all_derived : (me : ℕ) (parties : List ℕ) → Each IsDerived (keys_with seed me parties)
  all_derived me [] = tt
  all_derived me (party ∷ parties) = (refl, (refl, all_derived me parties))

  pub all_own : (me : ℕ) (parties : List ℕ) → Each (IsOwnKey me) (keys_with seed me parties)
  all_own me [] = tt
  all_own me (party ∷ parties) = (inr refl, (inl refl, all_own me parties))

  module _ (from to : ℕ) where
    abbrev HasKey : List SharedKey → Type 0
    HasKey [] = ⊥
    HasKey (shared ∷ keys) = ((shared.from ≡ from) × (shared.to ≡ to)) ⊎ HasKey keys

    some_found : (keys : List SharedKey) → Each IsDerived keys → HasKey keys → find_key (row keys) from to ≡ Some (derived_key seed from to)
    some_found [] derived has = absurd has
    some_found (shared ∷ keys) derived has = go (is_between from to shared) refl has (some_found keys derived.1)
      where
        go : (is : Bool) → is_between from to shared ≡ is → ((shared.from ≡ from) × (shared.to ≡ to)) ⊎ HasKey keys
            → (HasKey keys → find_key (row keys) from to ≡ Some (derived_key seed from to))
            → option_map (λ (s : SharedKey). s.key) (cond is (Some shared) (find (is_between from to) keys)) ≡ Some (derived_key seed from to)
        go true is some rest =
            let parts = and_parts (shared.from == from) (shared.to == to) is in
            ap Some (derived.0 ∙ ap₂ (derived_key seed) (eqb-true shared.from from parts.0) (eqb-true shared.to to parts.1))
        go false is (inl here) rest = absurd
            (let bad : false ≡ true = sym is ∙ and_from (shared.from == from) (shared.to == to) (eq-eqb shared.from from here.0) (eq-eqb shared.to to here.1) in cc)
        go false is (inr later) rest = rest later

  has_from : (me party : ℕ) (parties : List ℕ) → IsIn party parties → HasKey me party (keys_with seed me parties)
  has_from me party [] has = absurd has
  has_from me party (other ∷ parties) (inl here) = inr (inl (refl, here))
  has_from me party (other ∷ parties) (inr later) = inr (inr (has_from me party parties later))

  has_to : (me party : ℕ) (parties : List ℕ) → IsIn party parties → HasKey party me (keys_with seed me parties)
  has_to me party [] has = absurd has
  has_to me party (other ∷ parties) (inl here) = inl (here, refl)
  has_to me party (other ∷ parties) (inr later) = inr (inr (has_to me party parties later))

  module _ (faults clients me party : ℕ) (is : is_peer faults clients me party ≡ true) where
    pub finds_from : find_key (row (dealt_keys seed faults clients me)) me party ≡ Some (derived_key seed me party)
    finds_from =
        some_found me party (dealt_keys seed faults clients me) (all_derived me (peers faults clients me))
        (has_from me party (peers faults clients me) (in_peers faults clients me party is))

    pub finds_to : find_key (row (dealt_keys seed faults clients me)) party me ≡ Some (derived_key seed party me)
    finds_to =
        some_found party me (dealt_keys seed faults clients me) (all_derived me (peers faults clients me))
        (has_to me party (peers faults clients me) (in_peers faults clients me party is))

-- ---- the keys of a party, one peer after another

next_range : (a n k : ℕ) → k < n → range_with_len (a + k) (n - k) ≡ (a + k) ∷ range_with_len (a + (k + 1)) (n - (k + 1))
next_range a n k less =
    ap (range_with_len (a + k)) (let one : n - k ≡ suc (n - (k + 1)) = omega arith in one)
    ∙ ap (λ (b : ℕ). (a + k) ∷ range_with_len b (n - (k + 1))) (let same : a + k + 1 ≡ a + (k + 1) = omega arith in same)

no_range : (a n k : ℕ) → n ≤ k → range_with_len (a + k) (n - k) ≡ []
no_range a n k over = ap (range_with_len (a + k)) (let none : n - k ≡ 0 = omega arith in none)

module _ (seed : List ℕ) (me : ℕ) where
  with_one : (old new rest : List SharedKey) (party : ℕ) → new ≡ old ++ both_keys seed me party
      → new ++ rest ≡ old ++ (both_keys seed me party ++ rest)
  with_one old new rest party longer = ap (λ (keys : List SharedKey). keys ++ rest) longer ∙ append_assoc old (both_keys seed me party) rest

  pub next_client : (clients client : ℕ) (old new : List SharedKey) → client < clients → new ≡ old ++ both_keys seed me (FIRST_CLIENT + client)
      → new ++ keys_with seed me (range_with_len (FIRST_CLIENT + (client + 1)) (clients - (client + 1)))
      ≡ old ++ keys_with seed me (range_with_len (FIRST_CLIENT + client) (clients - client))
  next_client clients client old new less longer =
      with_one old new (keys_with seed me (range_with_len (FIRST_CLIENT + (client + 1)) (clients - (client + 1)))) (FIRST_CLIENT + client) longer
      ∙ ap (λ (parties : List ℕ). old ++ keys_with seed me parties) (sym (next_range FIRST_CLIENT clients client less))

  pub next_two : (clients pair : ℕ) (old new : List SharedKey) → 2 * pair + 1 < clients
      → new ≡ (old ++ both_keys seed me (FIRST_CLIENT + 2 * pair)) ++ both_keys seed me (FIRST_CLIENT + 2 * pair + 1)
      → new ++ keys_with seed me (range_with_len (FIRST_CLIENT + 2 * (pair + 1)) (clients - 2 * (pair + 1)))
      ≡ old ++ keys_with seed me (range_with_len (FIRST_CLIENT + 2 * pair) (clients - 2 * pair))
  next_two clients pair old new less longer =
      let one : 2 * pair < clients = omega (arith, less) in
      let after : 2 * (pair + 1) ≡ 2 * pair + 1 + 1 = omega arith in
      let there : FIRST_CLIENT + 2 * pair + 1 ≡ FIRST_CLIENT + (2 * pair + 1) = omega arith in
      ap (λ (k : ℕ). new ++ keys_with seed me (range_with_len (FIRST_CLIENT + k) (clients - k))) after
      ∙ next_client clients (2 * pair + 1) (old ++ both_keys seed me (FIRST_CLIENT + 2 * pair)) new less
      (longer ∙ ap (λ (k : ℕ). (old ++ both_keys seed me (FIRST_CLIENT + 2 * pair)) ++ both_keys seed me k) there)
      ∙ next_client clients (2 * pair) old (old ++ both_keys seed me (FIRST_CLIENT + 2 * pair)) one refl

  pub no_client : (clients client : ℕ) (keys : List SharedKey) → clients ≤ client
      → keys ++ keys_with seed me (range_with_len (FIRST_CLIENT + client) (clients - client)) ≡ keys
  no_client clients client keys over =
      ap (λ (parties : List ℕ). keys ++ keys_with seed me parties) (no_range FIRST_CLIENT clients client over) ∙ append-nil keys

  abbrev pub others_from : ℕ → ℕ → List ℕ
  others_from n r = others_among (range_with_len r (n - r)) me

  next_from : (n r : ℕ) → r < n → range_with_len r (n - r) ≡ r ∷ range_with_len (r + 1) (n - (r + 1))
  next_from n r less = ap (range_with_len r) (let one : n - r ≡ suc (n - (r + 1)) = omega arith in one)

  one_and_more : (r : ℕ) (parties : List ℕ)
      → keys_with seed me (others_among (r ∷ []) me) ++ keys_with seed me (others_among parties me) ≡ keys_with seed me (others_among (r ∷ parties) me)
  one_and_more r parties = go (not (r == me))
    where
      go : (other : Bool)
          → keys_with seed me (cond other (r ∷ []) []) ++ keys_with seed me (others_among parties me)
          ≡ keys_with seed me (cond other (r ∷ others_among parties me) (others_among parties me))
      go true = refl
      go false = refl

  pub next_other : (n r : ℕ) (old new : List SharedKey) → r < n → new ≡ old ++ keys_with seed me (others_among (r ∷ []) me)
      → new ++ keys_with seed me (others_from n (r + 1)) ≡ old ++ keys_with seed me (others_from n r)
  next_other n r old new less longer =
      ap (λ (keys : List SharedKey). keys ++ keys_with seed me (others_from n (r + 1))) longer
      ∙ append_assoc old (keys_with seed me (others_among (r ∷ []) me)) (keys_with seed me (others_from n (r + 1)))
      ∙ ap (λ (keys : List SharedKey). old ++ keys)
      (one_and_more r (range_with_len (r + 1) (n - (r + 1))) ∙ ap (λ (parties : List ℕ). keys_with seed me (others_among parties me)) (sym (next_from n r less)))

  pub no_other : (n r : ℕ) (keys : List SharedKey) → n ≤ r → keys ++ keys_with seed me (others_from n r) ≡ keys
  no_other n r keys over =
      ap (λ (count : ℕ). keys ++ keys_with seed me (others_among (range_with_len r count) me)) (let none : n - r ≡ 0 = omega arith in none) ∙ append-nil keys

pub first_clients : (clients : ℕ) → range_with_len (FIRST_CLIENT + 0) (clients - 0) ≡ all_clients clients
first_clients clients =
    ap₂ range_with_len (let at : FIRST_CLIENT + 0 ≡ FIRST_CLIENT = omega arith in at) (let all : clients - 0 ≡ clients = omega arith in all)

pub first_replicas : (seed : List ℕ) (faults me : ℕ) → others_from seed me (3 * faults + 1) 0 ≡ other_replicas faults me
first_replicas seed faults me =
    ap (λ (count : ℕ). others_among (range_with_len 0 count) me) (let all : 3 * faults + 1 - 0 ≡ 3 * faults + 1 = omega arith in all)

pub keys_with-append : (seed : List ℕ) (me : ℕ) (parties more : List ℕ) → keys_with seed me (parties ++ more) ≡ keys_with seed me parties ++ keys_with seed me more
keys_with-append seed me [] more = refl
keys_with-append seed me (party ∷ parties) more =
    ap (λ (keys : List SharedKey). both_keys seed me party ++ keys) (keys_with-append seed me parties more)
    ∙ sym (append_assoc (both_keys seed me party) (keys_with seed me parties) (keys_with seed me more))
