-- A seed gives a party no key between two others, nor one to share with a party that it exchanges no frames with.
use Rattle.std.proofs.Common.{◌≡◌, ℕ, zero, suc, ◌+◌, ◌*◌, ◌<◌, ◌≤◌, ◌⊎◌, inl, inr, Bool, true, false, cond, ◌&&◌, ◌||◌, ◌==◌, nat_lt, nat_le, List, [], ◌∷◌, ◌++◌, Some, None, refl, sym, subst, ◌∙◌, arith, eqb-true}
use Rattle.std.specs.Prelude.{not}
use Rattle.std.specs.List.{range_with_len}
use Rattle.std.proofs.lemmas.Bool.{and_parts, and_from, eq-eqb, le-leb, lt-ltb, not_from_false}
use Rattle.std.proofs.Math.Bool.{or-true}
use Rattle.terms.specs.declared.parties.TheConstants.{FIRST_CLIENT}
use Rattle.authenticator.specs.Keys.{derived_key, find_key, row}
use Rattle.authenticator.specs.Dealing.{all_clients, all_replicas, clients_of, dealt_keys, keys_with, other_replicas, others_among, peers}
use Rattle.authenticator.specs.Laws.{is_among_clients, is_peer}
use Rattle.authenticator.specs.RingView.{joins}
use Rattle.authenticator.proofs.Dealing.{IsIn, finds_from, finds_to}

-- ---- the peers of a party are those in its list

is_either : (x : ℕ) (ys zs : List ℕ) → IsIn x (ys ++ zs) → IsIn x ys ⊎ IsIn x zs
is_either x [] zs has = inr has
is_either x (y ∷ ys) zs (inl here) = inl (inl here)
is_either x (y ∷ ys) zs (inr later) = go (is_either x ys zs later)
  where
    go : IsIn x ys ⊎ IsIn x zs → IsIn x (y ∷ ys) ⊎ IsIn x zs
    go (inl left) = inl (inr left)
    go (inr right) = inr right

is_within : (x a n : ℕ) → IsIn x (range_with_len a n) → (a ≤ x) × (x < a + n)
is_within x a zero has = absurd has
is_within x a (suc n) (inl here) = (omega (arith, here), omega (arith, here))
is_within x a (suc n) (inr later) = let above = is_within x (a + 1) n later in (omega (arith, above.0), omega (arith, above.1))

is_other : (x me : ℕ) (parties : List ℕ) → IsIn x (others_among parties me) → ((x == me) ≡ false) × IsIn x parties
is_other x me [] has = absurd has
is_other x me (party ∷ parties) has = go (party == me) refl has (is_other x me parties)
  where
    go : (is : Bool) → (party == me) ≡ is → IsIn x (cond (not is) (party ∷ others_among parties me) (others_among parties me))
        → (IsIn x (others_among parties me) → ((x == me) ≡ false) × IsIn x parties) → ((x == me) ≡ false) × IsIn x (party ∷ parties)
    go true is later rest = let found = rest later in (found.0, inr found.1)
    go false is (inl here) rest = (subst (λ (n : ℕ). (n == me) ≡ false) here is, inl here)
    go false is (inr later) rest = let found = rest later in (found.0, inr found.1)

are_peers : (faults clients me party : ℕ) → IsIn party (peers faults clients me) → is_peer faults clients me party ≡ true
are_peers faults clients me party has = go (is_either party (other_replicas faults me) (all_clients (clients_of me clients)) has)
  where
    client : (b : Bool) → nat_lt me FIRST_CLIENT ≡ b → IsIn party (all_clients (cond b clients 0)) → (b && is_among_clients clients party) ≡ true
    client true below is =
        let within = is_within party FIRST_CLIENT clients is in
        and_from (nat_le FIRST_CLIENT party) (nat_lt party (FIRST_CLIENT + clients)) (le-leb FIRST_CLIENT party within.0) (lt-ltb party (FIRST_CLIENT + clients) within.1)
    client false below is = absurd is

    go : IsIn party (other_replicas faults me) ⊎ IsIn party (all_clients (clients_of me clients)) → is_peer faults clients me party ≡ true
    go (inl replica) =
        let other = is_other party me (all_replicas faults) replica in
        let within = is_within party 0 (3 * faults + 1) other.1 in
        rw (and_from (not (party == me)) (nat_lt party (3 * faults + 1)) (not_from_false (party == me) other.0) (lt-ltb party (3 * faults + 1) (omega (arith, within.1)))) refl
    go (inr is) =
        rw (client (nat_lt me FIRST_CLIENT) refl is) (or-true (not (party == me) && nat_lt party (3 * faults + 1)))

-- ---- what is found between two parties

module _ (seed : List ℕ) (faults clients me from to : ℕ) where
  abbrev meets : ℕ → ℕ → Bool
  meets one other = (one == me) && is_peer faults clients me other

  abbrev is_own : Bool
  is_own = joins faults clients me from to

  own_from : from ≡ me → is_peer faults clients me to ≡ true → is_own ≡ true
  own_from here peer = rw (and_from (from == me) (is_peer faults clients me to) (eq-eqb from me here) peer) refl

  own_to : to ≡ me → is_peer faults clients me from ≡ true → is_own ≡ true
  own_to here peer =
      rw (and_from (to == me) (is_peer faults clients me from) (eq-eqb to me here) peer) (or-true (meets from to))

  abbrev IsApart : ℕ → Type 0
  IsApart party = (((party == from) && (me == to)) ≡ false) × (((me == from) && (party == to)) ≡ false)

  apart : is_own ≡ false → (party : ℕ) → IsIn party (peers faults clients me) → IsApart party
  apart not_own party has = (to_me ((party == from) && (me == to)) refl, from_me ((me == from) && (party == to)) refl)
    where
      to_me : (b : Bool) → ((party == from) && (me == to)) ≡ b → b ≡ false
      to_me false is = refl
      to_me true is =
          let parts = and_parts (party == from) (me == to) is in
          let peer = subst (λ (p : ℕ). is_peer faults clients me p ≡ true) (eqb-true party from parts.0) (are_peers faults clients me party has) in
          let bad = sym (own_to (sym (eqb-true me to parts.1)) peer) ∙ not_own in bad

      from_me : (b : Bool) → ((me == from) && (party == to)) ≡ b → b ≡ false
      from_me false is = refl
      from_me true is =
          let parts = and_parts (me == from) (party == to) is in
          let peer = subst (λ (p : ℕ). is_peer faults clients me p ≡ true) (eqb-true party to parts.1) (are_peers faults clients me party has) in
          let bad = sym (own_from (sym (eqb-true me from parts.0)) peer) ∙ not_own in bad

  none_found : (parties : List ℕ) → ((party : ℕ) → IsIn party parties → IsApart party) → find_key (row (keys_with seed me parties)) from to ≡ None
  none_found [] other = refl
  none_found (party ∷ parties) other =
      let first = other party (inl refl) in
      rw (first.0, first.1) (none_found parties (λ p has. other p (inr has)))

  pub finds_own : is_own ≡ true → find_key (row (dealt_keys seed faults clients me)) from to ≡ Some (derived_key seed from to)
  finds_own own = go (meets from to) refl own
    where
      go : (b : Bool) → meets from to ≡ b → (b || meets to from) ≡ true → find_key (row (dealt_keys seed faults clients me)) from to ≡ Some (derived_key seed from to)
      go true is h =
          let parts = and_parts (from == me) (is_peer faults clients me to) is in
          subst (λ (p : ℕ). find_key (row (dealt_keys seed faults clients me)) p to ≡ Some (derived_key seed p to)) (sym (eqb-true from me parts.0))
          (finds_from seed faults clients me to parts.1)
      go false is h =
          let parts = and_parts (to == me) (is_peer faults clients me from) h in
          subst (λ (p : ℕ). find_key (row (dealt_keys seed faults clients me)) from p ≡ Some (derived_key seed from p)) (sym (eqb-true to me parts.0))
          (finds_to seed faults clients me from parts.1)

  pub finds_no_other : is_own ≡ false → find_key (row (dealt_keys seed faults clients me)) from to ≡ None
  finds_no_other not_own = none_found (peers faults clients me) (apart not_own)
