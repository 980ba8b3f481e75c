-- The test of a configuration decides whether it is valid.
use Rattle.std.proofs.Common.{◌≡◌, ◌≢◌, ℕ, ◌<◌, ◌≤◌, suc, Bool, true, false, ◌||◌, ◌&&◌, not, ◌==◌, List, [], ◌∷◌, length, refl, sym, ap, ◌∙◌, arith}
use Rattle.std.specs.Prelude.{All, AllPairs, nat_le, nat_lt}
use Rattle.std.proofs.lemmas.Bool.{and_parts, and_from, not-true, eqb-false, ne_eqb, ltb-true, lt-ltb, leb-true, le-leb, or_parts}
use Rattle.std.proofs.lemmas.List.Elements.{All-cons, All-tail}
use Rattle.std.proofs.lemmas.List.Kept.{AllPairs-cons}
use Rattle.signing.specs.Publics.{derived_publics}
use Rattle.quorum.specs.Quorum.{member}
use Rattle.protocol.specs.System.Configuration.{Configuration, IsConfiguration, replicas}
use Rattle.events.specs.Checking.{each_once, is_within_limit, is_configuration}

-- ---- lists

below : (bound : ℕ) (xs : List ℕ) → each_once bound xs ≡ true → All (λ x. x < bound) xs
below bound [] e = λ k d l. absurd (omega arith)
below bound (x ∷ xs) e =
    let both = and_parts (nat_lt x bound && not (member xs x)) (each_once bound xs) e in
    let first = and_parts (nat_lt x bound) (not (member xs x)) both.0 in
    All-cons (λ y. y < bound) x xs (ltb-true x bound first.0) (below bound xs both.1)

pub not_there : (xs : List ℕ) (x : ℕ) → member xs x ≡ false → All (λ y. x ≢ y) xs
not_there [] x e = λ k d l. absurd (omega arith)
not_there (y ∷ ys) x e =
    let both = or_parts (y == x) (member ys x) e in
    All-cons (λ z. x ≢ z) y ys (λ same. eqb-false y x both.0 (sym same)) (not_there ys x both.1)

differ : (bound : ℕ) (xs : List ℕ) → each_once bound xs ≡ true → AllPairs (λ x y. x ≢ y) xs
differ bound [] e = λ i j d lt within. absurd (omega arith)
differ bound (x ∷ xs) e =
    let both = and_parts (nat_lt x bound && not (member xs x)) (each_once bound xs) e in
    let first = and_parts (nat_lt x bound) (not (member xs x)) both.0 in
    AllPairs-cons (λ a b. a ≢ b) x xs (not_there xs x (not-true (member xs x) first.1)) (differ bound xs both.1)

pub absent : (xs : List ℕ) (x : ℕ) → All (λ y. x ≢ y) xs → member xs x ≡ false
absent [] x h = refl
absent (y ∷ ys) x h = ap (λ b. b || member ys x) (ne_eqb y x (λ e. h 0 y (omega arith) (sym e))) ∙ absent ys x (All-tail (λ z. x ≢ z) y ys h)

once_of : (bound : ℕ) (xs : List ℕ) → All (λ x. x < bound) xs → AllPairs (λ x y. x ≢ y) xs → each_once bound xs ≡ true
once_of bound [] a p = refl
once_of bound (x ∷ xs) a p =
    let others : All (λ y. x ≢ y) xs = λ k d l. p 0 (suc k) d (omega arith) (omega arith) in
    and_from (nat_lt x bound && not (member xs x)) (each_once bound xs)
    (and_from (nat_lt x bound) (not (member xs x)) (lt-ltb x bound (a 0 x (omega arith))) (ap not (absent xs x others)))
    (once_of bound xs (All-tail (λ y. y < bound) x xs a) (λ i j d lt within. p (suc i) (suc j) d (omega arith) (omega arith)))

-- ---- configurations

module _ (c : Configuration) where
  abbrev numbers : Bool
  numbers = (is_within_limit 3 c.faults && is_within_limit 256 c.clients) && is_within_limit 16 c.period

  abbrev few : Bool
  few = nat_le (length c.faulty_replicas) c.faults

  abbrev replicas_once : Bool
  replicas_once = each_once (replicas c) c.faulty_replicas

  pub is_valid : length c.seed ≡ 32 → c.publics ≡ derived_publics c.seed c.faults → is_configuration c ≡ true → IsConfiguration c
  is_valid seed publics e =
      let x = and_parts ((numbers && few) && replicas_once) (each_once c.clients c.faulty_clients) e in
      let y = and_parts (numbers && few) replicas_once x.0 in
      let z = and_parts numbers few y.0 in
      let u = and_parts (is_within_limit 3 c.faults && is_within_limit 256 c.clients) (is_within_limit 16 c.period) z.0 in
      let v = and_parts (is_within_limit 3 c.faults) (is_within_limit 256 c.clients) u.0 in
      let faults = and_parts (nat_le 1 c.faults) (nat_le c.faults 3) v.0 in
      let clients = and_parts (nat_le 1 c.clients) (nat_le c.clients 256) v.1 in
      let period = and_parts (nat_le 1 c.period) (nat_le c.period 16) u.1 in
      record {
        some_faults = leb-true 1 c.faults faults.0;
        most = leb-true c.faults 3 faults.1;
        some_clients = leb-true 1 c.clients clients.0;
        clients = leb-true c.clients 256 clients.1;
        seed = seed;
        publics = publics;
        period = leb-true 1 c.period period.0;
        period_most = leb-true c.period 16 period.1;
        few = leb-true (length c.faulty_replicas) c.faults z.1;
        replicas_are = below (replicas c) c.faulty_replicas y.1;
        replicas_differ = differ (replicas c) c.faulty_replicas y.1;
        clients_are = below c.clients c.faulty_clients x.1;
        clients_differ = differ c.clients c.faulty_clients x.1;
      }

  within : (most n : ℕ) → 1 ≤ n → n ≤ most → is_within_limit most n ≡ true
  within most n a b = and_from (nat_le 1 n) (nat_le n most) (le-leb 1 n a) (le-leb n most b)

  pub passes : IsConfiguration c → is_configuration c ≡ true
  passes v =
      and_from ((numbers && few) && replicas_once) (each_once c.clients c.faulty_clients)
      (and_from (numbers && few) replicas_once
      (and_from numbers few
      (and_from (is_within_limit 3 c.faults && is_within_limit 256 c.clients) (is_within_limit 16 c.period)
      (and_from (is_within_limit 3 c.faults) (is_within_limit 256 c.clients) (within 3 c.faults v.some_faults v.most) (within 256 c.clients v.some_clients v.clients))
      (within 16 c.period v.period v.period_most))
      (le-leb (length c.faulty_replicas) c.faults v.few))
      (once_of (replicas c) c.faulty_replicas v.replicas_are v.replicas_differ))
      (once_of c.clients c.faulty_clients v.clients_are v.clients_differ)
