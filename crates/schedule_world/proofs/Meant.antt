-- The receivers for whom a faulty party may make a frame.
use Rattle.std.proofs.Common.{◌≡◌, ℕ, zero, suc, ◌<◌, ◌≤◌, Bool, true, List, [], ◌∷◌, length, map, refl, sym, ◌∙◌, arith, get_or, ltb-true, lt-ltb, ap}
use Rattle.std.specs.Prelude.{AllPairs, nat_lt, ◌&&◌}
use Rattle.std.specs.List.{list_all}
use Rattle.std.proofs.lemmas.Bool.{and_from, and_parts}
use Rattle.std.proofs.lemmas.List.{length-map}
use Rattle.std.proofs.lemmas.List.Sums.{AllPass-from_list_all, list_all-from_AllPass}
use Rattle.terms.specs.Parties.{party_number}
use Rattle.terms.specs.declared.parties.Party.{Party}
use Rattle.wire_format.specs.Lists.{ascends, leads}
use Rattle.protocol.specs.System.Configuration.{Configuration}
use Rattle.protocol.specs.System.Schedule.{is_party, AreReceivers}

above : (x : ℕ) (xs : List ℕ) → leads nat_lt x xs ≡ true → ascends nat_lt xs ≡ true → (j d : ℕ) → j < length xs → x < get_or xs j d
above x [] l a j d b = absurd (omega (arith, b))
above x (y ∷ ys) l a zero d b = ltb-true x y l
above x (y ∷ ys) l a (suc j) d b =
    let parts = and_parts (leads nat_lt y ys) (ascends nat_lt ys) a in
    let low = ltb-true x y l in
    let high = above y ys parts.0 parts.1 j d (omega (arith, b)) in
    omega (arith, low, high)

pub pairs_from : (xs : List ℕ) → ascends nat_lt xs ≡ true → AllPairs (λ p q. p < q) xs
pairs_from [] a i j d l b = absurd (omega (arith, b))
pairs_from (x ∷ xs) a zero zero d l b = absurd (omega (arith, l))
pairs_from (x ∷ xs) a zero (suc j) d l b =
    let parts = and_parts (leads nat_lt x xs) (ascends nat_lt xs) a in above x xs parts.0 parts.1 j d (omega (arith, b))
pairs_from (x ∷ xs) a (suc i) zero d l b = absurd (omega (arith, l))
pairs_from (x ∷ xs) a (suc i) (suc j) d l b =
    let parts = and_parts (leads nat_lt x xs) (ascends nat_lt xs) a in pairs_from xs parts.1 i j d (omega (arith, l)) (omega (arith, b))

leads_from : (x : ℕ) (xs : List ℕ) → AllPairs (λ p q. p < q) (x ∷ xs) → leads nat_lt x xs ≡ true
leads_from x [] h = refl
leads_from x (y ∷ ys) h = lt-ltb x y (h 0 1 0 (omega arith) (omega arith))

ascends_from : (xs : List ℕ) → AllPairs (λ p q. p < q) xs → ascends nat_lt xs ≡ true
ascends_from [] h = refl
ascends_from (x ∷ xs) h =
    and_from (leads nat_lt x xs) (ascends nat_lt xs) (leads_from x xs h)
    (ascends_from xs (λ i j d l b. h (suc i) (suc j) d (omega (arith, l)) (omega (arith, b))))

all_numbers : (t : ℕ → Bool) (ps : List Party) → list_all (λ p. t (party_number p)) ps ≡ list_all t (map party_number ps)
all_numbers t [] = refl
all_numbers t (p ∷ ps) = ap (λ b. t (party_number p) && b) (all_numbers t ps)

pub are_receivers : (c : Configuration) (ps : List Party) → 1 ≤ length ps → length ps ≤ 10
    → list_all (λ p. is_party c (party_number p)) ps ≡ true → ascends nat_lt (map party_number ps) ≡ true → AreReceivers c (map party_number ps)
are_receivers c ps some few parties ascend =
    let same : length (map party_number ps) ≡ length ps = length-map ps party_number in
    record {
      some = omega (arith, some, same);
      few = omega (arith, few, same);
      ascend = pairs_from (map party_number ps) ascend;
      parties = AllPass-from_list_all (is_party c) (map party_number ps) (sym (all_numbers (is_party c) ps) ∙ parties);
    }

pub receivers_parties : (c : Configuration) (ps : List Party) → AreReceivers c (map party_number ps) → list_all (λ p. is_party c (party_number p)) ps ≡ true
receivers_parties c ps h = all_numbers (is_party c) ps ∙ list_all-from_AllPass (is_party c) (map party_number ps) h.parties

pub receivers_ascend : (c : Configuration) (ps : List Party) → AreReceivers c (map party_number ps) → ascends nat_lt (map party_number ps) ≡ true
receivers_ascend c ps h = ascends_from (map party_number ps) h.ascend
