-- Drills and the faulty replicas that they are of.
use Rattle.std.proofs.Common.{◌≡◌, ◌≢◌, ℕ, suc, ◌<◌, ◌≤◌, Bool, true, false, ◌||◌, ◌&&◌, not, ◌==◌, List, [], ◌∷◌, refl, sym, ap, ◌∙◌, subst, arith}
use Rattle.std.specs.Prelude.{◌↔◌, All, IsTrue}
use Rattle.std.specs.List.{list_any}
use Rattle.std.proofs.lemmas.Bool.{and_parts, and_from, not-true, eqb-true}
use Rattle.std.proofs.lemmas.List.Elements.{All-cons, All-head, All-nil, All-tail}
use Rattle.std.proofs.lemmas.List.Kept.{AllPairs-cons}
use Rattle.quorum.specs.Quorum.{member}
use Rattle.protocol.specs.System.Configuration.{Configuration, IsConfiguration, replicas, is_faulty_replica}
use Rattle.events.proofs.Checked.{not_there, absent}
use Rattle.space_node.specs.declared.drill.Drill.{Drill}
use Rattle.space_node.specs.Drills.{AreOfFaulty, IsDrilled, MayStart, are_faulty_once, replicas_of}
use Rattle.space_node.specs.Runs.{IsFaultless}

-- ---- members

pub any_member : (drills : List (ℕ × Drill)) (n : ℕ) → list_any (λ d. d.0 == n) drills ≡ member (replicas_of drills) n
any_member [] n = refl
any_member (d ∷ drills) n = ap (λ b. (d.0 == n) || b) (any_member drills n)

above : (xs : List ℕ) (n x : ℕ) → All (λ y. y < n) xs → n ≤ x → member xs x ≡ false
above xs n x below high = absent xs x (λ k d l. λ same. let low = below k d l in omega (arith, same, low, high))

-- ---- drills of faulty replicas alone

pub of_faulty : (c : Configuration) (rs : List ℕ) → are_faulty_once c rs ≡ true → AreOfFaulty c rs
of_faulty c [] e = (All-nil (λ r. is_faulty_replica c r ≡ true), λ i j d lt within. absurd (omega arith))
of_faulty c (r ∷ rs) e =
    let both = and_parts (is_faulty_replica c r && not (member rs r)) (are_faulty_once c rs) e in
    let first = and_parts (is_faulty_replica c r) (not (member rs r)) both.0 in
    let others = of_faulty c rs both.1 in (
      All-cons (λ r. is_faulty_replica c r ≡ true) r rs first.0 others.0,
      AllPairs-cons (λ a b. a ≢ b) r rs (not_there rs r (not-true (member rs r) first.1)) others.1,
    )

pub once_of : (c : Configuration) (rs : List ℕ) → AreOfFaulty c rs → are_faulty_once c rs ≡ true
once_of c [] are = refl
once_of c (r ∷ rs) are =
    let others : All (λ s. r ≢ s) rs = λ k d l. are.1 0 (suc k) d (omega arith) (omega arith) in
    and_from (is_faulty_replica c r && not (member rs r)) (are_faulty_once c rs)
    (and_from (is_faulty_replica c r) (not (member rs r)) (All-head (λ r. is_faulty_replica c r ≡ true) r rs are.0) (ap not (absent rs r others)))
    (once_of c rs (All-tail (λ r. is_faulty_replica c r ≡ true) r rs are.0, λ i j d lt within. are.1 (suc i) (suc j) d (omega arith) (omega arith)))

-- ---- and of each of them

-- each of these below n that is a member of the first is one of the second
abbrev pub AreDrilled : List ℕ → List ℕ → ℕ → Type 0
AreDrilled named rs n = (k : ℕ) → k < n → member named k ≡ true → member rs k ≡ true

pub one_drilled : (named rs : List ℕ) (n : ℕ) → All (λ r. member rs r ≡ true) named → member named n ≡ true → member rs n ≡ true
one_drilled [] rs n all e = absurd cc
one_drilled (x ∷ named) rs n all e = go (x == n) refl (one_drilled named rs n (All-tail (λ r. member rs r ≡ true) x named all))
  where
    go : (b : Bool) → (x == n) ≡ b → (member named n ≡ true → member rs n ≡ true) → member rs n ≡ true
    go true same more = subst (λ (k : ℕ). member rs k ≡ true) (eqb-true x n same) (All-head (λ r. member rs r ≡ true) x named all)
    go false other more = more (ap (λ (b : Bool). b || member named n) (sym other) ∙ e)

-- one of them has no drill
pub not_drilled : (c : Configuration) (rs : List ℕ) (n : ℕ) → is_faulty_replica c n ≡ true → member rs n ≡ false → IsDrilled c rs → ⊥
not_drilled c rs n is none all = let there : member rs n ≡ true = one_drilled c.faulty_replicas rs n all is in cc

-- ---- whether a replica is faulty

pub none_faulty : (c : Configuration) (n : ℕ) → IsConfiguration c → replicas c ≤ n → is_faulty_replica c n ≡ false
none_faulty c n valid high = above c.faulty_replicas (replicas c) n valid.replicas_are high

-- ---- the whole test

pub whole : (c : Configuration) (rs : List ℕ) (b : Bool) → c.faulty_clients ≡ [] → are_faulty_once c rs ≡ true → (IsTrue b ↔ IsDrilled c rs) → IsTrue b ↔ MayStart c rs
whole c rs b clients once is = (λ t. (clients, record { of_faulty = of_faulty c rs once; each = is.0 t }), λ may. is.1 may.1.each)

pub not_once : (c : Configuration) (rs : List ℕ) → are_faulty_once c rs ≡ false → MayStart c rs → ⊥
not_once c rs e may = let once : are_faulty_once c rs ≡ true = once_of c rs may.1.of_faulty in cc

-- ---- no drills

pub no_drills : (c : Configuration) → MayStart c [] → IsFaultless c
no_drills c may = (none c.faulty_replicas may.1.each, may.0)
  where
    none : (named : List ℕ) → All (λ r. member [] r ≡ true) named → named ≡ []
    none [] each = refl
    none (x ∷ named) each = let bad : false ≡ true = All-head (λ r. member [] r ≡ true) x named each in absurd cc

pub without_drills : (c : Configuration) → IsFaultless c → MayStart c []
without_drills c faultless = (
  faultless.1,
  record {
    of_faulty = of_faulty c [] refl;
    each = subst (λ (named : List ℕ). All (λ r. member [] r ≡ true) named) (sym faultless.0) (All-nil (λ r. member [] r ≡ true));
  },
)

-- if drills are refused exactly if they may not start, then without drills exactly configurations with faulty parties
-- are refused
pub refused_alike : (P : Type 0) (c : Configuration) (drills : List (ℕ × Drill)) → drills ≡ [] → P ↔ (MayStart c (replicas_of drills) → ⊥) → P ↔ (IsFaultless c → ⊥)
refused_alike P c drills none is =
    let same : P ↔ (MayStart c [] → ⊥) = subst (λ (ds : List (ℕ × Drill)). P ↔ (MayStart c (replicas_of ds) → ⊥)) none is in
    (λ p faultless. same.0 p (without_drills c faultless), λ faulty. same.1 (λ may. faulty (no_drills c may)))
