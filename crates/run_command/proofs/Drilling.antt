-- Drills, and the configurations of which their replicas are faulty.
use Rattle.std.proofs.Common.{◌≡◌, ◌≢◌, ℕ, suc, ◌+◌, ◌<◌, ◌≤◌, Bool, true, false, cond, ◌||◌, ◌==◌, List, [], ◌∷◌, length, refl, sym, ap, ◌∙◌, subst, arith, eq-eqb, eqb-true}
use Rattle.std.specs.Prelude.{nat_lt, All, Option, Some, None, MatchOption}
use Rattle.std.specs.List.{filter}
use Rattle.std.proofs.lemmas.Bool.{ltb-false, ltb-true}
use Rattle.std.proofs.lemmas.List.Elements.{All-cons, All-nil, All-weaker}
use Rattle.std.proofs.lemmas.List.{length-map}
use Rattle.std.proofs.lemmas.List.Kept.{AllPairs-cons}
use Rattle.quorum.specs.Quorum.{member}
use Rattle.protocol.specs.System.Configuration.{Configuration, IsConfiguration, replicas}
use Rattle.events.proofs.Checked.{not_there}
use Rattle.space_node.specs.Drills.{MayStart, replicas_of}
use Rattle.space_node.specs.declared.drill.Drill.{Drill}
use Rattle.run_command.specs.Drilled.{AreReplicas, IsDrillFault, IsWrongReplica, MayBeDrilled, drilled_config}
use Rattle.run_command.specs.Judging.{first_wrong}
use Rattle.run_command.specs.declared.drills.DrillFault.{DrillFault}
use Rattle.run_command.specs.declared.drills.DrillFault.TheVariants.{TooMany, NoReplica, Twice}

-- ---- members

here : (r : ℕ) (rs : List ℕ) → member (r ∷ rs) r ≡ true
here r rs = go (r == r) (eq-eqb r r refl)
  where
    go : (b : Bool) → b ≡ true → (b || member rs r) ≡ true
    go true e = refl
    go false e = absurd cc

behind : (r s : ℕ) (rs : List ℕ) → member rs s ≡ true → member (r ∷ rs) s ≡ true
behind r s rs h = go (r == s)
  where
    go : (b : Bool) → (b || member rs s) ≡ true
    go true = refl
    go false = h

all_members : (rs : List ℕ) → All (λ r. member rs r ≡ true) rs
all_members [] = All-nil (λ r. member [] r ≡ true)
all_members (r ∷ rs) =
    All-cons (λ s. member (r ∷ rs) s ≡ true) r rs (here r rs)
    (All-weaker (λ s. member rs s ≡ true) (λ s. member (r ∷ rs) s ≡ true) (λ s h. behind r s rs h) rs (all_members rs))

-- ---- a cluster that may have the drills

pub is_drilled_config : (c : Configuration) (rs : List ℕ) → IsConfiguration c → MayBeDrilled c rs → IsConfiguration (drilled_config c rs)
is_drilled_config c rs valid may = record {
  some_faults = valid.some_faults;
  most = valid.most;
  some_clients = valid.some_clients;
  clients = valid.clients;
  seed = valid.seed;
  publics = valid.publics;
  period = valid.period;
  period_most = valid.period_most;
  few = may.0;
  replicas_are = may.1.0;
  replicas_differ = may.1.1;
  clients_are = All-nil (λ k. k < c.clients);
  clients_differ = λ i j d lt within. absurd (omega arith);
}

pub drilled_may_start : (c : Configuration) (rs : List ℕ) → MayBeDrilled c rs → MayStart (drilled_config c rs) rs
drilled_may_start c rs may = (refl, record { of_faulty = (all_members rs, may.1.1); each = all_members rs })

-- ---- the first wrong number

no_numbers : (n : ℕ) → AreReplicas n []
no_numbers n = (All-nil (λ r. r < n), λ i j d lt within. absurd (omega arith))

one_number_more : (n r : ℕ) (rs : List ℕ) → r < n → member rs r ≡ false → AreReplicas n rs → AreReplicas n (r ∷ rs)
one_number_more n r rs low once are = (All-cons (λ s. s < n) r rs low are.0, AllPairs-cons (λ a b. a ≢ b) r rs (not_there rs r once) are.1)

stands : (r : ℕ) (rs : List ℕ) → member rs r ≡ true → 1 ≤ length (filter (λ s. s == r) rs)
stands r [] h = absurd cc
stands r (s ∷ rs) h = go (s == r) h (stands r rs)
  where
    go : (b : Bool) → (b || member rs r) ≡ true → (member rs r ≡ true → 1 ≤ length (filter (λ q. q == r) rs))
        → 1 ≤ length (cond b (s ∷ filter (λ q. q == r) rs) (filter (λ q. q == r) rs))
    go true h more = omega arith
    go false h more = more h

stands_twice : (r : ℕ) (rs : List ℕ) → member rs r ≡ true → 2 ≤ length (filter (λ s. s == r) (r ∷ rs))
stands_twice r rs there = go (r == r) (eq-eqb r r refl)
  where
    go : (b : Bool) → b ≡ true → 2 ≤ length (cond b (r ∷ filter (λ q. q == r) rs) (filter (λ q. q == r) rs))
    go true e = let k = stands r rs there in omega (arith, k)
    go false e = absurd cc

wrong_behind : (n r : ℕ) (rs : List ℕ) (fault : DrillFault) → IsWrongReplica n rs fault → IsWrongReplica n (r ∷ rs) fault
wrong_behind n r rs (TooMany most total) h = absurd h
wrong_behind n r rs (NoReplica s total) h = (h.0, h.1, behind r s rs h.2)
wrong_behind n r rs (Twice s) h = go (r == s)
  where
    go : (b : Bool) → 2 ≤ length (cond b (r ∷ filter (λ q. q == s) rs) (filter (λ q. q == s) rs))
    go true = omega (arith, h)
    go false = h

either_behind : (n r : ℕ) (rs : List ℕ) (o : Option DrillFault) → r < n → member rs r ≡ false → MatchOption o (AreReplicas n rs) (IsWrongReplica n rs)
    → MatchOption o (AreReplicas n (r ∷ rs)) (IsWrongReplica n (r ∷ rs))
either_behind n r rs None low once h = one_number_more n r rs low once h
either_behind n r rs (Some fault) low once h = wrong_behind n r rs fault h

wrong_or_none : (n : ℕ) (rs : List ℕ) → MatchOption (first_wrong n rs) (AreReplicas n rs) (IsWrongReplica n rs)
wrong_or_none n [] = no_numbers n
wrong_or_none n (r ∷ rs) = low (nat_lt r n) refl (wrong_or_none n rs)
  where
    once : (b : Bool) → member rs r ≡ b → r < n → MatchOption (first_wrong n rs) (AreReplicas n rs) (IsWrongReplica n rs)
        → MatchOption (cond b (Some (Twice r)) (first_wrong n rs)) (AreReplicas n (r ∷ rs)) (IsWrongReplica n (r ∷ rs))
    once true e l h = stands_twice r rs e
    once false e l h = either_behind n r rs (first_wrong n rs) l e h

    low : (b : Bool) → nat_lt r n ≡ b → MatchOption (first_wrong n rs) (AreReplicas n rs) (IsWrongReplica n rs)
        → MatchOption (cond b (cond (member rs r) (Some (Twice r)) (first_wrong n rs)) (Some (NoReplica r n))) (AreReplicas n (r ∷ rs)) (IsWrongReplica n (r ∷ rs))
    low true e h = once (member rs r) refl (ltb-true r n e) h
    low false e h = (refl, ltb-false r n e, here r rs)

-- ---- the fault

wrong_fault : (c : Configuration) (rs : List ℕ) (fault : DrillFault) → IsWrongReplica (replicas c) rs fault → IsDrillFault c rs fault
wrong_fault c rs (TooMany most total) h = absurd h
wrong_fault c rs (NoReplica r total) h = h
wrong_fault c rs (Twice r) h = h

-- as many replicas as drills
as_many : (drills : List (ℕ × Drill)) → length (replicas_of drills) ≡ length drills
as_many drills = length-map drills (λ d. d.0)

pub too_many : (c : Configuration) (drills : List (ℕ × Drill)) → c.faults < length drills → IsDrillFault c (replicas_of drills) (TooMany c.faults (replicas c))
too_many c drills more = (refl, refl, let n = as_many drills in omega (arith, more, n))

pub fault_or_none : (c : Configuration) (drills : List (ℕ × Drill)) (o : Option DrillFault) → length drills ≤ c.faults
    → o ≡ first_wrong (replicas c) (replicas_of drills) → MatchOption o (MayBeDrilled c (replicas_of drills)) (IsDrillFault c (replicas_of drills))
fault_or_none c drills o few is = go o few (subst (λ x. MatchOption x (AreReplicas (replicas c) (replicas_of drills)) (IsWrongReplica (replicas c) (replicas_of drills))) (sym is)
    (wrong_or_none (replicas c) (replicas_of drills)))
  where
    go : (o : Option DrillFault) → length drills ≤ c.faults → MatchOption o (AreReplicas (replicas c) (replicas_of drills)) (IsWrongReplica (replicas c) (replicas_of drills))
        → MatchOption o (MayBeDrilled c (replicas_of drills)) (IsDrillFault c (replicas_of drills))
    go None few h = (let n = as_many drills in omega (arith, few, n), h)
    go (Some fault) few h = wrong_fault c (replicas_of drills) fault h
