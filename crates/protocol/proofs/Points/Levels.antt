-- Levels: the numbers that all correct replicas but at most f have reached.
use Rattle.std.proofs.Common.{◌≡◌, ℕ, suc, ◌+◌, ◌*◌, ◌≤◌, ◌<◌, Bool, true, false, not, cond, max, List, [], ◌∷◌, refl, ap, arith, ◌&&◌, eq-eqb}
use Rattle.std.specs.Prelude.{◌==◌, nat_le}
use Rattle.std.proofs.lemmas.Bool.{and_parts, and_from, leb-true, le-leb, lt-ltb, false_from_ne_true, and_right}
use Rattle.quorum.proofs.Counting.{two_meet, two_within, count_not, count_none, count_mono, count_members}
use Rattle.protocol.specs.Replica.RightReplica
use Rattle.quorum.specs.Quorum.{count_below}
use Rattle.protocol.specs.System.Configuration.{Configuration, IsConfiguration, replicas, is_replica, is_faulty_replica, is_correct_replica}
use Rattle.protocol.specs.System.Trace.{Entry, party_of, history_of}
use Rattle.protocol.specs.System.Trace.Entry.{Invoke, Executed, Installed, Accepted}
use Rattle.protocol.specs.Replica.State.{execute}
use Rattle.protocol.specs.Replica.RightReplica.{HistoryReaches, May, MovesPoint}
use Rattle.protocol.specs.Space.Linear.{reached_at, reached, count_correct, has_reached, is_level}

-- ---- how many are correct

pub many_correct : (c : Configuration) → IsConfiguration c → 2 * c.faults + 1 ≤ count_correct c
many_correct c setting =
    let n : ℕ = 3 * c.faults + 1 in
    let faulty = count_members c.faulty_replicas (3 * c.faults + 1) in
    let few = setting.few in
    let all : count_below (is_faulty_replica c) (3 * c.faults + 1) + count_below (λ k. not (is_faulty_replica c k)) (3 * c.faults + 1) ≡ 3 * c.faults + 1 = count_not (is_faulty_replica c) (3 * c.faults + 1) in
    let more : count_below (λ k. not (is_faulty_replica c k)) (3 * c.faults + 1) ≤ count_below (is_correct_replica c) (3 * c.faults + 1) =
    count_mono (λ k. not (is_faulty_replica c k)) (is_correct_replica c) (3 * c.faults + 1) (λ k l h. and_from (is_replica c k) (not (is_faulty_replica c k)) (lt-ltb k (3 * c.faults + 1) l) h) in
    omega arith

-- ---- reached numbers stay reached

pub reached_grows : (e : Entry) (past : List Entry) (r : ℕ) → reached past r ≤ reached (e ∷ past) r
reached_grows e past r = omega arith

pub level_stays : (c : Configuration) (e : Entry) (past : List Entry) (k : ℕ) → is_level c past k ≡ true → is_level c (e ∷ past) k ≡ true
level_stays c e past k h =
    let had : count_correct c ≤ count_below (has_reached c past k) (replicas c) + c.faults = leb-true (count_correct c) (count_below (has_reached c past k) (replicas c) + c.faults) h in
    let more = count_mono (has_reached c past k) (has_reached c (e ∷ past) k) (replicas c) keeps in
    let has : count_correct c ≤ count_below (has_reached c (e ∷ past) k) (replicas c) + c.faults = omega arith in
    le-leb (count_correct c) (count_below (has_reached c (e ∷ past) k) (replicas c) + c.faults) has
  where
    keeps : (r : ℕ) → r < replicas c → has_reached c past k r ≡ true → has_reached c (e ∷ past) k r ≡ true
    keeps r l g =
        let p = and_parts (is_correct_replica c r) (nat_le k (reached past r)) g in
        let a : k ≤ reached past r = leb-true k (reached past r) p.1 in
        let b = reached_grows e past r in
        let d : k ≤ reached (e ∷ past) r = omega arith in
        and_from (is_correct_replica c r) (nat_le k (reached (e ∷ past) r)) p.0 (le-leb k (reached (e ∷ past) r) d)

-- a level is one of each lower number
pub level_below : (c : Configuration) (past : List Entry) (j k : ℕ) → j ≤ k → is_level c past k ≡ true → is_level c past j ≡ true
level_below c past j k le h =
    let had : count_correct c ≤ count_below (has_reached c past k) (replicas c) + c.faults = leb-true (count_correct c) (count_below (has_reached c past k) (replicas c) + c.faults) h in
    let more = count_mono (has_reached c past k) (has_reached c past j) (replicas c) keeps in
    let has : count_correct c ≤ count_below (has_reached c past j) (replicas c) + c.faults = omega arith in
    le-leb (count_correct c) (count_below (has_reached c past j) (replicas c) + c.faults) has
  where
    keeps : (r : ℕ) → r < replicas c → has_reached c past k r ≡ true → has_reached c past j r ≡ true
    keeps r l g =
        let p = and_parts (is_correct_replica c r) (nat_le k (reached past r)) g in
        let a : k ≤ reached past r = leb-true k (reached past r) p.1 in
        let d : j ≤ reached past r = omega arith in
        and_from (is_correct_replica c r) (nat_le j (reached past r)) p.0 (le-leb j (reached past r) d)

-- ---- a quorum that answers with a number

-- If 2f + 1 replicas answered, the correct ones of which had reached at most r before and at least r after, then r is
-- at least the level before and at most the level after.
module _ (c : Configuration) (setting : IsConfiguration c) (before after : List Entry) (r : ℕ) (answered : ℕ → Bool)
    (enough : 2 * c.faults + 1 ≤ count_below answered (3 * c.faults + 1))
    (high : (s : ℕ) → is_correct_replica c s ≡ true → answered s ≡ true → r ≤ reached after s)
    (low : (s : ℕ) → is_correct_replica c s ≡ true → answered s ≡ true → reached before s ≤ r) where
  correct_answers : count_correct c ≤ count_below (λ s. is_correct_replica c s && answered s) (3 * c.faults + 1) + c.faults
  correct_answers =
      let meet : count_below (is_correct_replica c) (3 * c.faults + 1) + count_below answered (3 * c.faults + 1) ≤ 3 * c.faults + 1 + count_below (λ s. is_correct_replica c s && answered s) (3 * c.faults + 1) =
      two_meet (is_correct_replica c) answered (3 * c.faults + 1) in
      omega arith

  pub level_after : is_level c after r ≡ true
  level_after =
      let more = count_mono (λ s. is_correct_replica c s && answered s) (has_reached c after r) (3 * c.faults + 1) keeps in
      let a = correct_answers in
      let has : count_correct c ≤ count_below (has_reached c after r) (3 * c.faults + 1) + c.faults = omega arith in
      le-leb (count_correct c) (count_below (has_reached c after r) (3 * c.faults + 1) + c.faults) has
    where
      keeps : (s : ℕ) → s < 3 * c.faults + 1 → (is_correct_replica c s && answered s) ≡ true → has_reached c after r s ≡ true
      keeps s l g = let p = and_parts (is_correct_replica c s) (answered s) g in
          and_from (is_correct_replica c s) (nat_le r (reached after s)) p.0 (le-leb r (reached after s) (high s p.0 p.1))

  pub level_before : (k : ℕ) → r < k → is_level c before k ≡ true → ⊥
  level_before k above h =
      let had : count_correct c ≤ count_below (λ s. is_correct_replica c s && nat_le k (reached before s)) (3 * c.faults + 1) + c.faults =
      leb-true (count_correct c) (count_below (has_reached c before k) (3 * c.faults + 1) + c.faults) h in
      let more = count_mono (λ s. is_correct_replica c s && answered s) (λ s. is_correct_replica c s && nat_le (reached before s) r) (3 * c.faults + 1) keeps in
      let a = correct_answers in
      let both : count_below (λ s. is_correct_replica c s && nat_le (reached before s) r) (3 * c.faults + 1) + count_below (λ s. is_correct_replica c s && nat_le k (reached before s)) (3 * c.faults + 1)
      ≤ count_below (is_correct_replica c) (3 * c.faults + 1) + count_below (λ s. is_correct_replica c s && (nat_le (reached before s) r && nat_le k (reached before s))) (3 * c.faults + 1) =
      two_within (is_correct_replica c) (λ s. nat_le (reached before s) r) (λ s. nat_le k (reached before s)) (3 * c.faults + 1) in
      let none : count_below (λ s. is_correct_replica c s && (nat_le (reached before s) r && nat_le k (reached before s))) (3 * c.faults + 1) ≡ 0 =
      count_none (λ s. is_correct_replica c s && (nat_le (reached before s) r && nat_le k (reached before s))) (3 * c.faults + 1) apart in
      let many = many_correct c setting in
      omega arith
    where
      keeps : (s : ℕ) → s < 3 * c.faults + 1 → (is_correct_replica c s && answered s) ≡ true → (is_correct_replica c s && nat_le (reached before s) r) ≡ true
      keeps s l g = let p = and_parts (is_correct_replica c s) (answered s) g in
          and_from (is_correct_replica c s) (nat_le (reached before s) r) p.0 (le-leb (reached before s) r (low s p.0 p.1))

      apart : (s : ℕ) → (is_correct_replica c s && (nat_le (reached before s) r && nat_le k (reached before s))) ≡ false
      apart s = and_right (is_correct_replica c s) (nat_le (reached before s) r && nat_le k (reached before s)) (false_from_ne_true (nat_le (reached before s) r && nat_le k (reached before s)) both_ways)
        where
          both_ways : (nat_le (reached before s) r && nat_le k (reached before s)) ≡ true → ⊥
          both_ways g =
              let p = and_parts (nat_le (reached before s) r) (nat_le k (reached before s)) g in
              let x : reached before s ≤ r = leb-true (reached before s) r p.0 in
              let y : k ≤ reached before s = leb-true k (reached before s) p.1 in
              omega arith

-- ---- a replica's state has the number that it reached

pub reached_history : (r : ℕ) (xs : List Entry) → reached (history_of r xs) r ≡ reached xs r
reached_history r [] = refl
reached_history r (e ∷ xs) = go (party_of e == r) refl (reached_history r xs)
  where
    outside : (e : Entry) → (party_of e == r) ≡ false → reached_at r e ≡ 0
    outside (Executed p k b) h = rw h refl
    outside (Installed p k b) h = rw h refl
    outside _ h = refl

    go : (b : Bool) → (party_of e == r) ≡ b → reached (history_of r xs) r ≡ reached xs r → reached (cond b (e ∷ history_of r xs) (history_of r xs)) r ≡ max (reached_at r e) (reached xs r)
    go true is below = ap (λ n. max (reached_at r e) n) below
    go false is below = let z = outside e is in omega arith

pub number_reached : (c : Configuration) (r : ℕ) (xs : List Entry) (point : RightReplica.Point) → HistoryReaches c r xs point → point.state.number ≡ reached xs r
unfolding execute
number_reached c r [] point h = ap (λ (x : RightReplica.Point). x.state.number) h
number_reached c r (e ∷ past) point h = go e h.2.own h.2.may h.2.moves (number_reached c r past h.0 h.1)
  where
    go : (e : Entry) → party_of e ≡ r → May c r past h.0 e → MovesPoint c r past h.0 e point → h.0.state.number ≡ reached past r → point.state.number ≡ max (reached_at r e) (reached past r)
    go (Invoke x y z) own may move was = absurd may
    go (Accepted x y z) own may move was = absurd may
    go (Executed p k batch) own may move was =
        let is : point.state.number ≡ suc h.0.state.number = ap (λ (x : RightReplica.Point). x.state.number) move in
        let k_is = may.next in
        let at : reached_at r (Executed p k batch) ≡ k = rw (eq-eqb p r own) refl in
        omega arith
    go (Installed p k root) own may move was =
        let is = move.number in
        let above = may.0 in
        let at : reached_at r (Installed p k root) ≡ k = rw (eq-eqb p r own) refl in
        omega arith
    go _ own may move was = let n : point.state.number ≡ h.0.state.number = ap (λ (x : RightReplica.Point). x.state.number) move in omega arith
