-- The greatest level, and the positions at which it rises.
use Rattle.std.proofs.Common.{◌≡◌, ℕ, zero, suc, ◌+◌, ◌≤◌, ◌<◌, Bool, true, false, cond, max, List, [], ◌∷◌, ◌++◌, length, reverse, take, get_or, eqb-true, refl, sym, ap, ap₂, ◌∙◌, arith, ◌&&◌, Option, Some, None}
use Rattle.std.specs.Prelude.{nat_lt, nat_le, slice_index, ◌==◌}
use Rattle.std.proofs.lemmas.Bool.{and_parts, and_from, leb-true, leb-false, le-leb, ltb-true, ltb-false, lt-ltb, le-ltb}
use Rattle.std.proofs.lemmas.List.{reverse-append, take_more, length-reverse}
use Rattle.std.specs.List.{list_all}
use Rattle.std.specs.Option.{option_map_or}
use Rattle.points.specs.declared.levels.Rise.{Rise}
use Rattle.quorum.specs.Quorum.{count_below}
use Rattle.quorum.specs.Votes.{or_else}
use Rattle.std.specs.Bool.{then_some}
use Rattle.quorum.proofs.Counting.{count_mono}
use Rattle.protocol.specs.System.Configuration.{Configuration, IsConfiguration, replicas, is_correct_replica}
use Rattle.protocol.specs.System.Trace.{Entry}
use Rattle.protocol.specs.Space.Linear.{reached_at, reached, has_reached, is_level, first_position, count_correct}
use Rattle.protocol.proofs.Points.Levels.{many_correct, level_stays, level_below}
use Rattle.points.specs.Leveling.{greatest_below, level_reached, level, rises, level_position, reached_number, number_reached, level_in, RaisesNumbers}

-- ---- the greatest below n

pub at_most_greatest : (f : ℕ → ℕ) (n r : ℕ) → r < n → f r ≤ greatest_below f n
at_most_greatest f zero r l = absurd (omega arith)
at_most_greatest f (suc n) r l = go (nat_le n r) refl (at_most_greatest f n r)
  where
    go : (b : Bool) → nat_le n r ≡ b → (r < n → f r ≤ greatest_below f n) → f r ≤ max (f n) (greatest_below f n)
    go true e inner = let m : n ≤ r = leb-true n r e in let s : r ≡ n = omega arith in let g : f r ≡ f n = ap f s in omega arith
    go false e inner = let m : r < n = leb-false n r e in let below = inner m in omega arith

-- a property of 0 and of each value is one of the greatest
pub of_greatest : (P : ℕ → Type 0) (f : ℕ → ℕ) (n : ℕ) → P 0 → ((r : ℕ) → P (f r)) → P (greatest_below f n)
of_greatest P f zero z each = z
of_greatest P f (suc n) z each = go (f n) (greatest_below f n) (each n) (of_greatest P f n z each)
  where
    go : (a b : ℕ) → P a → P b → P (max a b)
    go a b x y = pick (nat_le a b) refl
      where
        pick : (t : Bool) → nat_le a b ≡ t → P (max a b)
        pick true e = let l : a ≤ b = leb-true a b e in let m : b ≡ max a b = omega arith in rw (sym m) y
        pick false e = let l : b < a = leb-false a b e in let m : a ≡ max a b = omega arith in rw (sym m) x

pub some_there : (p : ℕ → Bool) (n r : ℕ) → r < n → p r ≡ true → 1 ≤ count_below p n
some_there p zero r l h = absurd (omega arith)
some_there p (suc n) r l h = go (p n) refl (some_there p n r)
  where
    go : (b : Bool) → p n ≡ b → (r < n → p r ≡ true → 1 ≤ count_below p n) → 1 ≤ cond b (suc (count_below p n)) (count_below p n)
    go true e inner = omega arith
    go false e inner = pick (nat_lt r n) refl
      where
        pick : (t : Bool) → nat_lt r n ≡ t → 1 ≤ count_below p n
        pick true k = inner (ltb-true r n k) h
        pick false k = let m : n ≤ r = ltb-false r n k in let q : r ≡ n = omega arith in absurd (let bad : false ≡ true = sym e ∙ ap p (sym q) ∙ h in cc)

-- of those that pass, one has the least value
pub least : (p : ℕ → Bool) (v : ℕ → ℕ) (n : ℕ) → 0 < count_below p n → (r : ℕ) × (r < n) × (p r ≡ true) × ((s : ℕ) → s < n → p s ≡ true → v r ≤ v s)
least p v zero h = absurd (omega arith)
least p v (suc n) h = go (p n) refl h (nat_lt 0 (count_below p n)) refl (least p v n)
  where
    Found : ℕ → Type 0
    Found m = (r : ℕ) × (r < m) × (p r ≡ true) × ((s : ℕ) → s < m → p s ≡ true → v r ≤ v s)

    only : (r : ℕ) → p r ≡ true → ((s : ℕ) → s < n → p s ≡ true → v r ≤ v s) → (p n ≡ true → v r ≤ v n) → (s : ℕ) → s < suc n → p s ≡ true → v r ≤ v s
    only r pr below at s l ps = pick (nat_lt s n) refl
      where
        pick : (b : Bool) → nat_lt s n ≡ b → v r ≤ v s
        pick true e = below s (ltb-true s n e) ps
        pick false e = let m : n ≤ s = ltb-false s n e in let q : s ≡ n = omega arith in rw q (at (ap p (sym q) ∙ ps))

    none : nat_lt 0 (count_below p n) ≡ false → (s : ℕ) → s < n → p s ≡ true → ⊥
    none e s l ps =
        let z : count_below p n ≤ 0 = ltb-false 0 (count_below p n) e in
        let k : 1 ≤ count_below p n = some_there p n s l ps in omega arith

    go : (b : Bool) → p n ≡ b → 0 < cond b (suc (count_below p n)) (count_below p n) → (t : Bool) → nat_lt 0 (count_below p n) ≡ t
        → (0 < count_below p n → Found n) → Found (suc n)
    go false e l t et below = let r = below l in let m : r.0 < suc n = omega arith in
        (r.0, m, r.2, only r.0 r.2 r.3 (λ h. absurd (let bad : false ≡ true = sym e ∙ h in cc)))
    go true e l false et below = let m : n < suc n = omega arith in
        (n, m, e, only n e (λ s k ps. absurd (none et s k ps)) (λ h. omega arith))
    go true e l true et below =
        let r = below (ltb-true 0 (count_below p n) et) in pick (nat_le (v r.0) (v n)) refl
      where
        pick : (b : Bool) → nat_le (v (below (ltb-true 0 (count_below p n) et)).0) (v n) ≡ b → Found (suc n)
        pick true k = let r = below (ltb-true 0 (count_below p n) et) in let m : r.0 < suc n = omega arith in
            (r.0, m, r.2, only r.0 r.2 r.3 (λ h. leb-true (v r.0) (v n) k))
        pick false k = let r = below (ltb-true 0 (count_below p n) et) in let m : n < suc n = omega arith in let l : v n < v r.0 = leb-false (v r.0) (v n) k in
            (n, m, e, only n e (λ s q ps. let w = r.3 s q ps in omega arith) (λ h. omega arith))

-- ---- levels

module _ (c : Configuration) (setting : IsConfiguration c) where
  zero_level : (past : List Entry) → is_level c past 0 ≡ true
  zero_level past =
      let all = count_mono (is_correct_replica c) (has_reached c past 0) (replicas c) (λ r l h. and_from (is_correct_replica c r) (nat_le 0 (reached past r)) h (let z : 0 ≤ reached past r = omega arith in le-leb 0 (reached past r) z)) in
      let le : count_correct c ≤ count_below (has_reached c past 0) (replicas c) + c.faults = omega arith in
      le-leb (count_correct c) (count_below (has_reached c past 0) (replicas c) + c.faults) le

  -- the greatest level is one
  pub level_is : (past : List Entry) → is_level c past (level c past) ≡ true
  level_is past = of_greatest (λ k. is_level c past k ≡ true) (level_reached c past) (replicas c) (zero_level past) each
    where
      each : (r : ℕ) → is_level c past (level_reached c past r) ≡ true
      each r = go (is_level c past (reached past r)) refl
        where
          go : (b : Bool) → is_level c past (reached past r) ≡ b → is_level c past (cond b (reached past r) 0) ≡ true
          go true e = e
          go false e = zero_level past

  -- and no level is greater
  pub level_most : (past : List Entry) (k : ℕ) → is_level c past k ≡ true → k ≤ level c past
  level_most past k h =
      let had : count_correct c ≤ count_below (has_reached c past k) (replicas c) + c.faults = leb-true (count_correct c) (count_below (has_reached c past k) (replicas c) + c.faults) h in
      let many = many_correct c setting in
      let some : 0 < count_below (has_reached c past k) (replicas c) = omega arith in
      let r = least (has_reached c past k) (reached past) (replicas c) some in
      let more = count_mono (has_reached c past k) (has_reached c past (reached past r.0)) (replicas c) (keeps r.0 r.3) in
      let le : count_correct c ≤ count_below (has_reached c past (reached past r.0)) (replicas c) + c.faults = omega arith in
      let is : is_level c past (reached past r.0) ≡ true = le-leb (count_correct c) (count_below (has_reached c past (reached past r.0)) (replicas c) + c.faults) le in
      let at : reached past r.0 ≡ level_reached c past r.0 = rw is refl in
      let most = at_most_greatest (level_reached c past) (replicas c) r.0 r.1 in
      let p = and_parts (is_correct_replica c r.0) (nat_le k (reached past r.0)) r.2 in
      let above : k ≤ reached past r.0 = leb-true k (reached past r.0) p.1 in
      omega arith
    where
      keeps : (r : ℕ) → ((s : ℕ) → s < replicas c → has_reached c past k s ≡ true → reached past r ≤ reached past s) → (s : ℕ) → s < replicas c → has_reached c past k s ≡ true → has_reached c past (reached past r) s ≡ true
      keeps r low s l g =
          let p = and_parts (is_correct_replica c s) (nat_le k (reached past s)) g in
          and_from (is_correct_replica c s) (nat_le (reached past r) (reached past s)) p.0 (le-leb (reached past r) (reached past s) (low s l g))

  pub level_test : (past : List Entry) (k : ℕ) → is_level c past k ≡ nat_le k (level c past)
  level_test past k = go (is_level c past k) refl (nat_le k (level c past)) refl
    where
      go : (a : Bool) → is_level c past k ≡ a → (b : Bool) → nat_le k (level c past) ≡ b → a ≡ b
      go true ea true eb = refl
      go false ea false eb = refl
      go true ea false eb = let l = level_most past k ea in let m : level c past < k = leb-false k (level c past) eb in absurd (omega arith)
      go false ea true eb = let m : k ≤ level c past = leb-true k (level c past) eb in
          let bad : false ≡ true = sym ea ∙ level_below c past k (level c past) m (level_is past) in absurd cc

  -- ---- places

  pub level_grows : (e : Entry) (past : List Entry) → level c past ≤ level c (e ∷ past)
  level_grows e past = level_most (e ∷ past) (level c past) (level_stays c e past (level c past) (level_is past))

  no_level : (k : ℕ) → 1 ≤ k → nat_le k (level c []) ≡ false
  no_level k l = go (nat_le k (level c [])) refl
    where
      low : level c [] ≤ 0
      low = of_greatest (λ m. m ≤ 0) (level_reached c []) (replicas c) (omega arith) each
        where
          each : (r : ℕ) → level_reached c [] r ≤ 0
          each r = go (is_level c [] 0)
            where
              go : (b : Bool) → cond b 0 0 ≤ 0
              go true = omega arith
              go false = omega arith

      go : (b : Bool) → nat_le k (level c []) ≡ b → b ≡ false
      go false e = refl
      go true e = let m : k ≤ level c [] = leb-true k (level c []) e in let n = low in absurd (omega arith)

  -- a place is given if the level was reached
  given : (xs : List Entry) (k : ℕ) → 1 ≤ k → nat_le k (level c xs) ≡ true → (p : ℕ) × (first_position c xs k ≡ Some p)
  given [] k l h = absurd (let bad : false ≡ true = sym (no_level k l) ∙ h in cc)
  given (e ∷ past) k l h = go (first_position c past k) (is_level c (e ∷ past) k) (level_test (e ∷ past) k ∙ h)
    where
      go : (o : Option ℕ) (b : Bool) → b ≡ true → (p : ℕ) × (or_else o (then_some b (length past)) ≡ Some p)
      go (Some q) b t = (q, refl)
      go None true t = (length past, refl)
      go None false t = absurd cc

  pub places : (trace : List Entry) (k : ℕ) → 1 ≤ k → first_position c trace k ≡ level_position (rises c trace) k
  places [] k l = refl
  places (e ∷ past) k l = go (nat_lt (level c past) (level c (e ∷ past))) refl (places past k l)
    where
      stays : (b : Bool) → nat_le k (level c (e ∷ past)) ≡ b → level c (e ∷ past) ≡ level c past → first_position c past k ≡ level_position (rises c past) k
          → or_else (first_position c past k) (then_some b (length past)) ≡ level_position (rises c past) k
      stays false t same below = nothing (first_position c past k) ∙ below
        where
          nothing : (o : Option ℕ) → or_else o (then_some false (length past)) ≡ o
          nothing None = refl
          nothing (Some q) = refl
      stays true t same below =
          let g = given past k l (ap (nat_le k) (sym same) ∙ t) in
          ap (λ o. or_else o (then_some true (length past))) g.1 ∙ sym g.1 ∙ below

      go : (b : Bool) → nat_lt (level c past) (level c (e ∷ past)) ≡ b → first_position c past k ≡ level_position (rises c past) k
          → or_else (first_position c past k) (then_some (is_level c (e ∷ past) k) (length past)) ≡ level_position (cond b (record { level = level c (e ∷ past); position = length past } ∷ rises c past) (rises c past)) k
      go true t below = ap (λ o. or_else o (then_some (is_level c (e ∷ past) k) (length past))) below ∙ ap (λ b. or_else (level_position (rises c past) k) (then_some b (length past))) (level_test (e ∷ past) k)
      go false t below =
          let most : level c (e ∷ past) ≤ level c past = ltb-false (level c past) (level c (e ∷ past)) t in
          let grows = level_grows e past in
          let same : level c (e ∷ past) ≡ level c past = omega arith in
          ap (λ b. or_else (first_position c past k) (then_some b (length past))) (level_test (e ∷ past) k) ∙ stays (nat_le k (level c (e ∷ past))) refl same below

pub places_are : (c : Configuration) → IsConfiguration c → (trace : List Entry) (k : ℕ) → 1 ≤ k → first_position c trace k ≡ level_position (rises c trace) k
places_are c setting trace k l = places c setting trace k l

-- ---- by the numbers that the replicas reached

pub greatest_same : (f g : ℕ → ℕ) (n : ℕ) → ((r : ℕ) → r < n → f r ≡ g r) → greatest_below f n ≡ greatest_below g n
greatest_same f g zero h = refl
greatest_same f g (suc n) h =
    let last : n < suc n = omega arith in
    let a = h n last in
    let b = greatest_same f g n (λ r l. let m : r < suc n = omega arith in h r m) in omega arith

pub count_same : (p q : ℕ → Bool) (n : ℕ) → ((r : ℕ) → r < n → p r ≡ q r) → count_below p n ≡ count_below q n
count_same p q n h =
    let a = count_mono p q n (λ r l e. sym (h r l) ∙ e) in
    let b = count_mono q p n (λ r l e. h r l ∙ e) in omega arith

-- the values are the numbers that the replicas reached
abbrev pub AreReached : List Entry → List ℕ → Type 0
AreReached past values = (r : ℕ) → r < 10 → slice_index values r ≡ reached past r

pub level_known : (c : Configuration) → c.faults ≤ 3 → (past : List Entry) (values : List ℕ) → AreReached past values → level_in c values ≡ level c past
level_known c few past values known = greatest_same (number_reached c values) (level_reached c past) (replicas c) each
  where
    each : (r : ℕ) → r < replicas c → number_reached c values r ≡ level_reached c past r
    each r l =
        let m : r < 10 = omega arith in
        let v : slice_index values r ≡ reached past r = known r m in
        let n : count_below (reached_number c values (slice_index values r)) (replicas c) ≡ count_below (has_reached c past (reached past r)) (replicas c) =
        count_same (reached_number c values (slice_index values r)) (has_reached c past (reached past r)) (replicas c) (λ s k. let t : s < 10 = omega arith in ap (λ x. is_correct_replica c s && x) (ap₂ nat_le v (known s t))) in
        ap₂ (λ k x. cond (nat_le (count_correct c) (k + c.faults)) x 0) n v

pub still_reached : (e : Entry) (past : List Entry) (old new : List ℕ) → AreReached past old → RaisesNumbers e old new → AreReached (e ∷ past) new
still_reached e past old new known raised r l = raised r l ∙ ap (max (reached_at r e)) (known r l)

-- ---- the scan

pub first_level : (c : Configuration) → 0 ≡ level c []
first_level c = let l = low in omega arith
  where
    low : level c [] ≤ 0
    low = of_greatest (λ m. m ≤ 0) (level_reached c []) (replicas c) (omega arith) each
      where
        each : (r : ℕ) → level_reached c [] r ≤ 0
        each r = go (is_level c [] 0)
          where
            go : (b : Bool) → cond b 0 0 ≤ 0
            go true = omega arith
            go false = omega arith

pub all_zero : (xs : List ℕ) → list_all (λ x. x == 0) xs ≡ true → (r : ℕ) → slice_index xs r ≡ 0
all_zero [] h r = refl
all_zero (x ∷ xs) h zero = let p = and_parts (x == 0) (list_all (λ x. x == 0) xs) h in eqb-true x 0 p.0
all_zero (x ∷ xs) h (suc r) = let p = and_parts (x == 0) (list_all (λ x. x == 0) xs) h in all_zero xs p.1 r

pub one_more_entry : (xs : List Entry) (i : ℕ) (e : Entry) → i < length xs → get_or xs i e ≡ e → reverse (take (i + 1) xs) ≡ e ∷ reverse (take i xs)
one_more_entry xs i e l is = ap reverse (take_more xs i e l) ∙ ap (λ (x : Entry). reverse (take i xs ++ x ∷ [])) is ∙ reverse-append (take i xs) (e ∷ [])

length_within : {A : Type 0} (i : ℕ) (xs : List A) → i ≤ length xs → length (take i xs) ≡ i
length_within zero xs l = refl
length_within (suc i) [] l = absurd (omega arith)
length_within (suc i) (x ∷ xs) l = let m : i ≤ length xs = omega arith in let e = length_within i xs m in omega arith

pub length_taken : (xs : List Entry) (i : ℕ) → i < length xs → i ≡ length (reverse (take i xs))
length_taken xs i l = let m : i ≤ length xs = omega arith in sym (length-reverse (take i xs) ∙ length_within i xs m)

pub rises_on : (c : Configuration) (past : List Entry) (e : Entry) (at old now : ℕ) (found : List Rise) → at ≡ length past → old ≡ level c past → now ≡ level c (e ∷ past) → reverse found ≡ rises c past → old < now
    → reverse (found ++ record { level = now; position = at } ∷ []) ≡ rises c (e ∷ past)
rises_on c past e at old now found stands was is had l =
    let m : level c past < level c (e ∷ past) = omega arith in
    reverse-append found (record { level = now; position = at } ∷ [])
    ∙ ap (λ (k : ℕ). let r : List Rise = record { level = now; position = k } ∷ reverse found in r) stands
    ∙ ap₂ (λ (k : ℕ) (rest : List Rise). let r : List Rise = record { level = k; position = length past } ∷ rest in r) is had
    ∙ rw (lt-ltb (level c past) (level c (e ∷ past)) m) refl

pub stays_on : (c : Configuration) → IsConfiguration c → (past : List Entry) (e : Entry) (old now : ℕ) (found : List Rise) → old ≡ level c past → now ≡ level c (e ∷ past) → reverse found ≡ rises c past → now ≤ old
    → (old ≡ level c (e ∷ past)) × (reverse found ≡ rises c (e ∷ past))
stays_on c setting past e old now found was is had l =
    let m : level c (e ∷ past) ≤ level c past = omega arith in
    let g = level_grows c setting e past in
    (omega arith, had ∙ rw (le-ltb (level c past) (level c (e ∷ past)) m) refl)

-- ---- the number 0

zero_some : (c : Configuration) → IsConfiguration c → (e : Entry) (past : List Entry) → (p : ℕ) × (first_position c (e ∷ past) 0 ≡ Some p)
zero_some c setting e past = go (first_position c past 0) (is_level c (e ∷ past) 0) (zero_level c setting (e ∷ past))
  where
    go : (o : Option ℕ) (b : Bool) → b ≡ true → (p : ℕ) × (or_else o (then_some b (length past)) ≡ Some p)
    go (Some q) b t = (q, refl)
    go None true t = (length past, refl)
    go None false t = absurd cc

abbrev or_zero : Option ℕ → ℕ
or_zero o = option_map_or (λ x. x) o 0

pub zero_is_first : (c : Configuration) → IsConfiguration c → (trace : List Entry) → option_map_or (λ x. x) (first_position c trace 0) 0 ≡ 0
zero_is_first c setting [] = refl
zero_is_first c setting (e ∷ []) = go (is_level c (e ∷ []) 0)
  where
    go : (b : Bool) → or_zero (or_else None (then_some b 0)) ≡ 0
    go true = refl
    go false = refl
zero_is_first c setting (e ∷ x ∷ past) =
    let g = zero_some c setting x past in
    ap (λ (o : Option ℕ). or_zero (or_else o (then_some (is_level c (e ∷ x ∷ past) 0) (length (x ∷ past))))) g.1
    ∙ sym (ap or_zero g.1) ∙ zero_is_first c setting (x ∷ past)
