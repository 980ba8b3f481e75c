-- Nodes over their two children, and climbing by one level.
use Rattle.std.proofs.Common.{◌≡◌, ℕ, zero, suc, ◌/◌, length, ◌+◌, ◌-◌, ◌*◌, ◌^◌, ◌<◌, List, ◌++◌, refl, ap, sym, inl, inr, arith, add-one, ◌%◌, ◌≤◌, ◌≢◌, ◌∙◌, get_or, set, [], inl, inr, get_or-set_same, get_or-set_other}
use Rattle.std.specs.Prelude.{◌==◌, if◌then◌else◌}
use Rattle.std.specs.Int.{bit_at}
use Rattle.std.proofs.lemmas.Bool.{cases_eq, eq-eqb, ne_eqb}
use Rattle.std.proofs.lemmas.Nat.{pow-add, shr-shr, shr_below}
use Rattle.std.proofs.Math.Nat.{div-one, pow-le-pow_right}
use Rattle.sha2.specs.Sha256.{sha256}
use Rattle.sha2.proofs.Facts256.{length-sha256}
use Rattle.signing.specs.Merkle.{node, sibling, climbed}

pub node-leaf : (leaves : ℕ → List ℕ) (place : ℕ) → node leaves 0 place ≡ leaves place
unfolding node
node-leaf leaves place = refl

pub node-inner : (leaves : ℕ → List ℕ) (level place : ℕ) → node leaves (level + 1) place ≡ sha256 (node leaves level (2 * place) ++ node leaves level (2 * place + 1))
unfolding node
node-inner leaves level place = rw add-one refl

module _ (siblings : ℕ → List ℕ) (leaf : ℕ) (digest : List ℕ) where
  pub climbed-leaf : climbed siblings leaf digest 0 ≡ digest
  unfolding climbed
  climbed-leaf = refl

  -- the own digest is the left one
  pub climbed_left : (level : ℕ) → bit_at leaf level ≡ 0 → climbed siblings leaf digest (level + 1) ≡ sha256 (climbed siblings leaf digest level ++ siblings level)
  unfolding climbed
  climbed_left level left = rw (add-one, eq-eqb _ _ left) refl

  -- the own digest is the right one
  pub climbed_right : (level : ℕ) → bit_at leaf level ≢ 0 → climbed siblings leaf digest (level + 1) ≡ sha256 (siblings level ++ climbed siblings leaf digest level)
  unfolding climbed
  climbed_right level right = rw (add-one, ne_eqb _ _ right) refl

pub length-node : (leaves : ℕ → List ℕ) → ((leaf : ℕ) → length (leaves leaf) ≡ 32) → (level place : ℕ) → length (node leaves level place) ≡ 32
unfolding node
length-node leaves wide zero place = wide place
length-node leaves wide (suc level) place = length-sha256 _

-- The hash of a node and the one beside it, in their order, is that of their parent.
parent-pair : (leaves : ℕ → List ℕ) (level place : ℕ) (own beside : List ℕ) → own ≡ node leaves level place → beside ≡ node leaves level (sibling place) → (if place % 2 == 0 then sha256 (own ++ beside) else sha256 (beside ++ own)) ≡ sha256 (node leaves level (2 * (place / 2)) ++ node leaves level (2 * (place / 2) + 1))
parent-pair leaves level place own beside is_own is_beside =
    elim (cases_eq (place % 2) 0) [
      | inl even ↦
          let right : sibling place ≡ place + 1 = rw (eq-eqb (place % 2) 0 even) refl in
          let low : 2 * (place / 2) ≡ place = omega arith in
          rw (eq-eqb (place % 2) 0 even, low, is_own, is_beside, right) refl
      | inr odd ↦
          let left : sibling place ≡ place - 1 = rw (ne_eqb (place % 2) 0 odd) refl in
          let high : 2 * (place / 2) + 1 ≡ place = omega arith in
          let low : 2 * (place / 2) ≡ place - 1 = omega arith in
          rw (ne_eqb (place % 2) 0 odd, high, low, is_own, is_beside, left) refl
    ]

-- Climbing from a leaf by the siblings on its path gives the nodes above it.
pub climbed-node : (leaves siblings : ℕ → List ℕ) (leaf levels : ℕ) → ((level : ℕ) → level < levels → siblings level ≡ node leaves level (sibling (leaf / 2 ^ level))) → climbed siblings leaf (leaves leaf) levels ≡ node leaves levels (leaf / 2 ^ levels)
unfolding climbed node
climbed-node leaves siblings leaf zero beside = ap leaves (sym (div-one leaf))
climbed-node leaves siblings leaf (suc level) beside =
    let up : suc level ≡ level + 1 = omega arith in
    let half : leaf / 2 ^ suc level ≡ leaf / 2 ^ level / 2 = rw up (sym (shr-shr leaf level 1)) in
    let below = climbed-node leaves siblings leaf level (λ lower earlier. beside lower (omega arith)) in
    rw half (parent-pair leaves level (leaf / 2 ^ level) _ _ below (beside level (omega arith)))

sibling-lt : (place half : ℕ) → place < half * 2 → sibling place < half * 2
sibling-lt place half below =
    elim (cases_eq (place % 2) 0) [
      | inl even ↦ rw (eq-eqb (place % 2) 0 even) (omega arith)
      | inr odd ↦ rw (ne_eqb (place % 2) 0 odd) (omega arith)
    ]

-- The place of the node beside a leaf's path is one of its level.
pub sibling_room : (leaf level : ℕ) → leaf < 64 → level < 6 → sibling (leaf / 2 ^ level) < 2 ^ (6 - level)
sibling_room leaf level leaf_below level_below =
    let up : 5 - level + 1 + level ≡ 6 = omega arith in
    let here : 6 - level ≡ 5 - level + 1 = omega arith in
    let whole : leaf < 2 ^ (5 - level + 1 + level) = rw up leaf_below in
    let place = rw (pow-add 2 (5 - level) 1) at (shr_below leaf (5 - level + 1) level whole) in
    rw (here, pow-add 2 (5 - level) 1) (sibling-lt (leaf / 2 ^ level) (2 ^ (5 - level)) place)

-- ---- all nodes, each at its index

-- from 64 on there are leaves alone
pub leaf_index : (level place : ℕ) → level ≤ 6 → place < 2 ^ (6 - level) → 64 ≤ 2 ^ (6 - level) + place → level ≡ 0
leaf_index zero place few within high = refl
leaf_index (suc level) place few within high =
    let less : 2 ^ (6 - suc level) ≤ 2 ^ 5 = pow-le-pow_right {n = 2} (omega arith) {i = 6 - suc level} {j = 5} (omega arith) in
    omega (arith, less)

-- so many are a level's nodes
pub level_width : (level : ℕ) → level ≤ 6 → 64 / 2 ^ level ≡ 2 ^ (6 - level)
level_width zero few = refl
level_width (suc zero) few = refl
level_width (suc (suc zero)) few = refl
level_width (suc (suc (suc zero))) few = refl
level_width (suc (suc (suc (suc zero)))) few = refl
level_width (suc (suc (suc (suc (suc zero))))) few = refl
level_width (suc (suc (suc (suc (suc (suc zero)))))) few = refl
level_width (suc (suc (suc (suc (suc (suc (suc level))))))) few = absurd (omega arith)

pub level_narrow : (level : ℕ) → 2 ^ (6 - level) ≤ 64
level_narrow level = pow-le-pow_right {n = 2} (omega arith) {i = 6 - level} {j = 6} (omega arith)

-- twice as many nodes are a level below
twice_below : (level : ℕ) → level < 6 → 2 ^ (6 - level) ≡ 2 * 2 ^ (6 - suc level)
twice_below level few =
    let up : 6 - level ≡ 6 - suc level + 1 = omega arith in
    rw (up, pow-add 2 (6 - suc level) 1) (omega arith)

-- One more node over its two children.
pub nodes_more : (leaves : ℕ → List ℕ) (nodes : List (List ℕ)) (i : ℕ) (digest : List ℕ) → length nodes ≡ 128 → 1 < i → i ≤ 64
    → digest ≡ sha256 (get_or nodes (2 * (i - 1)) [] ++ get_or nodes (2 * (i - 1) + 1) [])
    → ((level place : ℕ) → level ≤ 6 → place < 2 ^ (6 - level) → i ≤ 2 ^ (6 - level) + place → get_or nodes (2 ^ (6 - level) + place) [] ≡ node leaves level place)
    → (level place : ℕ) → level ≤ 6 → place < 2 ^ (6 - level) → i - 1 ≤ 2 ^ (6 - level) + place → get_or (set nodes (i - 1) digest) (2 ^ (6 - level) + place) [] ≡ node leaves level place
nodes_more leaves nodes i digest whole some most is done level place few within from =
    elim (cases_eq (2 ^ (6 - level) + place) (i - 1)) [
      | inl here ↦ rw here (get_or-set_same nodes (i - 1) digest [] (omega (arith, whole)) ∙ is ∙ new level few within here)
      | inr other ↦ rw (get_or-set_other nodes (i - 1) (2 ^ (6 - level) + place) digest [] other) (done level place few within (omega arith))
    ]
  where
    new : (level : ℕ) → level ≤ 6 → place < 2 ^ (6 - level) → 2 ^ (6 - level) + place ≡ i - 1
        → sha256 (get_or nodes (2 * (i - 1)) [] ++ get_or nodes (2 * (i - 1) + 1) []) ≡ node leaves level place
    new zero few within here = absurd (omega arith)
    new (suc level) few within here =
        let twice = twice_below level few in
        let low : 2 * (i - 1) ≡ 2 ^ (6 - level) + 2 * place = omega (arith, twice, here) in
        let high : 2 * (i - 1) + 1 ≡ 2 ^ (6 - level) + (2 * place + 1) = omega (arith, twice, here) in
        let left : get_or nodes (2 * (i - 1)) [] ≡ node leaves level (2 * place) =
        rw low (done level (2 * place) (omega arith) (omega (arith, twice, within)) (omega (arith, low, some))) in
        let right : get_or nodes (2 * (i - 1) + 1) [] ≡ node leaves level (2 * place + 1) =
        rw high (done level (2 * place + 1) (omega arith) (omega (arith, twice, within)) (omega (arith, high, some))) in
        let up : suc level ≡ level + 1 = omega arith in
        rw (up, node-inner, left, right) refl
