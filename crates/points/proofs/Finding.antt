-- The positions of numbers, by a search.
use Rattle.std.proofs.Common.{◌≡◌, ℕ, zero, suc, ◌≤◌, ◌<◌, Bool, true, false, cond, List, [], ◌∷◌, ◌++◌, length, reverse, Bor, refl, sym, ap, ◌∙◌, arith, Option, Some, None}
use Rattle.std.specs.Prelude.{nat_le, nat_lt, option_map}
use Rattle.std.specs.Bool.{then_some}
use Rattle.std.specs.Option.{option_map_or}
use Rattle.std.specs.List.{slice_get}
use Rattle.std.specs.Slice.{IsItemAt}
use Rattle.std.specs.List.Sorted.{IsPartitionPoint}
use Rattle.std.proofs.lemmas.Bool.{le-leb, lt-leb, ltb-true, ltb-false, ne_eqb}
use Rattle.std.proofs.lemmas.List.{reverse-append}
use Rattle.std.proofs.lemmas.Option.{slice_get_past, slice_get-get_or}
use Rattle.quorum.specs.Votes.{or_else}
use Rattle.protocol.specs.System.Configuration.{Configuration, IsConfiguration}
use Rattle.protocol.specs.System.Trace.{Entry}
use Rattle.protocol.specs.Space.Linear.{first_position}
use Rattle.points.specs.declared.levels.Rise.{Rise}
use Rattle.points.specs.Leveling.{level_position, rises}
use Rattle.points.specs.Places.{position_in}
use Rattle.points.proofs.Rising.{places_are, zero_is_first}

-- the position of the first that is at least the number, the oldest first
abbrev pub found_in : List Rise → ℕ → Option ℕ
found_in [] k = None
found_in (x ∷ xs) k = cond (nat_le k x.level) (Some x.position) (found_in xs k)

place_last : (ys : List Rise) (x : Rise) (k : ℕ) → level_position (ys ++ x ∷ []) k ≡ or_else (then_some (nat_le k x.level) x.position) (level_position ys k)
place_last [] x k = go (nat_le k x.level)
  where
    go : (b : Bool) → or_else None (then_some b x.position) ≡ or_else (then_some b x.position) None
    go true = refl
    go false = refl
place_last (y ∷ ys) x k =
    ap (λ o. or_else o (then_some (nat_le k y.level) y.position)) (place_last ys x k)
    ∙ joined (then_some (nat_le k x.level) x.position) (level_position ys k) (then_some (nat_le k y.level) y.position)
  where
    joined : (a b d : Option ℕ) → or_else (or_else a b) d ≡ or_else a (or_else b d)
    joined None b d = refl
    joined (Some n) b d = refl

pub place_reverse : (xs : List Rise) (k : ℕ) → level_position (reverse xs) k ≡ found_in xs k
place_reverse [] k = refl
place_reverse (x ∷ xs) k =
    ap (λ ys. level_position ys k) (reverse-append (x ∷ []) xs) ∙ place_last (reverse xs) x k ∙ go (nat_le k x.level) (place_reverse xs k)
  where
    go : (b : Bool) → level_position (reverse xs) k ≡ found_in xs k → or_else (then_some b x.position) (level_position (reverse xs) k) ≡ cond b (Some x.position) (found_in xs k)
    go true below = refl
    go false below = below

abbrev position_at : List Rise → ℕ → Option ℕ
position_at xs i = option_map (λ (x : Rise). x.position) (slice_get xs i)

pub found_at : (xs : List Rise) (k i : ℕ) → i ≤ length xs → IsPartitionPoint (λ (x : Rise). nat_lt x.level k ≡ true) (λ (x : Rise). nat_lt x.level k ≡ false) xs i
    → found_in xs k ≡ position_at xs i
found_at [] k zero l h = refl
found_at [] k (suc i) l h = absurd (omega arith)
found_at (x ∷ xs) k zero l h =
    let t : nat_lt x.level k ≡ false = h.1 0 x (omega arith) (omega arith) in
    let m : k ≤ x.level = ltb-false x.level k t in
    ap (λ b. cond b (Some x.position) (found_in xs k)) (le-leb k x.level m)
found_at (x ∷ xs) k (suc i) l h =
    let t : nat_lt x.level k ≡ true = h.0 0 x (omega arith) (omega arith) in
    let m : x.level < k = ltb-true x.level k t in
    ap (λ b. cond b (Some x.position) (found_in xs k)) (lt-leb k x.level m)
    ∙ found_at xs k i (omega arith) ((λ j d a b. h.0 (suc j) d (omega arith) (omega arith)), (λ j d a b. h.1 (suc j) d (omega arith) (omega arith)))

-- ---- the same by the definition

-- the first position of a level, else 0
abbrev pub position_of : Configuration → List Entry → ℕ → ℕ
position_of c trace k = option_map_or (λ x. x) (first_position c trace k) 0

pub positions_are : (c : Configuration) → IsConfiguration c → (trace : List Entry) (k : ℕ) → position_of c trace k ≡ position_in (rises c trace) k
positions_are c setting trace zero = zero_is_first c setting trace
positions_are c setting trace (suc k) =
    ap (λ o. option_map_or (λ x. x) o 0) (places_are c setting trace (suc k) (omega arith))
    ∙ sym (ap (λ b. cond b 0 (option_map_or (λ x. x) (level_position (rises c trace) (suc k)) 0)) (ne_eqb (suc k) 0 (λ e. omega arith)))

-- ---- by a lent element

abbrev pub position_lent : Option (Bor Rise) → Option ℕ
position_lent r = option_map (λ (x : Bor Rise). x.now.position) r

lent : (xs : List Rise) (i : ℕ) (r : Option (Bor Rise)) → IsItemAt xs i r → position_lent r ≡ position_at xs i
lent xs i None at = sym (ap (option_map (λ (x : Rise). x.position)) (slice_get_past xs i at.3))
lent xs i (Some r) at =
    ap (λ (x : Rise). let o : Option ℕ = Some x.position in o) at.1
    ∙ sym (ap (option_map (λ (x : Rise). x.position)) (slice_get-get_or xs i r.now at.3.0))

pub first_is : (xs : List Rise) (k i : ℕ) (r : Option (Bor Rise)) → i ≤ length xs → IsPartitionPoint (λ (x : Rise). nat_lt x.level k ≡ true) (λ (x : Rise). nat_lt x.level k ≡ false) xs i
    → IsItemAt xs i r → position_lent r ≡ level_position (reverse xs) k
first_is xs k i r l h at = lent xs i r at ∙ sym (found_at xs k i l h) ∙ sym (place_reverse xs k)
