-- How long so many timeouts take.
use Rattle.std.proofs.Common.{ℕ, zero, suc, subst, zero-add, suc-add, ◌+◌, ◌-◌, ◌*◌, ◌/◌, ◌^◌, ◌≤◌, true, false, List, [], ◌∷◌, arith}
use Rattle.std.proofs.Math.Nat.{le-min, min-le_right, le-max_right}
use Rattle.patience.specs.Moments.{Moment, began, timed_out, spared, followed, entered, moved, linked, costly, shortest, lasts}
use Rattle.patience.specs.Laws.{waited, TimeoutsTakeTime}
use Rattle.patience.specs.declared.patience.TheConstants.{FIRST, LONGEST, DOUBLES_AFTER}
use Rattle.patience.proofs.Shortest.{next_shortest}

-- the least milliseconds of so many of them
abbrev least : ℕ → ℕ
least zero = 0
least (suc n) = shortest n + least n

-- The next timer is never shorter than the shortest.
lasts_long : (past : List Moment) → shortest (costly past) ≤ lasts past
lasts_long [] = omega arith
lasts_long (began wait ∷ past) = lasts_long past
lasts_long (timed_out true ∷ past) =
    le-min (omega (arith, next_shortest (costly past), lasts_long past)) (min-le_right (FIRST * 2 ^ (suc (costly past) / DOUBLES_AFTER)) LONGEST)
lasts_long (timed_out false ∷ past) =
    le-min (omega (arith, lasts_long past)) (min-le_right (FIRST * 2 ^ (costly past / DOUBLES_AFTER)) LONGEST)
lasts_long (spared ∷ past) = lasts_long past
lasts_long (followed ∷ past) =
    le-min (omega (arith, lasts_long past)) (min-le_right (FIRST * 2 ^ (costly past / DOUBLES_AFTER)) LONGEST)
lasts_long (entered ∷ past) = lasts_long past
lasts_long (moved ∷ past) = le-max_right (lasts past / 2) (shortest (costly past))
lasts_long (linked count ∷ past) = lasts_long past

waited_long : (past : List Moment) → least (costly past) ≤ waited past
waited_long [] = omega arith
waited_long (began wait ∷ past) = waited_long past
waited_long (timed_out true ∷ past) = omega (arith, waited_long past, lasts_long past)
waited_long (timed_out false ∷ past) = omega (arith, waited_long past)
waited_long (spared ∷ past) = waited_long past
waited_long (followed ∷ past) = waited_long past
waited_long (entered ∷ past) = waited_long past
waited_long (moved ∷ past) = waited_long past
waited_long (linked count ∷ past) = waited_long past

least_grows : (n k : ℕ) → least n ≤ least (k + n)
least_grows n zero = rw zero-add (omega arith)
least_grows n (suc k) = rw suc-add (omega (arith, least_grows n k))

pub timeouts_take_time : TimeoutsTakeTime
timeouts_take_time past many =
    let more = least_grows 64 (costly past - 64) in
    let all : least 64 ≤ least (costly past) = subst (λ n. least 64 ≤ least n) (omega arith) more in
    omega (arith, all, waited_long past)
