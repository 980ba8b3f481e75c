-- No kept state is dropped for lack of room.
use Rattle.std.proofs.Common.{◌≡◌, ℕ, suc, ◌+◌, ◌*◌, ◌^◌, ◌%◌, ◌/◌, ◌<◌, ◌≤◌, Bool, true, false, cond, List, [], ◌∷◌, length, Some, refl, ap, ◌∙◌, subst, arith, nat_le, nat_lt, eqb-true, ◌==◌, ◌&&◌}
use Rattle.std.proofs.Math.Nat.{div-add-mod, lt_of_mul-lt-mul_left, mul-le-mul_left, mul-suc}
use Rattle.std.proofs.lemmas.Bool.{and_parts, leb-true}
use Rattle.std.proofs.lemmas.List.{take_all}
use Rattle.wire_format.specs.Lists.{Each}
use Rattle.events.specs.declared.output.Output.{Output}
use Rattle.ordering.specs.Log as logs
use Rattle.ordering.specs.Log.{LogData}
use Rattle.protocol.specs.System.Configuration.{Configuration}
use Rattle.protocol.specs.Replica.State.{State}
use Rattle.replica_histories.specs.Desk.{Snapshot, snapshot_of, kept_from}
use Rattle.replica_histories.specs.Events.{Start, after_outputs}
use Rattle.replica_histories.proofs.Giving.{kept_are_above}
use Rattle.replica_histories.proofs.Words.{passed}
use Rattle.orderer.specs.State.{OrdererData}
use Rattle.desk.specs.State.{DeskData, IsDesk}
use Rattle.orderer.specs.Fitting.{given}
use Rattle.replica.specs.Desks.{PartsFitEvent}
use Rattle.desk.specs.Desking.{snapshots_with}
use Rattle.desk.specs.Keeping.{Descend, AreFew, AreKept, newest_with}
use Rattle.desk.specs.DeskOf.{desk_of}

-- two multiples of the period are a period apart
multiples_apart : (period a b : ℕ) → a % period ≡ 0 → b % period ≡ 0 → a < b → a + period ≤ b
multiples_apart period a b m n less =
    let more : a / period < b / period = lt_of_mul-lt-mul_left period (omega (arith, first, second, less)) in
    let apart : period * suc (a / period) ≤ period * (b / period) = mul-le-mul_left period (omega (arith, more)) in
    let next = mul-suc period (a / period) in
    omega (arith, first, second, apart, next)
  where
    first : period * (a / period) ≡ a
    first = let e = div-add-mod a period in omega (arith, e, m)

    second : period * (b / period) ≡ b
    second = let e = div-add-mod b period in omega (arith, e, n)

-- every state at or above the low mark
above_mark : (low : ℕ) (xs : List Snapshot) → kept_from low xs ≡ xs → Each (λ x. low ≤ x.number) xs
above_mark low xs same = subst (Each (λ (x : Snapshot). low ≤ x.number)) same (all low xs)
  where
    all : (low : ℕ) (xs : List Snapshot) → Each (λ (x : Snapshot). low ≤ x.number) (kept_from low xs)
    all low [] = tt
    all low (x ∷ xs) = go (nat_le low x.number) refl (all low xs)
      where
        go : (b : Bool) → nat_le low x.number ≡ b → Each (λ (y : Snapshot). low ≤ y.number) (kept_from low xs) → Each (λ (y : Snapshot). low ≤ y.number) (cond b (x ∷ kept_from low xs) (kept_from low xs))
        go true e rest = (leb-true low x.number e, rest)
        go false e rest = rest

-- Before a state is kept there are at most two: the oldest, and one of a multiple of the period.
few_before : (low period number : ℕ) (xs : List Snapshot) → suc number ≤ low + 2 * period → suc number % period ≡ 0 → Each (λ x. low ≤ x.number) xs → Descend xs → AreKept period number xs → length xs ≤ 2
few_before low period number (x ∷ y ∷ z ∷ rest) within multiple above order h =
    let most = h.below.0 in
    let least = above.1.1.0 in
    let last = order.1.0.0 in
    let one = multiples_apart period x.number (suc number) h.due.0 multiple (omega (arith, most)) in
    let two = multiples_apart period y.number x.number h.due.1.0 h.due.0 order.0.0 in
    absurd (omega (arith, one, two, least, last, within))
few_before low period number _ within multiple above order h = omega arith

-- all are kept, if there is room
abbrev pub all_with : ℕ → State → List Snapshot → List Snapshot
all_with period st snapshots = cond (st.number % period == 0) (snapshot_of st ∷ snapshots) snapshots

pub all_kept : (c : Configuration) (s : Start) (o : OrdererData) (d : DeskData) (before : List Output) (text : List ℕ) (st : State) → IsDesk d → AreFew d.snapshots → st.number ≡ suc d.executed.state.number
    → logs.committed_batch o.log (suc d.executed.state.number) ≡ Some text → PartsFitEvent c s o d [] before → snapshots_with d.period st d.snapshots ≡ all_with d.period st d.snapshots
all_kept c s o d before text st is few next committed stands = go (st.number % d.period == 0) refl
  where
    log : LogData
    log = o.log

    mark : logs.is_in_marks log (suc d.executed.state.number) ≡ true
    mark = (passed (logs.is_in_marks log (suc d.executed.state.number)) _ text committed).0

    span_is : log.span ≡ 2 * d.period
    span_is = stands.fits.fits.of_log.span ∙ ap (λ (n : ℕ). 2 * n) stands.is.period_is

    within : suc d.executed.state.number ≤ log.low + 2 * d.period
    within =
        let a = and_parts (nat_lt log.low (suc d.executed.state.number) && nat_le (suc d.executed.state.number) (log.low + log.span)) (nat_lt (suc d.executed.state.number) (2 ^ 48)) mark in
        let b = and_parts (nat_lt log.low (suc d.executed.state.number)) (nat_le (suc d.executed.state.number) (log.low + log.span)) a.0 in
        let l = leb-true (suc d.executed.state.number) (log.low + log.span) b.1 in
        omega (arith, l, span_is)

    same : kept_from log.low d.snapshots ≡ d.snapshots
    same = ap (λ x. x.snapshots) (kept_are_above c d.me (desk_of c d) log stands.fits.fits.of_desk.states (after_outputs s (given d.me before)) stands.fits.fits.of_log stands.fits.fits.of_desk.kept)

    go : (b : Bool) → (st.number % d.period == 0) ≡ b → cond b (newest_with (snapshot_of st) d.snapshots) d.snapshots ≡ cond b (snapshot_of st ∷ d.snapshots) d.snapshots
    go true e =
        let multiple : suc d.executed.state.number % d.period ≡ 0 = subst (λ (n : ℕ). n % d.period ≡ 0) next (eqb-true (st.number % d.period) 0 e) in
        let l = few_before log.low d.period d.executed.state.number d.snapshots within multiple (above_mark log.low d.snapshots same) few.descend is.3 in
        take_all 3 (snapshot_of st ∷ d.snapshots) (omega (arith, l))
    go false e = refl
