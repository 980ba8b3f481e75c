-- The points of a trace, by all parts.
use Rattle.std.proofs.Common.{◌≡◌, ℕ, suc, ◌≤◌, ◌^◌, List, [], ◌∷◌, ◌++◌, map, filter, not, refl, sym, ap, ap₂, ◌∙◌, arith, Option}
use Rattle.wire_format.specs.Words.{requests_of}
use Rattle.protocol.specs.System.Configuration.{Configuration, IsConfiguration}
use Rattle.protocol.specs.System.Trace.{Entry}
use Rattle.protocol.specs.Replica.State.{State, opening, execute, ran_in}
use Rattle.protocol.specs.Space.Linear.{Placing, sorted, is_double, points, ordered_points, read_points, first_position, last_executed}
use Rattle.points.specs.Leveling.{level_position, rises}
use Rattle.points.specs.Places.{position_in}
use Rattle.points.specs.Numbering.{Numbered, AscendsFrom, numbered_points, points_at, ready_for}
use Rattle.points.specs.Batching.{CollectsBatches}
use Rattle.points.specs.declared.levels.Rise.{Rise}
use Rattle.points.specs.declared.sorting.Reads.{Reads}
use Rattle.points.specs.Scanning.{reads_by_scans, seed_holder}
use Rattle.points.specs.Sorting.{HoldsReads, MergesInto}
use Rattle.points.proofs.Collecting.{lists}
use Rattle.points.proofs.Finding.{positions_are}
use Rattle.points.proofs.Numbers.{ordered_are}
use Rattle.points.proofs.Rising.{places_are}
use Rattle.points.proofs.Scanning.{reads_are}

-- only the places of the available numbers count
numbered_same : (c : Configuration) (f g : ℕ → Option ℕ) → ((k : ℕ) → 1 ≤ k → f k ≡ g k) → (st : State) (m : ℕ) (xs : List Numbered) → 1 ≤ m → AscendsFrom m xs
    → numbered_points c f st xs ≡ numbered_points c g st xs
numbered_same c f g same st m [] l a = refl
numbered_same c f g same st m (x ∷ xs) l a =
    ap₂ (λ o ys. points_at o x.number (ran_in c x.number (ready_for x.number st) (requests_of x.batch)) ++ ys) (same x.number (let h = a.0 in omega arith))
    (numbered_same c f g same (execute c (ready_for x.number st) x.batch) (suc x.number) xs (omega arith) a.1)

-- those of a trace, by the batches and the reads that the scans found
pub points_are : (c : Configuration) → IsConfiguration c → (trace : List Entry) (xs : List Numbered) → CollectsBatches trace xs
    → (ordered : List Placing) → ordered ≡ numbered_points c (level_position (rises c trace)) opening xs
    → (found : List Placing) → found ≡ sorted (filter (λ x. not (is_double (reads_by_scans (seed_holder c) (position_in (rises c trace)) trace) x)) ordered ++ reads_by_scans (seed_holder c) (position_in (rises c trace)) trace)
    → map (λ x. x.item) found ≡ points c trace
unfolding points
points_are c setting trace xs h ordered is found all =
    ap (map (λ (x : Placing). x.item)) (all ∙ sym (ap₂ (λ (reads ys : List Placing). sorted (filter (λ x. not (is_double reads x)) ys ++ reads)) reads whole))
  where
    reads : read_points c trace trace ≡ reads_by_scans (seed_holder c) (position_in (rises c trace)) trace
    reads = reads_are c trace (position_in (rises c trace)) (positions_are c setting trace) trace

    whole : ordered_points c trace opening 1 (last_executed trace) ≡ ordered
    whole =
        ordered_are c trace opening 0 (last_executed trace) xs refl (lists trace xs h)
        ∙ numbered_same c (first_position c trace) (level_position (rises c trace)) (places_are c setting trace) opening 1 xs (omega arith) h.ascends
        ∙ sym is

-- the same of what the parts gave
pub points_of_trace : (c : Configuration) → IsConfiguration c → (trace : List Entry) (risen : List Rise) → risen ≡ rises c trace
    → (xs : List Numbered) → CollectsBatches trace xs → (ordered found : List Placing)
    → (held : Reads) → HoldsReads (2 ^ 63) (reads_by_scans (seed_holder c) (position_in risen) trace) held
    → ordered ≡ numbered_points c (level_position risen) opening xs → MergesInto held ordered found
    → map (λ x. x.item) found ≡ points c trace
points_of_trace c setting trace risen is xs h ordered found held reads ran merged =
    points_are c setting trace xs h ordered (ran ∙ ap (λ rs. numbered_points c (level_position rs) opening xs) is) found
    (merged (reads_by_scans (seed_holder c) (position_in risen) trace) reads
    ∙ ap (λ rs. sorted (filter (λ x. not (is_double (reads_by_scans (seed_holder c) (position_in rs) trace) x)) ordered ++ reads_by_scans (seed_holder c) (position_in rs) trace)) is)
