-- If no batch can stand at a number of the range, there is no selection; and some view change lists a start.
use Rattle.std.specs.List.{list_any}
use Rattle.std.specs.Prelude.{◌==◌, nat_le}
use Rattle.std.proofs.Common.{◌≡◌, ℕ, zero, suc, ◌+◌, ◌-◌, inl, inr, Bool, true, List, [], ◌∷◌, slice_get, bytes_eq, Some, sym, subst, arith, ◌&&◌, eqb-true}
use Rattle.std.proofs.lemmas.Bool.{and_parts, lt-ltb, leb-true, false_from_ne_true}
use Rattle.std.proofs.lemmas.Slice.Eq.{bytes_eq-Decides}
use Rattle.protocol.specs.System.Configuration.{Configuration, replicas}
use Rattle.wire_format.specs.Messages.{ViewChangeData, CheckpointEntryData as CheckpointEntry}
use Rattle.protocol.specs.System.Trace.{Has}
use Rattle.protocol.specs.Replica.Selection.{is_quorum, is_weak_quorum, passes_by, count_in, is_start}
use Rattle.protocol.proofs.Words.Lists.{get_there, stands_at, some_below, passes_change, change_there}
use Rattle.protocol.proofs.Words.Elements.{has_of_any}
use Rattle.view_change.specs.Selecting.{meets, IsAvailable, AreFrom}
use Rattle.view_change.specs.Laws.{GapsForbid, StartsAreListed}
use Rattle.view_change.proofs.Larger.{Meets, meets_parts}

-- the batch at a place is one of the available ones
from_at : (texts batches : List (List ℕ)) (k : ℕ) (batch : List ℕ) → AreFrom texts batches → slice_get batches k ≡ Some batch → IsAvailable texts batch
from_at texts [] k batch h get = absurd cc
from_at texts (x ∷ xs) zero batch h get = let e : x ≡ batch = cc in subst (IsAvailable texts) e h.0
from_at texts (x ∷ xs) (suc k) batch h get = from_at texts xs k batch h.1 get

pub gaps_forbid : GapsForbid
gaps_forbid c view start number root set texts batches above within none from =
    false_from_ne_true (meets c view set start root batches) (λ h. refuted (meets_parts c view set start root batches h))
  where
    refuted : Meets c view set start root batches → ⊥
    refuted m =
        let long = m.long in
        let get = get_there batches (number - suc start) (omega arith) in
        let stands = stands_at c view set (suc start) batches (number - suc start) get.0 m.stand get.1 number (omega arith) in
        let never = none get.0 (from_at texts batches (number - suc start) get.0 from get.1) in
        absurd cc

-- some view change lists a start, by its own rule
pub start_is_listed : (c : Configuration) (start : ℕ) (root : List ℕ) (set : List (ℕ × ViewChangeData)) → is_start c set start root ≡ true
    → Has (λ x. Has (λ (checkpoint : CheckpointEntry). (checkpoint.number ≡ start) × (checkpoint.digest ≡ root)) x.1.checkpoints) set
start_is_listed c start root set begins =
    let lows : ViewChangeData → Bool = λ vc. nat_le vc.low start in
    let lists : ViewChangeData → Bool = λ vc. list_any (λ (checkpoint : CheckpointEntry). (checkpoint.number == start) && bytes_eq checkpoint.digest root) vc.checkpoints in
    let p = and_parts (is_quorum c (count_in c lows set)) (is_weak_quorum c (count_in c lists set)) begins in
    let enough = leb-true (c.faults + 1) (count_in c lists set) p.1 in
    let some = some_below (passes_by lists set) (replicas c) (lt-ltb 0 (count_in c lists set) (omega arith)) in
    let r = passes_change lists set some.0 some.2 in
    there set (some.0, r.0) (change_there set some.0 r.0 r.1)
    (has_of_any (λ (checkpoint : CheckpointEntry). (checkpoint.number ≡ start) × (checkpoint.digest ≡ root)) (λ (checkpoint : CheckpointEntry). (checkpoint.number == start) && bytes_eq checkpoint.digest root)
    (λ checkpoint t. let q = and_parts (checkpoint.number == start) (bytes_eq checkpoint.digest root) t in (eqb-true checkpoint.number start q.0, (bytes_eq-Decides checkpoint.digest root).0 q.1)) r.0.checkpoints r.2)
  where
    there : (set : List (ℕ × ViewChangeData)) (y : ℕ × ViewChangeData) → Has (λ z. z ≡ y) set → Has (λ (checkpoint : CheckpointEntry). (checkpoint.number ≡ start) × (checkpoint.digest ≡ root)) y.1.checkpoints
        → Has (λ x. Has (λ (checkpoint : CheckpointEntry). (checkpoint.number ≡ start) × (checkpoint.digest ≡ root)) x.1.checkpoints) set
    there [] y has h = absurd has
    there (x ∷ xs) y (inl same) h = inl (subst (λ (z : ℕ × ViewChangeData). Has (λ (checkpoint : CheckpointEntry). (checkpoint.number ≡ start) × (checkpoint.digest ≡ root)) z.1.checkpoints) (sym same) h)
    there (x ∷ xs) y (inr rest) h = inr (there xs y rest h)

pub starts_are_listed : StartsAreListed
starts_are_listed c view start root set batches h = start_is_listed c start root set (meets_parts c view set start root batches h).begins
