-- The calls of reads.
use Rattle.std.proofs.Common.{◌≡◌, ℕ, ◌+◌, ◌^◌, ◌⊎◌, inl, inr, ◌≤◌, ◌<◌, Bool, true, false, cond, not, ◌&&◌, ◌||◌, List, [], ◌∷◌, ◌++◌, filter, length, length-append, append-nil, append_assoc, refl, sym, ap, ap₂, ◌∙◌, subst, arith, eq-eqb, Option, Some, None}
use Rattle.std.proofs.lemmas.List.{map-append}
use Rattle.std.specs.Prelude.{◌==◌}
use Rattle.std.specs.List.{list_any}
use Rattle.std.specs.Ordering.{nat_cmp, ordering_then, is_eq}
use Rattle.std.specs.declared.cmp.Ordering.{Ordering}
use Rattle.std.specs.BTreeMap.{is_at}
use Rattle.std.proofs.lemmas.Bool.{cases_order, ne_eqb}
use Rattle.space.proofs.Trees.{less, greater}
use Rattle.authenticator.specs.Membership.{Membership}
use Rattle.protocol.specs.System.Trace.{Entry}
use Rattle.protocol.specs.Space.Linear.{Placing, insert_point, is_double, sorted}
use Rattle.points.specs.declared.levels.Rise.{Rise}
use Rattle.points.specs.declared.scans.ClientScan.{ClientScan}
use Rattle.points.specs.Places.{position_in}
use Rattle.points.specs.Scanning.{AreScans, EndsNone, EntryEndsRead, entry_read, reads_by_scans, with_read}
use Rattle.points.specs.declared.sorting.CallKey.{CallKey}
use Rattle.points.specs.declared.point.Placed.{Placed}
use Rattle.points.specs.declared.sorting.Key.{Key}
use Rattle.points.specs.declared.sorting.Reads.{Reads}
use Rattle.points.specs.PointView.{placing_of, placings_of}
use Rattle.points.specs.Sorting.{call_cmp, sorted_of, AddsEnded, AddsRead, AreCallsOfReads, AreRankedAbove, HoldsReads, MergesInto}
use Rattle.points.proofs.Ordering.{equal}

one : (a b : ℕ) (o : Ordering) → is_eq (ordering_then (nat_cmp a b) o) ≡ ((a == b) && is_eq o)
one a b o = go (cases_order a b)
  where
    go : (a ≡ b) ⊎ ((a < b) ⊎ (b < a)) → is_eq (ordering_then (nat_cmp a b) o) ≡ ((a == b) && is_eq o)
    go (inl e) = ap (λ x. is_eq (ordering_then x o)) (equal a b e) ∙ sym (ap (λ t. t && is_eq o) (eq-eqb a b e))
    go (inr (inl l)) = ap (λ x. is_eq (ordering_then x o)) (less a b l) ∙ sym (ap (λ t. t && is_eq o) (ne_eqb a b (λ e. omega arith)))
    go (inr (inr l)) = ap (λ x. is_eq (ordering_then x o)) (greater a b l) ∙ sym (ap (λ t. t && is_eq o) (ne_eqb a b (λ e. omega arith)))

same_number : (a b : ℕ) → is_eq (nat_cmp a b) ≡ (a == b)
same_number a b = go (cases_order a b)
  where
    go : (a ≡ b) ⊎ ((a < b) ⊎ (b < a)) → is_eq (nat_cmp a b) ≡ (a == b)
    go (inl e) = ap is_eq (equal a b e) ∙ sym (eq-eqb a b e)
    go (inr (inl l)) = ap is_eq (less a b l) ∙ sym (ne_eqb a b (λ e. omega arith))
    go (inr (inr l)) = ap is_eq (greater a b l) ∙ sym (ne_eqb a b (λ e. omega arith))

same_call : (a b : CallKey) → is_at (call_cmp a) b ≡ ((a.client == b.client) && (a.timestamp == b.timestamp))
same_call a b = one a.client b.client (nat_cmp a.timestamp b.timestamp) ∙ ap (λ t. (a.client == b.client) && t) (same_number a.timestamp b.timestamp)

pub no_calls : AreCallsOfReads [] []
no_calls x key e f = refl

-- a read's call is added
pub calls_on : (reads : List Placing) (read : Placing) (old new : List CallKey) (own : CallKey) → own.client ≡ read.item.client → own.timestamp ≡ read.item.timestamp
    → ((q : CallKey) → list_any (is_at (call_cmp q)) new ≡ cond (is_at (call_cmp own) q) true (list_any (is_at (call_cmp q)) old))
    → AreCallsOfReads reads old → AreCallsOfReads (read ∷ reads) new
calls_on reads read old new own c t puts h x key e f =
    puts key ∙ ap₂ (λ a b. cond a true b) (same_call own key ∙ ap₂ (λ a b. a && b) (ap₂ (λ a b. a == b) c e) (ap₂ (λ a b. a == b) t f)) (h x key e f)
    ∙ either ((read.item.client == x.item.client) && (read.item.timestamp == x.item.timestamp)) (is_double reads x)
  where
    either : (a b : Bool) → cond a true b ≡ (a || b)
    either true b = refl
    either false b = refl

-- ---- reads that are added

pub adds_none : (rank : ℕ) (held : Reads) → AddsRead rank None held held
adds_none rank held reads h = record { sorted = h.sorted; ranked = λ r l. h.ranked r (omega arith); calls = h.calls }

pub adds_some : (rank : ℕ) (p : Placed) (old new : Reads) (own : CallKey) → own.client ≡ (placing_of p).item.client → own.timestamp ≡ (placing_of p).item.timestamp
    → sorted_of new.sorted.entries ≡ insert_point (placing_of p) (sorted_of old.sorted.entries)
    → ((r : ℕ) → r < rank → AreRankedAbove r new.sorted.entries)
    → ((q : CallKey) → list_any (is_at (call_cmp q)) new.calls.keys ≡ cond (is_at (call_cmp own) q) true (list_any (is_at (call_cmp q)) old.calls.keys))
    → AddsRead rank (Some (placing_of p)) old new
adds_some rank p old new own c t sorts ranked puts reads h = record {
  sorted = sorts ∙ ap (insert_point (placing_of p)) h.sorted;
  ranked = ranked;
  calls = calls_on reads (placing_of p) old.calls.keys new.calls.keys own c t puts h.calls;
}

pub holds_none : (bound : ℕ) (held : Reads) → held.sorted.entries ≡ [] → held.calls.keys ≡ [] → HoldsReads bound [] held
holds_none bound held s k = record {
  sorted = ap sorted_of s;
  ranked = λ r l. subst (AreRankedAbove r) (sym s) tt;
  calls = subst (AreCallsOfReads []) (sym k) no_calls;
}

-- ---- ordered points that are added to them

-- the points taken from the end, which stand sorted with the reads
pub record Merged (held : Reads) (all rest : List Placed) (entries : List (Key × Placed)) : Type 0 where
  pub done : List Placing
  pub parts : placings_of all ≡ placings_of rest ++ done
  pub sorts : (reads : List Placing) → HoldsReads (2 ^ 63) reads held → sorted_of entries ≡ sorted (filter (λ x. not (is_double reads x)) done ++ reads)
  pub ranked : (r : ℕ) → r < length rest → AreRankedAbove r entries

one_less : (all rest left : List Placed) (p : Placed) (done : List Placing) → rest ≡ left ++ p ∷ [] → placings_of all ≡ placings_of rest ++ done → placings_of all ≡ placings_of left ++ placing_of p ∷ done
one_less all rest left p done is parts =
    parts ∙ ap (λ xs. placings_of xs ++ done) is ∙ ap (λ xs. xs ++ done) (map-append placing_of left (p ∷ [])) ∙ append_assoc (placings_of left) (placing_of p ∷ []) done

pub merged_begins : (held : Reads) (all : List Placed) → ((r : ℕ) → r < length all → AreRankedAbove r held.sorted.entries) → Merged held all all held.sorted.entries
merged_begins held all ranked = record {
  done = [];
  parts = sym (append-nil (placings_of all));
  sorts = λ reads h. h.sorted;
  ranked = ranked;
}

shorter : (rest left : List Placed) (p : Placed) (r : ℕ) → rest ≡ left ++ p ∷ [] → r < length left → r < length rest
shorter rest left p r is l = let n = ap length is in let m = length-append left (p ∷ []) in omega arith

pub one_shorter : (rest left : List Placed) (p : Placed) → rest ≡ left ++ p ∷ [] → length left < length rest
one_shorter rest left p is = let n = ap length is in let m = length-append left (p ∷ []) in omega arith

pub merged_double : (held : Reads) (all rest left : List Placed) (p : Placed) (own : CallKey) (entries : List (Key × Placed)) → rest ≡ left ++ p ∷ []
    → own.client ≡ (placing_of p).item.client → own.timestamp ≡ (placing_of p).item.timestamp
    → list_any (is_at (call_cmp own)) held.calls.keys ≡ true → Merged held all rest entries → Merged held all left entries
merged_double held all rest left p own entries is c t double m = record {
  done = placing_of p ∷ m.done;
  parts = one_less all rest left p m.done is m.parts;
  sorts = λ reads h. m.sorts reads h
      ∙ sym (ap (λ b. sorted (cond (not b) (placing_of p ∷ filter (λ x. not (is_double reads x)) m.done) (filter (λ x. not (is_double reads x)) m.done) ++ reads)) (sym (h.calls (placing_of p) own c t) ∙ double));
  ranked = λ r l. m.ranked r (shorter rest left p r is l);
}

pub merged_kept : (held : Reads) (all rest left : List Placed) (p : Placed) (own : CallKey) (entries entries' : List (Key × Placed)) → rest ≡ left ++ p ∷ []
    → own.client ≡ (placing_of p).item.client → own.timestamp ≡ (placing_of p).item.timestamp
    → list_any (is_at (call_cmp own)) held.calls.keys ≡ false
    → sorted_of entries' ≡ insert_point (placing_of p) (sorted_of entries) → ((r : ℕ) → r < length left → AreRankedAbove r entries')
    → Merged held all rest entries → Merged held all left entries'
merged_kept held all rest left p own entries entries' is c t single sorts ranked m = record {
  done = placing_of p ∷ m.done;
  parts = one_less all rest left p m.done is m.parts;
  sorts = λ reads h. sorts ∙ ap (insert_point (placing_of p)) (m.sorts reads h)
      ∙ sym (ap (λ b. sorted (cond (not b) (placing_of p ∷ filter (λ x. not (is_double reads x)) m.done) (filter (λ x. not (is_double reads x)) m.done) ++ reads)) (sym (h.calls (placing_of p) own c t) ∙ single));
  ranked = ranked;
}

pub merged_all : (held : Reads) (all rest : List Placed) (entries : List (Key × Placed)) → rest ≡ [] → Merged held all rest entries → MergesInto held (placings_of all) (sorted_of entries)
merged_all held all rest entries none m reads h =
    m.sorts reads h ∙ ap (λ done. sorted (filter (λ x. not (is_double reads x)) done ++ reads)) (sym (m.parts ∙ ap (λ xs. placings_of xs ++ m.done) none))

-- a lower bound
pub holds_less : (low bound : ℕ) (reads : List Placing) (held : Reads) → low ≤ bound → HoldsReads bound reads held → HoldsReads low reads held
holds_less low bound reads held l h = record { sorted = h.sorted; ranked = λ r m. h.ranked r (omega arith); calls = h.calls }

-- after one more entry
pub ended_on : (m ring : Membership) (found : List Rise) (past : List Entry) (e : Entry) (scans : List (ℕ × ClientScan)) (old new : Reads) (rank bound : ℕ)
    → ring ≡ m → AddsEnded ring found scans e rank old new → AreScans past scans → rank + 1 ≡ bound
    → HoldsReads bound (reads_by_scans m (position_in found) past) old → HoldsReads rank (reads_by_scans m (position_in found) (e ∷ past)) new
ended_on m ring found past e scans old new rank bound same adds at next h =
    subst (λ r. HoldsReads rank (with_read r (reads_by_scans m (position_in found) past)) new) (ap (λ (x : Membership). entry_read x (position_in found) past e) same)
    (adds past at (reads_by_scans m (position_in found) past) (subst (λ b. HoldsReads b (reads_by_scans m (position_in found) past) old) (sym next) h))

-- an entry that ends no read adds none
pub adds_not : (m : Membership) (found : List Rise) (scans : List (ℕ × ClientScan)) (e : Entry) (rank : ℕ) (held : Reads) → EndsNone e → AddsEnded m found scans e rank held held
adds_not m found scans e rank held none past at = subst (λ r. AddsRead rank r held held) (none m (position_in found) past) (adds_none rank held)

pub adds_ended : (m : Membership) (found : List Rise) (scans : List (ℕ × ClientScan)) (e : Entry) (rank : ℕ) (read : Option Placing) (old new : Reads)
    → EntryEndsRead m found scans e read → AddsRead rank read old new → AddsEnded m found scans e rank old new
adds_ended m found scans e rank read old new is adds past at = subst (λ r. AddsRead rank r old new) (is past at) adds
