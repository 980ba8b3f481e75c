-- The new view over the stored view changes for its view.
use Rattle.std.specs.Prelude.{◌==◌, nat_le}
use Rattle.std.specs.List.{list_any}
use Rattle.std.proofs.Common.{◌≡◌, ℕ, ◌+◌, ◌*◌, ◌^◌, ◌≤◌, ◌<◌, ◌⊎◌, inl, inr, Bool, true, List, [], ◌∷◌, length, bytes_eq, Option, refl, sym, ap, ◌∙◌, subst, arith, ◌&&◌}
use Rattle.std.proofs.lemmas.Bool.{and_parts, and_from, cases_lt, leb-true, lt-ltb, eq-eqb}
use Rattle.std.proofs.lemmas.List.{length-map}
use Rattle.wire_format.specs.Messages.{NewViewData, ViewChangeData, CheckpointEntryData as CheckpointEntry}
use Rattle.wire_format.specs.Spelling.{IsBatch, IsDigest, IsNewView}
use Rattle.wire_format.specs.Lists.{Each}
use Rattle.protocol.specs.System.Configuration.{Configuration, replicas, span}
use Rattle.protocol.specs.System.Trace.{Has}
use Rattle.protocol.specs.Replica.Selection.{ascending, changes_of, count_in, is_quorum, is_weak_quorum, list_of, may_select, passes_by}
use Rattle.protocol.proofs.Agreement.Marks.{largest_of-le}
use Rattle.protocol.proofs.Words.Lists.{change_there, passes_change, some_below}
use Rattle.view_change.specs.ReceivedData.{HeldData, IsHeldSet, frames_for, held_for, pairs_for}
use Rattle.view_change.specs.Selecting.{are_for, is_set_for, meets}
use Rattle.view_change.proofs.Deciding.{list_of_given}
use Rattle.view_change.proofs.Larger.{count_weaker, meets_parts, more_than, selects_by_set}
use Rattle.view_change.proofs.Starting.{start_is_number}

-- the new view
abbrev pub assembled : ℕ → List (Option HeldData) → ℕ → List ℕ → List (List ℕ) → NewViewData
assembled view held start root batches = record { view = view; changes = frames_for view held; start = start; root = root; batches = batches }

as_many : (view : ℕ) (held : List (Option HeldData)) → length (pairs_for view held) ≡ length (frames_for view held)
as_many view held = length-map (held_for view held) (λ (h : HeldData). (h.sender, h.change)) ∙ sym (length-map (held_for view held) (λ (h : HeldData). h.frame))

module _ (c : Configuration) (view : ℕ) (held : List (Option HeldData)) (start : ℕ) (root : List ℕ) (batches : List (List ℕ)) (set : IsHeldSet c view held)
    (fit : meets c view (pairs_for view held) start root batches ≡ true) where
  changes_are : changes_of c (assembled view held start root batches) ≡ pairs_for view held
  changes_are = ap list_of set.signed ∙ list_of_given (pairs_for view held)

  abbrev lows : ViewChangeData → Bool
  lows vc = nat_le vc.low start

  abbrev lists : ViewChangeData → Bool
  lists vc = list_any (λ (checkpoint : CheckpointEntry). (checkpoint.number == start) && bytes_eq checkpoint.digest root) vc.checkpoints

  -- a quorum has its low mark below the start
  quorum : is_quorum c (count_in c lows (pairs_for view held)) ≡ true
  quorum = (and_parts (is_quorum c (count_in c lows (pairs_for view held))) (is_weak_quorum c (count_in c lists (pairs_for view held))) (meets_parts c view (pairs_for view held) start root batches fit).begins).0

  enough : is_quorum c (count_in c (λ vc. true) (pairs_for view held)) ≡ true
  enough =
      more_than (2 * c.faults + 1) (count_in c lows (pairs_for view held)) (count_in c (λ vc. true) (pairs_for view held)) quorum
      (count_weaker c lows (λ vc. true) (pairs_for view held) (λ s vc is t. refl))

  is_set : is_set_for c view (pairs_for view held) ≡ true
  is_set =
      and_from (is_quorum c (count_in c (λ vc. true) (pairs_for view held)) && ascending (pairs_for view held)) (are_for view (pairs_for view held) c)
      (and_from (is_quorum c (count_in c (λ vc. true) (pairs_for view held))) (ascending (pairs_for view held)) enough set.order) set.fit

  pub right : may_select c (assembled view held start root batches) ≡ true
  right = (selects_by_set c (assembled view held start root batches)).1 (
    eq-eqb (length (changes_of c (assembled view held start root batches))) (length (frames_for view held)) (ap length changes_are ∙ as_many view held),
    subst (λ (xs : List (ℕ × ViewChangeData)). is_set_for c view xs ≡ true) (sym changes_are) is_set,
    subst (λ (xs : List (ℕ × ViewChangeData)). meets c view xs start root batches ≡ true) (sym changes_are) fit,
  )

  some : 1 ≤ length (frames_for view held)
  some =
      let k = leb-true (2 * c.faults + 1) (count_in c lows (pairs_for view held)) quorum in
      let s = some_below (passes_by lows (pairs_for view held)) (replicas c) (lt-ltb 0 (count_in c lows (pairs_for view held)) (omega arith)) in
      let p = passes_change lows (pairs_for view held) s.0 s.2 in
      let l = not_empty (λ x. x ≡ (s.0, p.0)) (pairs_for view held) (change_there (pairs_for view held) s.0 p.0 p.1) in
      let n = as_many view held in
      omega arith
    where
      not_empty : (P : ℕ × ViewChangeData → Type 0) (xs : List (ℕ × ViewChangeData)) → Has P xs → 1 ≤ length xs
      not_empty P [] has = absurd has
      not_empty P (x ∷ xs) has = omega arith

  few : c.period ≤ 16 → length batches ≤ 32
  few short =
      let long = (meets_parts c view (pairs_for view held) start root batches fit).long in
      let most = largest_of-le (start + span c) (pairs_for view held) in
      omega arith

  start_fits : start < 2 ^ 64
  start_fits = go (cases_lt start (2 ^ 48))
    where
      go : (start < 2 ^ 48) ⊎ (2 ^ 48 ≤ start) → start < 2 ^ 64
      go (inl l) = omega arith
      go (inr l) = absurd (let f = start_is_number c view (pairs_for view held) start root batches set.fit l in cc)

  pub said : c.faults ≤ 3 → c.period ≤ 16 → view < 2 ^ 64 → IsDigest root → Each (IsBatch 0) batches → IsNewView (assembled view held start root batches)
  said faults short view_fits digest each = record {
    view = view_fits;
    some = some;
    few = (let l = set.few in omega arith);
    changes = set.carried;
    ascend = set.frames_order;
    start = start_fits;
    root = digest;
    count = few short;
    batches = each;
  }
