-- The opened frames and their tests decide whether a new view is refused.
use Rattle.std.specs.Prelude.{if◌then◌else◌}
use Rattle.std.proofs.Common.{◌≡◌, ℕ, ◌<◌, inl, inr, Bool, true, false, not, List, [], ◌∷◌, ◌++◌, length, map, Option, Some, None, Vec, refl, sym, ap, ◌∙◌, subst, arith, ◌&&◌, eq-eqb}
use Rattle.std.specs.declared.alloc.Global.{Global}
use Rattle.std.proofs.lemmas.Bool.{and_parts, and_from, ne_eqb}
use Rattle.std.proofs.lemmas.List.{length-map}
use Rattle.protocol.specs.System.Configuration.{Configuration}
use Rattle.protocol.specs.System.Trace.{Has}
use Rattle.protocol.specs.Replica.Selection.{is_quorum, list_of, signed_change, changes_of, all_signed, are_enough, ascending, may_select, count_in}
use Rattle.protocol.proofs.Words.Lists.{no_longer}
use Rattle.wire_format.specs.Messages.{NewViewData, ViewChangeData}
use Rattle.view_change.specs.declared.changes.Change.{Change}
use Rattle.view_change.specs.declared.fault.NewViewFault.TheVariants.{BadSignature, TooFew, NotSelected}
use Rattle.view_change.specs.Checking.{refusal_by_rules}
use Rattle.view_change.specs.Refusing.{satisfies_rules, refusal_over}
use Rattle.view_change.specs.Selecting.{are_for, is_set_for, meets}
use Rattle.view_change.specs.Sets.{all_present, changes_by_sender, signed_changes}
use Rattle.view_change.proofs.Supporting.{same_truth}
use Rattle.view_change.proofs.Larger.{selects_by_set}

pub list_of_given : (xs : List (ℕ × ViewChangeData)) → list_of (all_present xs) ≡ xs
list_of_given [] = refl
list_of_given (x ∷ xs) = ap (λ ys. x ∷ ys) (list_of_given xs)

-- all are signed: these are the view changes
pub changes_are : (c : Configuration) (new : NewViewData) (set : List (ℕ × ViewChangeData)) → all_present set ≡ map (signed_change c) new.changes → changes_of c new ≡ set
changes_are c new set h = ap list_of (sym h) ∙ list_of_given set

signed_all : (c : Configuration) (new : NewViewData) (set : List (ℕ × ViewChangeData)) → all_present set ≡ map (signed_change c) new.changes → all_signed c new ≡ true
signed_all c new set h =
    let long : length (all_present set) ≡ length new.changes = ap length h ∙ length-map new.changes (signed_change c) in
    let whole : length (all_present set) ≡ length set = length-map set Some in
    let is : length (changes_of c new) ≡ length set = ap length (changes_are c new set h) in
    eq-eqb (length (changes_of c new)) (length new.changes) (omega (arith, long, whole, is))

-- one is not
short : {A : Type 0} (os : List (Option A)) → Has (λ o. o ≡ None) os → length (list_of os) < length os
short [] h = absurd h
short (None ∷ os) h = let l = no_longer os in omega arith
short (Some x ∷ os) (inl h) = absurd cc
short (Some x ∷ os) (inr h) = let l = short os h in omega arith

not_signed : (c : Configuration) (new : NewViewData) → Has (λ o. o ≡ None) (map (signed_change c) new.changes) → all_signed c new ≡ false
not_signed c new h =
    let l = short (map (signed_change c) new.changes) h in
    let e = length-map new.changes (signed_change c) in
    ne_eqb (length (changes_of c new)) (length new.changes) (λ i. absurd (omega (arith, l, e, i)))

-- if all are signed and enough, the tests of the set decide
may_is : (c : Configuration) (new : NewViewData) (set : List (ℕ × ViewChangeData)) → all_present set ≡ map (signed_change c) new.changes
    → is_quorum c (count_in c (λ vc. true) set) ≡ true → may_select c new ≡ satisfies_rules c set new
may_is c new set h many =
    same_truth (may_select c new) (satisfies_rules c set new) (λ t. forth ((selects_by_set c new).0 t)) (λ t. (selects_by_set c new).1 (back t))
  where
    forth : (all_signed c new ≡ true) × (is_set_for c new.view (changes_of c new) ≡ true) × (meets c new.view (changes_of c new) new.start new.root new.batches ≡ true) → satisfies_rules c set new ≡ true
    forth r =
        let s = subst (λ xs. is_set_for c new.view xs ≡ true) (changes_are c new set h) r.1 in
        let p = and_parts (is_quorum c (count_in c (λ vc. true) set) && ascending set) (are_for new.view set c) s in
        let q = and_parts (is_quorum c (count_in c (λ vc. true) set)) (ascending set) p.0 in
        let met = subst (λ xs. meets c new.view xs new.start new.root new.batches ≡ true) (changes_are c new set h) r.2 in
        and_from (ascending set) (are_for new.view set c && meets c new.view set new.start new.root new.batches) q.1
        (and_from (are_for new.view set c) (meets c new.view set new.start new.root new.batches) p.1 met)

    back : satisfies_rules c set new ≡ true → (all_signed c new ≡ true) × (is_set_for c new.view (changes_of c new) ≡ true) × (meets c new.view (changes_of c new) new.start new.root new.batches ≡ true)
    back t =
        let p = and_parts (ascending set) (are_for new.view set c && meets c new.view set new.start new.root new.batches) t in
        let q = and_parts (are_for new.view set c) (meets c new.view set new.start new.root new.batches) p.1 in (
          signed_all c new set h,
          subst (λ xs. is_set_for c new.view xs ≡ true) (sym (changes_are c new set h))
              (and_from (is_quorum c (count_in c (λ vc. true) set) && ascending set) (are_for new.view set c) (and_from (is_quorum c (count_in c (λ vc. true) set)) (ascending set) many p.0) q.0),
          subst (λ xs. meets c new.view xs new.start new.root new.batches ≡ true) (sym (changes_are c new set h)) q.1,
        )

by_set : (c : Configuration) (new : NewViewData) (set : List (ℕ × ViewChangeData)) → all_present set ≡ map (signed_change c) new.changes → refusal_over c set new ≡ refusal_by_rules c new
by_set c new set h =
    let signed = signed_all c new set h in
    let enough : are_enough c new ≡ is_quorum c (count_in c (λ vc. true) set) = ap (λ xs. is_quorum c (count_in c (λ vc. true) xs)) (changes_are c new set h) in
    rw signed (rw enough (go (is_quorum c (count_in c (λ vc. true) set)) refl))
  where
    go : (b : Bool) → is_quorum c (count_in c (λ vc. true) set) ≡ b
        → (if not b then Some TooFew else if not (satisfies_rules c set new) then Some NotSelected else None) ≡ (if not b then Some TooFew else if not (may_select c new) then Some NotSelected else None)
    go false e = refl
    go true e = ap (λ m. if not m then Some NotSelected else None) (sym (may_is c new set h e))

-- ---- what the function knows

-- the view changes were opened into an empty set
pub refused_by_set : (c : Configuration) (new : NewViewData) (xs ys old : List Change) (frames items : List (Vec ℕ Global)) (b : Bool) → b ≡ true → ys ≡ xs → old ≡ [] → frames ≡ items
    → map (λ frame. frame.items) items ≡ new.changes → (b ≡ true → all_present (changes_by_sender xs) ≡ all_present (changes_by_sender old) ++ signed_changes c frames) → refusal_over c (changes_by_sender ys) new ≡ refusal_by_rules c new
refused_by_set c new xs ys old frames items b holds same empty are named h =
    by_set c new (changes_by_sender ys)
    (ap (λ zs. all_present (changes_by_sender zs)) same ∙ (h holds ∙ (ap (λ zs. all_present (changes_by_sender zs) ++ signed_changes c frames) empty ∙ (ap (signed_changes c) are ∙ ap (map (signed_change c)) named))))

pub refused_unsigned : (c : Configuration) (new : NewViewData) (frames items : List (Vec ℕ Global)) → frames ≡ items → map (λ frame. frame.items) items ≡ new.changes
    → Has (λ o. o ≡ None) (signed_changes c frames) → Some BadSignature ≡ refusal_by_rules c new
refused_unsigned c new frames items are named has =
    let none = not_signed c new (subst (λ xs. Has (λ o. o ≡ None) (map (signed_change c) xs)) named (subst (λ fs. Has (λ o. o ≡ None) (signed_changes c fs)) are has)) in
    rw none refl
