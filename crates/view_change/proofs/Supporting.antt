-- To find the view by which a digest may stand, the entries for the digest are enough: an entry of the least view that
-- f + 1 of those who vouch for the digest reach is one by which it stands.
use Rattle.std.specs.List.{list_any}
use Rattle.std.specs.Prelude.{◌==◌, nat_le, nat_lt}
use Rattle.std.proofs.Common.{◌≡◌, ℕ, zero, suc, not, ◌+◌, ◌-◌, ◌*◌, ◌≤◌, ◌<◌, ◌⊎◌, inl, inr, Bool, true, false, cond, List, bytes_eq, Some, refl, sym, subst, arith, ◌&&◌, ◌||◌, eqb-true, eq-eqb}
use Rattle.std.proofs.lemmas.Bool.{and_parts, and_from, or_cases, or_left, or_right, le-leb, lt-ltb, leb-true, ltb-true}
use Rattle.quorum.specs.Quorum.{count_below}
use Rattle.protocol.specs.System.Configuration.{Configuration, replicas}
use Rattle.wire_format.specs.Messages.{ViewChangeData, BatchEntryData as BatchEntry}
use Rattle.protocol.specs.System.Trace.{Has}
use Rattle.protocol.specs.Replica.Selection.{is_quorum, is_weak_quorum, change_by, passes_by, count_in, is_within, agrees, vouches, may_stand_at, is_some_below}
use Rattle.protocol.proofs.Words.Lists.{some_below, passes_change, change_there}
use Rattle.protocol.proofs.Words.Elements.{every_has, some_of_has}
use Rattle.protocol.proofs.Words.Elements.{all_where, any_of_has}
use Rattle.protocol.proofs.Words.Bounds.{bounded}
use Rattle.view_change.specs.Selecting.{are_for, is_entry_for, stands_by_entry}
use Rattle.view_change.specs.Laws.{EntriesDecide}
use Rattle.view_change.proofs.Larger.{count_weaker, more_than}

-- ---- entries are of earlier views

entry_earlier : (c : Configuration) (view : ℕ) (set : List (ℕ × ViewChangeData)) (x : ℕ × ViewChangeData) (entry : BatchEntry) → are_for view set c ≡ true
    → Has (λ y. y ≡ x) set → Has (λ y. y ≡ entry) x.1.pre_prepared → entry.view < view
entry_earlier c view set x entry fit has in_it =
    let p = and_parts (x.1.view == view) (is_within c x.1) (every_has (λ (y : ℕ × ViewChangeData). (y.1.view == view) && is_within c y.1) set x fit has) in
    let e = eqb-true x.1.view view p.0 in
    let b = (bounded c x.1 p.1).pre_prepared entry in_it in
    let l = b.earlier in
    omega arith

-- ---- one view up

agrees_later : (number v : ℕ) (digest : List ℕ) (vc : ViewChangeData) → agrees number v digest vc ≡ true → agrees number (suc v) digest vc ≡ true
agrees_later number v digest vc h =
    all_where (λ (entry : BatchEntry). not (entry.number == number) || nat_lt entry.view (suc v) || ((entry.view == suc v) && bytes_eq entry.digest digest)) vc.prepared
    (λ entry has. go entry (every_has (λ (x : BatchEntry). not (x.number == number) || nat_lt x.view v || ((x.view == v) && bytes_eq x.digest digest)) vc.prepared entry h has))
  where
    earlier : (entry : BatchEntry) → entry.view < suc v → (not (entry.number == number) || nat_lt entry.view (suc v) || ((entry.view == suc v) && bytes_eq entry.digest digest)) ≡ true
    earlier entry l =
        or_left (not (entry.number == number) || nat_lt entry.view (suc v)) ((entry.view == suc v) && bytes_eq entry.digest digest)
        (or_right (not (entry.number == number)) (nat_lt entry.view (suc v)) (lt-ltb entry.view (suc v) l))

    inner : (entry : BatchEntry) → (not (entry.number == number) ≡ true) ⊎ (nat_lt entry.view v ≡ true)
        → (not (entry.number == number) || nat_lt entry.view (suc v) || ((entry.view == suc v) && bytes_eq entry.digest digest)) ≡ true
    inner entry (inl other) =
        or_left (not (entry.number == number) || nat_lt entry.view (suc v)) ((entry.view == suc v) && bytes_eq entry.digest digest)
        (or_left (not (entry.number == number)) (nat_lt entry.view (suc v)) other)
    inner entry (inr less) = let l = ltb-true entry.view v less in earlier entry (omega arith)

    outer : (entry : BatchEntry) → ((not (entry.number == number) || nat_lt entry.view v) ≡ true) ⊎ (((entry.view == v) && bytes_eq entry.digest digest) ≡ true)
        → (not (entry.number == number) || nat_lt entry.view (suc v) || ((entry.view == suc v) && bytes_eq entry.digest digest)) ≡ true
    outer entry (inl h) = inner entry (or_cases (not (entry.number == number)) (nat_lt entry.view v) h)
    outer entry (inr h) =
        let e = eqb-true entry.view v (and_parts (entry.view == v) (bytes_eq entry.digest digest) h).0 in
        earlier entry (omega arith)

    go : (entry : BatchEntry) → (not (entry.number == number) || nat_lt entry.view v || ((entry.view == v) && bytes_eq entry.digest digest)) ≡ true
        → (not (entry.number == number) || nat_lt entry.view (suc v) || ((entry.view == suc v) && bytes_eq entry.digest digest)) ≡ true
    go entry h = outer entry (or_cases (not (entry.number == number) || nat_lt entry.view v) ((entry.view == v) && bytes_eq entry.digest digest) h)

-- an entry of the set for this number and digest, of exactly this view
entries_at : ℕ → List ℕ → ℕ → List (ℕ × ViewChangeData) → Bool
entries_at number digest v set = list_any (λ x. list_any (λ entry. is_entry_for number digest entry && (entry.view == v)) x.1.pre_prepared) set

vouch_parts : (number v : ℕ) (digest : List ℕ) (entry : BatchEntry) → ((entry.number == number) && bytes_eq entry.digest digest && nat_le v entry.view) ≡ true
    → (is_entry_for number digest entry ≡ true) × (v ≤ entry.view)
vouch_parts number v digest entry h =
    let p = and_parts ((entry.number == number) && bytes_eq entry.digest digest) (nat_le v entry.view) h in
    (p.0, leb-true v entry.view p.1)

-- if no entry is of exactly this view, those who vouch for the digest in this view do in the next too
vouches_later : (number v : ℕ) (digest : List ℕ) (set : List (ℕ × ViewChangeData)) (s : ℕ) (vc : ViewChangeData) → entries_at number digest v set ≡ false
    → change_by set s ≡ Some vc → vouches number v digest vc ≡ true → vouches number (suc v) digest vc ≡ true
unfolding entries_at
vouches_later number v digest set s vc none is h =
    let r = some_of_has (λ (entry : BatchEntry). (entry.number == number) && bytes_eq entry.digest digest && nat_le v entry.view) vc.pre_prepared h in
    let p = vouch_parts number v digest r.0 r.2 in
    any_of_has (λ (entry : BatchEntry). entry ≡ r.0) (λ (entry : BatchEntry). (entry.number == number) && bytes_eq entry.digest digest && nat_le (suc v) entry.view)
    (λ entry same. subst (λ (y : BatchEntry). ((y.number == number) && bytes_eq y.digest digest && nat_le (suc v) y.view) ≡ true) (sym same)
    (and_from (is_entry_for number digest r.0) (nat_le (suc v) r.0.view) p.0 (le-leb (suc v) r.0.view (above r.0 r.1 p.0 p.1)))) vc.pre_prepared r.1
  where
    above : (entry : BatchEntry) → Has (λ y. y ≡ entry) vc.pre_prepared → is_entry_for number digest entry ≡ true → v ≤ entry.view → suc v ≤ entry.view
    above entry has for_it from = go (entry.view == v) refl
      where
        exact : entry.view ≡ v → (is_entry_for number digest entry && (entry.view == v)) ≡ true
        exact e = and_from (is_entry_for number digest entry) (entry.view == v) for_it (eq-eqb entry.view v e)

        go : (b : Bool) → (entry.view == v) ≡ b → suc v ≤ entry.view
        go true e =
            let some : entries_at number digest v set ≡ true =
            any_of_has (λ (x : ℕ × ViewChangeData). x ≡ (s, vc)) (λ (x : ℕ × ViewChangeData). list_any (λ (y : BatchEntry). is_entry_for number digest y && (y.view == v)) x.1.pre_prepared)
            (λ x same. subst (λ (z : ℕ × ViewChangeData). list_any (λ (y : BatchEntry). is_entry_for number digest y && (y.view == v)) z.1.pre_prepared ≡ true) (sym same)
            (any_of_has (λ (y : BatchEntry). y ≡ entry) (λ (y : BatchEntry). is_entry_for number digest y && (y.view == v))
            (λ y is. subst (λ (z : BatchEntry). (is_entry_for number digest z && (z.view == v)) ≡ true) (sym is) (exact (eqb-true entry.view v e))) vc.pre_prepared has))
            set (change_there set s vc is) in
            absurd cc
        go false e = let ne : entry.view ≡ v → ⊥ = λ i. absurd (let t = eq-eqb entry.view v i in cc) in omega arith

later_stands : (c : Configuration) (number v : ℕ) (digest : List ℕ) (set : List (ℕ × ViewChangeData)) → entries_at number digest v set ≡ false
    → may_stand_at c set number digest v ≡ true → may_stand_at c set number digest (suc v) ≡ true
later_stands c number v digest set none h =
    let against : ViewChangeData → Bool = λ vc. nat_lt vc.low number && agrees number v digest vc in
    let after : ViewChangeData → Bool = λ vc. nat_lt vc.low number && agrees number (suc v) digest vc in
    let p = and_parts (is_quorum c (count_in c against set)) (is_weak_quorum c (count_in c (vouches number v digest) set)) h in
    and_from (is_quorum c (count_in c after set)) (is_weak_quorum c (count_in c (vouches number (suc v) digest) set))
    (more_than (2 * c.faults + 1) (count_in c against set) (count_in c after set) p.0
    (count_weaker c against after set (λ s vc is t. let q = and_parts (nat_lt vc.low number) (agrees number v digest vc) t in and_from (nat_lt vc.low number) (agrees number (suc v) digest vc) q.0 (agrees_later number v digest vc q.1))))
    (more_than (c.faults + 1) (count_in c (vouches number v digest) set) (count_in c (vouches number (suc v) digest) set) p.1
    (count_weaker c (vouches number v digest) (vouches number (suc v) digest) set (λ s vc is t. vouches_later number v digest set s vc none is t)))

-- ---- both ways

below_some : (test : ℕ → Bool) (n k : ℕ) → k < n → test k ≡ true → nat_lt 0 (count_below test n) ≡ true
below_some test zero k l h = absurd (omega arith)
below_some test (suc n) k l h = go (test n) refl (λ less. below_some test n k less h)
  where
    go : (b : Bool) → test n ≡ b → (k < n → nat_lt 0 (count_below test n) ≡ true) → nat_lt 0 (cond b (suc (count_below test n)) (count_below test n)) ≡ true
    go true e rest = lt-ltb 0 (suc (count_below test n)) (omega arith)
    go false e rest = rest (let ne : k ≡ n → ⊥ = λ i. absurd (let t : test n ≡ true = subst (λ m. test m ≡ true) i h in cc) in omega arith)

-- from a view by which the digest stands, up to an entry
climbs : (c : Configuration) (view number : ℕ) (digest : List ℕ) (set : List (ℕ × ViewChangeData)) → are_for view set c ≡ true
    → (fuel v : ℕ) → v + fuel ≡ view → may_stand_at c set number digest v ≡ true → stands_by_entry c set number digest set ≡ true
unfolding entries_at
climbs c view number digest set fit zero v reach h = absurd (none_reaches h)
  where
    none_reaches : may_stand_at c set number digest v ≡ true → ⊥
    none_reaches h =
        let against : ViewChangeData → Bool = λ vc. nat_lt vc.low number && agrees number v digest vc in
        let p = and_parts (is_quorum c (count_in c against set)) (is_weak_quorum c (count_in c (vouches number v digest) set)) h in
        let enough = leb-true (c.faults + 1) (count_in c (vouches number v digest) set) p.1 in
        let some = some_below (passes_by (vouches number v digest) set) (replicas c) (lt-ltb 0 (count_in c (vouches number v digest) set) (omega arith)) in
        let r = passes_change (vouches number v digest) set some.0 some.2 in
        let q = some_of_has (λ (entry : BatchEntry). (entry.number == number) && bytes_eq entry.digest digest && nat_le v entry.view) r.0.pre_prepared r.2 in
        let at = vouch_parts number v digest q.0 q.2 in
        let less = entry_earlier c view set (some.0, r.0) q.0 fit (change_there set some.0 r.0 r.1) q.1 in
        let from = at.1 in
        absurd (omega arith)
climbs c view number digest set fit (suc fuel) v reach h = go (entries_at number digest v set) refl (climbs c view number digest set fit fuel (suc v) (omega arith))
  where
    go : (b : Bool) → entries_at number digest v set ≡ b → (may_stand_at c set number digest (suc v) ≡ true → stands_by_entry c set number digest set ≡ true) → stands_by_entry c set number digest set ≡ true
    go true e more =
        let r = some_of_has (λ (x : ℕ × ViewChangeData). list_any (λ (entry : BatchEntry). is_entry_for number digest entry && (entry.view == v)) x.1.pre_prepared) set e in
        let q = some_of_has (λ (entry : BatchEntry). is_entry_for number digest entry && (entry.view == v)) r.0.1.pre_prepared r.2 in
        let p = and_parts (is_entry_for number digest q.0) (q.0.view == v) q.2 in
        let is = eqb-true q.0.view v p.1 in
        let stands : (is_entry_for number digest q.0 && may_stand_at c set number digest q.0.view) ≡ true =
        and_from (is_entry_for number digest q.0) (may_stand_at c set number digest q.0.view) p.0 (subst (λ m. may_stand_at c set number digest m ≡ true) (sym is) h) in
        any_of_has (λ (x : ℕ × ViewChangeData). x ≡ r.0) (λ (x : ℕ × ViewChangeData). list_any (λ (entry : BatchEntry). is_entry_for number digest entry && may_stand_at c set number digest entry.view) x.1.pre_prepared)
        (λ x same. subst (λ (z : ℕ × ViewChangeData). list_any (λ (entry : BatchEntry). is_entry_for number digest entry && may_stand_at c set number digest entry.view) z.1.pre_prepared ≡ true) (sym same)
        (any_of_has (λ (y : BatchEntry). y ≡ q.0) (λ (entry : BatchEntry). is_entry_for number digest entry && may_stand_at c set number digest entry.view)
        (λ y is. subst (λ (z : BatchEntry). (is_entry_for number digest z && may_stand_at c set number digest z.view) ≡ true) (sym is) stands) r.0.1.pre_prepared q.1)) set r.1
    go false e more = more (later_stands c number v digest set e h)

stands_there : (c : Configuration) (view number : ℕ) (digest : List ℕ) (set : List (ℕ × ViewChangeData)) → are_for view set c ≡ true
    → stands_by_entry c set number digest set ≡ true → is_some_below (may_stand_at c set number digest) view ≡ true
stands_there c view number digest set fit h =
    let r = some_of_has (λ (x : ℕ × ViewChangeData). list_any (λ (entry : BatchEntry). is_entry_for number digest entry && may_stand_at c set number digest entry.view) x.1.pre_prepared) set h in
    let q = some_of_has (λ (entry : BatchEntry). is_entry_for number digest entry && may_stand_at c set number digest entry.view) r.0.1.pre_prepared r.2 in
    let p = and_parts (is_entry_for number digest q.0) (may_stand_at c set number digest q.0.view) q.2 in
    below_some (may_stand_at c set number digest) view q.0.view (entry_earlier c view set r.0 q.0 fit r.1 q.1) p.1

pub same_truth : (a b : Bool) → (a ≡ true → b ≡ true) → (b ≡ true → a ≡ true) → a ≡ b
same_truth true b f g = sym (f refl)
same_truth false true f g = absurd (let e = g refl in cc)
same_truth false false f g = refl

pub entries_decide : EntriesDecide
entries_decide c view number digest set fit =
    same_truth (is_some_below (may_stand_at c set number digest) view) (stands_by_entry c set number digest set)
    (λ h. let r = some_below (may_stand_at c set number digest) view h in
    climbs_from r.0 r.1 r.2)
    (stands_there c view number digest set fit)
  where
    climbs_from : (v : ℕ) → v < view → may_stand_at c set number digest v ≡ true → stands_by_entry c set number digest set ≡ true
    climbs_from v l h = climbs c view number digest set fit (view - v) v (omega arith) h
