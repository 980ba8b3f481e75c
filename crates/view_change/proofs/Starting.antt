-- Over all starts.
use Rattle.std.specs.List.{list_all}
use Rattle.std.specs.Prelude.{◌==◌, nat_lt, IfOk, MatchOption}
use Rattle.std.proofs.Common.{◌≡◌, ◌^◌, ℕ, ◌≤◌, ◌<◌, inl, inr, Bool, true, false, cond, List, [], ◌∷◌, Option, Some, None, Result, Ok, Err, refl, sym, subst, arith, ◌&&◌}
use Rattle.std.proofs.lemmas.Bool.{and_parts, and_from, false_from_ne_true, lt-ltb, ltb-true, ltb-false}
use Rattle.protocol.specs.System.Configuration.{Configuration}
use Rattle.protocol.specs.System.Trace.{Has}
use Rattle.protocol.specs.Replica.Selection.{ascending, is_start, is_within}
use Rattle.protocol.proofs.Words.Bounds.{bounded}
use Rattle.wire_format.specs.Messages.{ViewChangeData, CheckpointEntryData as CheckpointEntry}
use Rattle.view_change.specs.Selecting.{are_for, meets, AreFrom, NothingFrom, SelectsNewView, NothingSelects}
use Rattle.view_change.specs.Filling.{FillsAfterStart, NothingFills, greater_start, start_in, start_of, SelectsBelow, NothingBelow}
use Rattle.view_change.proofs.Larger.{meets_parts, meets_from, larger_sets_allow}
use Rattle.view_change.proofs.Gaps.{start_is_listed, starts_are_listed}

-- ---- the greatest start

-- a start below the limit is at most the found one
abbrev Covers : Option CheckpointEntry → ℕ → Type 0
Covers None start = ⊥
Covers (Some checkpoint) start = start ≤ checkpoint.number

covers_left : (a b : Option CheckpointEntry) (start : ℕ) → Covers a start → Covers (greater_start a b) start
covers_left None b start h = absurd h
covers_left (Some x) None start h = h
covers_left (Some x) (Some y) start h = go (nat_lt x.number y.number) refl
  where
    go : (t : Bool) → nat_lt x.number y.number ≡ t → Covers (cond t (Some y) (Some x)) start
    go true e = let l = ltb-true x.number y.number e in omega arith
    go false e = h

covers_right : (a b : Option CheckpointEntry) (start : ℕ) → Covers b start → Covers (greater_start a b) start
covers_right None b start h = h
covers_right (Some x) None start h = absurd h
covers_right (Some x) (Some y) start h = go (nat_lt x.number y.number) refl
  where
    go : (t : Bool) → nat_lt x.number y.number ≡ t → Covers (cond t (Some y) (Some x)) start
    go true e = h
    go false e = let l = ltb-false x.number y.number e in omega arith

in_covers : (c : Configuration) (set : List (ℕ × ViewChangeData)) (limit start : ℕ) (root : List ℕ) (checkpoints : List CheckpointEntry) → start < limit → is_start c set start root ≡ true
    → Has (λ (checkpoint : CheckpointEntry). (checkpoint.number ≡ start) × (checkpoint.digest ≡ root)) checkpoints → Covers (start_in c set limit checkpoints) start
in_covers c set limit start root [] less begins has = absurd has
in_covers c set limit start root (x ∷ xs) less begins (inl is) =
    let below : nat_lt x.number limit ≡ true = lt-ltb x.number limit (let e = is.0 in omega arith) in
    let at : is_start c set x.number x.digest ≡ true = subst (λ d. is_start c set x.number d ≡ true) (sym is.1) (subst (λ n. is_start c set n root ≡ true) (sym is.0) begins) in
    let passes = and_from (nat_lt x.number limit) (is_start c set x.number x.digest) below at in
    rw passes (covers_left (Some x) (start_in c set limit xs) start (let e = is.0 in omega arith))
in_covers c set limit start root (x ∷ xs) less begins (inr has) = go (nat_lt x.number limit && is_start c set x.number x.digest) (in_covers c set limit start root xs less begins has)
  where
    go : (t : Bool) → Covers (start_in c set limit xs) start → Covers (cond t (greater_start (Some x) (start_in c set limit xs)) (start_in c set limit xs)) start
    go true h = covers_right (Some x) (start_in c set limit xs) start h
    go false h = h

of_covers : (c : Configuration) (set : List (ℕ × ViewChangeData)) (limit start : ℕ) (root : List ℕ) (some : List (ℕ × ViewChangeData)) → start < limit → is_start c set start root ≡ true
    → Has (λ x. Has (λ (checkpoint : CheckpointEntry). (checkpoint.number ≡ start) × (checkpoint.digest ≡ root)) x.1.checkpoints) some → Covers (start_of c set limit some) start
of_covers c set limit start root [] less begins has = absurd has
of_covers c set limit start root (x ∷ xs) less begins (inl has) =
    covers_left (start_in c set limit x.1.checkpoints) (start_of c set limit xs) start (in_covers c set limit start root x.1.checkpoints less begins has)
of_covers c set limit start root (x ∷ xs) less begins (inr has) =
    covers_right (start_in c set limit x.1.checkpoints) (start_of c set limit xs) start (of_covers c set limit start root xs less begins has)

-- the found one is a start below the limit
pub record IsStart (c : Configuration) (set : List (ℕ × ViewChangeData)) (limit : ℕ) (checkpoint : CheckpointEntry) : Type 0 where
  pub less : checkpoint.number < limit
  pub begins : is_start c set checkpoint.number checkpoint.digest ≡ true

abbrev AreStarts : Configuration → List (ℕ × ViewChangeData) → ℕ → Option CheckpointEntry → Type 0
AreStarts c set limit o = (checkpoint : CheckpointEntry) → o ≡ Some checkpoint → IsStart c set limit checkpoint

greater_is : (c : Configuration) (set : List (ℕ × ViewChangeData)) (limit : ℕ) (a b : Option CheckpointEntry) → AreStarts c set limit a → AreStarts c set limit b → AreStarts c set limit (greater_start a b)
greater_is c set limit None b f g = g
greater_is c set limit (Some x) None f g = f
greater_is c set limit (Some x) (Some y) f g = go (nat_lt x.number y.number)
  where
    go : (t : Bool) → AreStarts c set limit (cond t (Some y) (Some x))
    go true = g
    go false = f

in_is : (c : Configuration) (set : List (ℕ × ViewChangeData)) (limit : ℕ) (checkpoints : List CheckpointEntry) → AreStarts c set limit (start_in c set limit checkpoints)
in_is c set limit [] = λ checkpoint e. absurd cc
in_is c set limit (x ∷ xs) = go (nat_lt x.number limit && is_start c set x.number x.digest) refl (in_is c set limit xs)
  where
    own : (nat_lt x.number limit && is_start c set x.number x.digest) ≡ true → AreStarts c set limit (Some x)
    own h checkpoint e =
        let p = and_parts (nat_lt x.number limit) (is_start c set x.number x.digest) h in
        let same : x ≡ checkpoint = cc in
        subst (IsStart c set limit) same (record { less = ltb-true x.number limit p.0; begins = p.1 })

    go : (t : Bool) → (nat_lt x.number limit && is_start c set x.number x.digest) ≡ t → AreStarts c set limit (start_in c set limit xs)
        → AreStarts c set limit (cond t (greater_start (Some x) (start_in c set limit xs)) (start_in c set limit xs))
    go true h f = greater_is c set limit (Some x) (start_in c set limit xs) (own h) f
    go false h f = f

of_is : (c : Configuration) (set : List (ℕ × ViewChangeData)) (limit : ℕ) (some : List (ℕ × ViewChangeData)) → AreStarts c set limit (start_of c set limit some)
of_is c set limit [] = λ checkpoint e. absurd cc
of_is c set limit (x ∷ xs) = greater_is c set limit (start_in c set limit x.1.checkpoints) (start_of c set limit xs) (in_is c set limit x.1.checkpoints) (of_is c set limit xs)

pub found_start : (c : Configuration) (set : List (ℕ × ViewChangeData)) (limit : ℕ) (checkpoint : CheckpointEntry) → Some checkpoint ≡ start_of c set limit set → IsStart c set limit checkpoint
found_start c set limit checkpoint h = of_is c set limit set checkpoint (sym h)

-- ---- no checkpoints but starts

no_start : (c : Configuration) (view : ℕ) (set : List (ℕ × ViewChangeData)) (texts : List (List ℕ)) (start : ℕ) (root : List ℕ) → is_start c set start root ≡ false → NothingFrom c view set texts start root
no_start c view set texts start root bad batches from =
    false_from_ne_true (meets c view set start root batches) (λ h. let b = (meets_parts c view set start root batches h).begins in absurd cc)

-- above the greatest start there is no selection
above_none : (c : Configuration) (view : ℕ) (set : List (ℕ × ViewChangeData)) (texts : List (List ℕ)) (limit start : ℕ) (root : List ℕ) (o : Option CheckpointEntry) → o ≡ start_of c set limit set
    → start < limit → (Covers o start → ⊥) → NothingFrom c view set texts start root
above_none c view set texts limit start root o is less none =
    no_start c view set texts start root (false_from_ne_true (is_start c set start root)
    (λ begins. none (subst (λ p. Covers p start) (sym is) (of_covers c set limit start root set less begins (start_is_listed c start root set begins)))))

pub no_starts : (c : Configuration) (view : ℕ) (set : List (ℕ × ViewChangeData)) (texts : List (List ℕ)) (limit : ℕ) → None ≡ start_of c set limit set → NothingBelow c view set texts limit
no_starts c view set texts limit is start root less = above_none c view set texts limit start root None is less (λ h. absurd h)

pub selected_below : (c : Configuration) (view : ℕ) (set : List (ℕ × ViewChangeData)) (texts : List (List ℕ)) (limit : ℕ) (checkpoint : CheckpointEntry) (batches : List (List ℕ))
    → Some checkpoint ≡ start_of c set limit set → FillsAfterStart c view set texts checkpoint.number batches → SelectsBelow c view set texts limit checkpoint.number checkpoint.digest batches
selected_below c view set texts limit checkpoint batches is f = record {
  meets = meets_from c view set checkpoint.number checkpoint.digest batches (record { begins = (found_start c set limit checkpoint is).begins; long = f.long; stand = f.stand });
  from = f.from;
  first = f.first;
  greatest = λ above other more less. above_none c view set texts limit above other (Some checkpoint) is less (λ h. absurd (omega arith));
}

-- from a start without batches that fit, to those below it
pub nothing_lower : (c : Configuration) (view : ℕ) (set : List (ℕ × ViewChangeData)) (texts : List (List ℕ)) (limit : ℕ) (checkpoint : CheckpointEntry) → Some checkpoint ≡ start_of c set limit set
    → NothingFills c view set texts checkpoint.number → (start : ℕ) (root : List ℕ) → checkpoint.number ≤ start → start < limit → NothingFrom c view set texts start root
nothing_lower c view set texts limit checkpoint is none start root from less = go (nat_lt checkpoint.number start) refl
  where
    go : (t : Bool) → nat_lt checkpoint.number start ≡ t → NothingFrom c view set texts start root
    go true e = let l = ltb-true checkpoint.number start e in above_none c view set texts limit start root (Some checkpoint) is less (λ h. absurd (omega arith))
    go false e = let l = ltb-false checkpoint.number start e in let same : checkpoint.number ≡ start = omega arith in subst (λ s. NothingFrom c view set texts s root) same (none root)

pub none_below : (c : Configuration) (view : ℕ) (set : List (ℕ × ViewChangeData)) (texts : List (List ℕ)) (limit : ℕ) (checkpoint : CheckpointEntry) → Some checkpoint ≡ start_of c set limit set
    → NothingFills c view set texts checkpoint.number → NothingBelow c view set texts checkpoint.number → NothingBelow c view set texts limit
none_below c view set texts limit checkpoint is none below start root less = go (nat_lt start checkpoint.number) refl
  where
    go : (t : Bool) → nat_lt start checkpoint.number ≡ t → NothingFrom c view set texts start root
    go true e = below start root (ltb-true start checkpoint.number e)
    go false e = nothing_lower c view set texts limit checkpoint is none start root (ltb-false start checkpoint.number e) less

pub some_below : (c : Configuration) (view : ℕ) (set : List (ℕ × ViewChangeData)) (texts : List (List ℕ)) (limit : ℕ) (checkpoint : CheckpointEntry) (start : ℕ) (root : List ℕ) (batches : List (List ℕ))
    → Some checkpoint ≡ start_of c set limit set → NothingFills c view set texts checkpoint.number
    → SelectsBelow c view set texts checkpoint.number start root batches → SelectsBelow c view set texts limit start root batches
some_below c view set texts limit checkpoint start root batches is none s = record { meets = s.meets; from = s.from; first = s.first; greatest = greatest }
  where
    greatest : (above : ℕ) (other : List ℕ) → start < above → above < limit → NothingFrom c view set texts above other
    greatest above other more less = go (nat_lt above checkpoint.number) refl
      where
        go : (t : Bool) → nat_lt above checkpoint.number ≡ t → NothingFrom c view set texts above other
        go true e = s.greatest above other more (ltb-true above checkpoint.number e)
        go false e = nothing_lower c view set texts limit checkpoint is none above other (ltb-false above checkpoint.number e) less

-- ---- a start is a number

-- the checkpoints of a view change within its bounds are of numbers below 2^48
listed_number : (c : Configuration) (view : ℕ) (start : ℕ) (root : List ℕ) (xs : List (ℕ × ViewChangeData)) → are_for view xs c ≡ true
    → Has (λ x. Has (λ (checkpoint : CheckpointEntry). (checkpoint.number ≡ start) × (checkpoint.digest ≡ root)) x.1.checkpoints) xs → start < 2 ^ 48
listed_number c view start root [] fit has = absurd has
listed_number c view start root (x ∷ xs) fit (inl has) =
    let p = and_parts ((x.1.view == view) && is_within c x.1) (list_all (λ (y : ℕ × ViewChangeData). (y.1.view == view) && is_within c y.1) xs) fit in
    let q = and_parts (x.1.view == view) (is_within c x.1) p.0 in
    go x.1.checkpoints has (λ checkpoint there. ((bounded c x.1 q.1).checkpoints checkpoint there).number)
  where
    go : (checkpoints : List CheckpointEntry) → Has (λ (checkpoint : CheckpointEntry). (checkpoint.number ≡ start) × (checkpoint.digest ≡ root)) checkpoints
        → ((checkpoint : CheckpointEntry) → Has (λ y. y ≡ checkpoint) checkpoints → checkpoint.number < 2 ^ 48) → start < 2 ^ 48
    go [] has f = absurd has
    go (m ∷ ms) (inl h) f = let l = f m (inl refl) in let e = h.0 in omega arith
    go (m ∷ ms) (inr rest) f = go ms rest (λ y there. f y (inr there))
listed_number c view start root (x ∷ xs) fit (inr rest) =
    listed_number c view start root xs (and_parts ((x.1.view == view) && is_within c x.1) (list_all (λ (y : ℕ × ViewChangeData). (y.1.view == view) && is_within c y.1) xs) fit).1 rest

pub start_is_number : (c : Configuration) (view : ℕ) (set : List (ℕ × ViewChangeData)) (start : ℕ) (root : List ℕ) (batches : List (List ℕ)) → are_for view set c ≡ true
    → 2 ^ 48 ≤ start → meets c view set start root batches ≡ false
start_is_number c view set start root batches fit large =
    false_from_ne_true (meets c view set start root batches)
    (λ h. let l = listed_number c view start root set fit (starts_are_listed c view start root set batches h) in absurd (omega arith))

-- ---- over the whole set, and its parts

pub selected : (c : Configuration) (view : ℕ) (set : List (ℕ × ViewChangeData)) (texts : List (List ℕ)) (start : ℕ) (root : List ℕ) (batches : List (List ℕ)) → are_for view set c ≡ true
    → SelectsBelow c view set texts (2 ^ 48) start root batches → SelectsNewView c view set texts start root batches
selected c view set texts start root batches fit s = record { meets = s.meets; from = s.from; first = s.first; greatest = λ above other more. go above other more (nat_lt above (2 ^ 48)) refl }
  where
    go : (above : ℕ) (other : List ℕ) → start < above → (t : Bool) → nat_lt above (2 ^ 48) ≡ t → NothingFrom c view set texts above other
    go above other more true e = s.greatest above other more (ltb-true above (2 ^ 48) e)
    go above other more false e = λ batches from. start_is_number c view set above other batches fit (ltb-false above (2 ^ 48) e)

pub nothing_selects : (c : Configuration) (view : ℕ) (set : List (ℕ × ViewChangeData)) (texts : List (List ℕ)) → ascending set ≡ true → are_for view set c ≡ true
    → NothingBelow c view set texts (2 ^ 48) → NothingSelects c view set texts
nothing_selects c view set texts order fit none part start root batches is_part in_part from =
    false_from_ne_true (meets c view part start root batches) (λ h. refuted (larger_sets_allow c view start root part set texts batches is_part in_part order from h))
  where
    refuted : (more : List (List ℕ)) × AreFrom texts more × (meets c view set start root more ≡ true) → ⊥
    refuted r =
        let less = listed_number c view start root set fit (starts_are_listed c view start root set r.0 r.2) in
        let never = none start root less r.0 r.1 in
        absurd cc

-- the selection below one limit, or none, as the one below another
pub on_selected : {S E : Type 0} (A B : Type 0) (P Q : S → Type 0) → (A → B) → ((s : S) → P s → Q s) → (r : Result (Option S) E) → IfOk r (λ o. MatchOption o A P) → IfOk r (λ o. MatchOption o B Q)
on_selected A B P Q f g (Ok None) h = f h
on_selected A B P Q f g (Ok (Some s)) h = g s h
on_selected A B P Q f g (Err e) h = h
