-- The definitions refuse a new view over wrong view changes.
use Rattle.std.specs.List.{list_any}
use Rattle.std.proofs.Common.{◌≡◌, ℕ, zero, suc, ◌+◌, ◌*◌, ◌≤◌, ◌<◌, ◌⊎◌, inl, inr, true, ◌&&◌, List, [], ◌∷◌, length, map, bytes_eq, slice_get, refl, ap, ◌∙◌, subst, arith, Option, Some, None, eqb-true}
use Rattle.std.specs.Prelude.{◌==◌, nat_le, nat_lt}
use Rattle.std.proofs.lemmas.Bool.{and_parts, leb-true, ltb-true}
use Rattle.std.proofs.lemmas.Slice.Eq.{bytes_eq-Decides}
use Rattle.protocol.specs.System.Configuration.{Configuration, signers}
use Rattle.wire_format.specs.Messages.{BodyData as Body, MessageData as Message, ViewChangeData, NewViewData, CheckpointEntryData as CheckpointEntry, view_change as ViewChange}
use Rattle.signing.specs.AuthenticBody.{signed_body}
use Rattle.protocol.specs.System.Trace.{Has}
use Rattle.protocol.specs.Replica.Selection.{is_quorum, is_weak_quorum, signed_change, change_in, changes_of, list_of, count_in, ascending, is_within}
use Rattle.evidence.specs.RefusedMarks.{SpellsChange, TakesWellFounded}
use Rattle.protocol.proofs.Words.Options.{and_then_some, some_injective}
use Rattle.protocol.proofs.Agreement.Marks.{Selects, selects, selected_in, takes}
use Rattle.evidence.proofs.Refusing.{has_from}
use Rattle.protocol.proofs.Words.Elements.{has_of_any, every_has}
use Rattle.protocol.proofs.Words.Lists.{no_longer}
use Rattle.std.proofs.lemmas.List.{length-map}
use Rattle.protocol.proofs.Words.Bounds.{bounded}

-- ---- carried view changes

change_is : (sender : ℕ) (message : Message) (x : ℕ × ViewChangeData) → change_in (record { sender = sender; message = message }) ≡ Some x
    → ◌≡◌ {A = Body} (record { sender = sender; message = message }) (record { sender = x.0; message = ViewChange x.1 })
change_is sender (ViewChange vc) x h =
    let pair : ◌≡◌ {A = ℕ × ViewChangeData} (sender, vc) x = some_injective {A = ℕ × ViewChangeData} (sender, vc) x h in
    ap (λ (y : ℕ × ViewChangeData). (let body : Body = record { sender = y.0; message = ViewChange y.1 } in body)) pair
change_is sender _ x h = absurd cc

pub spelled : (c : Configuration) (bytes : List ℕ) (x : ℕ × ViewChangeData) → signed_change c bytes ≡ Some x → SpellsChange c bytes x.0 x.1
spelled c bytes x h =
    let r = and_then_some change_in (signed_body (signers c) bytes) x h in
    r.1 ∙ ap Some (change_is r.0.sender r.0.message x r.2)

-- as many as were carried: each of these is one
each_is_one : (c : Configuration) (frames : List (List ℕ)) (bytes : List ℕ) → length (list_of (map (signed_change c) frames)) ≡ length frames → Has (λ x. x ≡ bytes) frames
    → (s : ℕ) × (vc : ViewChangeData) × SpellsChange c bytes s vc
each_is_one c [] bytes long h = absurd h
each_is_one c (frame ∷ frames) bytes long h = go (signed_change c frame) refl long h (each_is_one c frames bytes)
  where
    go : (o : Option (ℕ × ViewChangeData)) → signed_change c frame ≡ o → length (list_of (o ∷ map (signed_change c) frames)) ≡ suc (length frames) → (frame ≡ bytes) ⊎ Has (λ x. x ≡ bytes) frames
        → (length (list_of (map (signed_change c) frames)) ≡ length frames → Has (λ x. x ≡ bytes) frames → (s : ℕ) × (vc : ViewChangeData) × SpellsChange c bytes s vc)
        → (s : ℕ) × (vc : ViewChangeData) × SpellsChange c bytes s vc
    go None is long h below =
        let most = no_longer (map (signed_change c) frames) in
        let same = length-map frames (signed_change c) in
        absurd (omega arith)
    go (Some x) is long (inl here) below = (x.0, x.1, subst (λ (b : List ℕ). SpellsChange c b x.0 x.1) here (spelled c frame x is))
    go (Some x) is long (inr there) below = below (omega arith) there

is_carried : (c : Configuration) (frames : List (List ℕ)) (x : ℕ × ViewChangeData) → Has (λ y. y ≡ x) (list_of (map (signed_change c) frames)) → Has (λ bytes. SpellsChange c bytes x.0 x.1) frames
is_carried c [] x h = absurd h
is_carried c (frame ∷ frames) x h = go (signed_change c frame) refl h (is_carried c frames x)
  where
    go : (o : Option (ℕ × ViewChangeData)) → signed_change c frame ≡ o → Has (λ y. y ≡ x) (list_of (o ∷ map (signed_change c) frames))
        → (Has (λ y. y ≡ x) (list_of (map (signed_change c) frames)) → Has (λ bytes. SpellsChange c bytes x.0 x.1) frames) → Has (λ bytes. SpellsChange c bytes x.0 x.1) (frame ∷ frames)
    go None is h below = inr (below h)
    go (Some y) is (inl same) below = inl (spelled c frame x (is ∙ ap Some same))
    go (Some y) is (inr there) below = inr (below there)

-- ---- the order of the senders

above_first : (x : ℕ × ViewChangeData) (xs : List (ℕ × ViewChangeData)) → ascending (x ∷ xs) ≡ true → (j : ℕ) (b : ℕ × ViewChangeData) → slice_get xs j ≡ Some b → x.0 < b.0
above_first x [] h j b get = absurd cc
above_first x (y ∷ ys) h zero b get =
    let p = and_parts (nat_lt x.0 y.0) (ascending (y ∷ ys)) h in
    let same : y ≡ b = cc in
    subst (λ (z : ℕ × ViewChangeData). x.0 < z.0) same (ltb-true x.0 y.0 p.0)
above_first x (y ∷ ys) h (suc j) b get =
    let p = and_parts (nat_lt x.0 y.0) (ascending (y ∷ ys)) h in
    let less = ltb-true x.0 y.0 p.0 in
    let more = above_first y ys p.1 j b get in
    omega arith

ascends : (xs : List (ℕ × ViewChangeData)) → ascending xs ≡ true → (i j : ℕ) (a b : ℕ × ViewChangeData) → i < j → slice_get xs i ≡ Some a → slice_get xs j ≡ Some b → a.0 < b.0
ascends [] h i j a b less first second = absurd cc
ascends (x ∷ xs) h i zero a b less first second = absurd (omega arith)
ascends (x ∷ xs) h zero (suc j) a b less first second =
    let same : x ≡ a = cc in
    subst (λ (z : ℕ × ViewChangeData). z.0 < b.0) same (above_first x xs h j b second)
ascends (x ∷ []) h (suc i) (suc j) a b less first second = absurd cc
ascends (x ∷ y ∷ ys) h (suc i) (suc j) a b less first second =
    ascends (y ∷ ys) (and_parts (nat_lt x.0 y.0) (ascending (y ∷ ys)) h).1 i j a b (omega arith) first second

-- ---- the start

pub lists : (new : NewViewData) (vc : ViewChangeData) → list_any (λ (checkpoint : CheckpointEntry). (checkpoint.number == new.start) && bytes_eq checkpoint.digest new.root) vc.checkpoints ≡ true
    → Has (λ (checkpoint : CheckpointEntry). (checkpoint.number ≡ new.start) × (checkpoint.digest ≡ new.root)) vc.checkpoints
lists new vc h =
    has_of_any (λ (checkpoint : CheckpointEntry). (checkpoint.number ≡ new.start) × (checkpoint.digest ≡ new.root)) (λ (checkpoint : CheckpointEntry). (checkpoint.number == new.start) && bytes_eq checkpoint.digest new.root)
    (λ checkpoint t. let p = and_parts (checkpoint.number == new.start) (bytes_eq checkpoint.digest new.root) t in (eqb-true checkpoint.number new.start p.0, (bytes_eq-Decides checkpoint.digest new.root).0 p.1))
    vc.checkpoints h

pub takes_well_founded : TakesWellFounded
takes_well_founded c past e new h = record {
  signed = λ bytes has. each_is_one c new.changes bytes (eqb-true (length (changes_of c new)) (length new.changes) s.signed) has;
  carried = λ who vc has. is_carried c new.changes (who, vc) has;
  ascending = ascends (changes_of c new) s.in_order;
  of_its_view = λ who vc has. eqb-true vc.view new.view (each who vc has).0;
  bounded = λ who vc has. bounded c vc (each who vc has).1;
  started = has_from c new (2 * c.faults + 1) (λ vc. nat_le vc.low new.start) (λ vc. vc.low ≤ new.start) (λ vc t. leb-true vc.low new.start t)
      (leb-true (2 * c.faults + 1) (count_in c (λ vc. nat_le vc.low new.start) (changes_of c new)) start.0);
  listed = has_from c new (c.faults + 1) (λ vc. list_any (λ (checkpoint : CheckpointEntry). (checkpoint.number == new.start) && bytes_eq checkpoint.digest new.root) vc.checkpoints)
      (λ vc. Has (λ (checkpoint : CheckpointEntry). (checkpoint.number ≡ new.start) × (checkpoint.digest ≡ new.root)) vc.checkpoints) (lists new)
      (leb-true (c.faults + 1) (count_in c (λ vc. list_any (λ (checkpoint : CheckpointEntry). (checkpoint.number == new.start) && bytes_eq checkpoint.digest new.root) vc.checkpoints) (changes_of c new)) start.1);
}
  where
    s : Selects c new
    s = selects c new (selected_in c e new (takes c 0 past e new h).brought)

    start : (is_quorum c (count_in c (λ vc. nat_le vc.low new.start) (changes_of c new)) ≡ true)
        × (is_weak_quorum c (count_in c (λ vc. list_any (λ (checkpoint : CheckpointEntry). (checkpoint.number == new.start) && bytes_eq checkpoint.digest new.root) vc.checkpoints) (changes_of c new)) ≡ true)
    start = and_parts (is_quorum c (count_in c (λ vc. nat_le vc.low new.start) (changes_of c new)))
        (is_weak_quorum c (count_in c (λ vc. list_any (λ (checkpoint : CheckpointEntry). (checkpoint.number == new.start) && bytes_eq checkpoint.digest new.root) vc.checkpoints) (changes_of c new))) s.start

    each : (who : ℕ) (vc : ViewChangeData) → Has (λ x. x ≡ (who, vc)) (changes_of c new) → ((vc.view == new.view) ≡ true) × (is_within c vc ≡ true)
    each who vc has =
        let t = every_has (λ (x : ℕ × ViewChangeData). (x.1.view == new.view) && is_within c x.1) (changes_of c new) (who, vc) s.each has in
        and_parts (vc.view == new.view) (is_within c vc) t
