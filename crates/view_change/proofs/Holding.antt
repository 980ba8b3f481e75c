-- The stored view changes, one at each sender's place.
use Rattle.std.specs.Prelude.{◌==◌, nat_lt, not, min, option_map, is_some, MatchOption, slice_set, bytes_eq}
use Rattle.std.proofs.Common.{◌≡◌, ℕ, zero, suc, ◌+◌, ◌*◌, ◌≤◌, ◌<◌, ◌⊎◌, inl, inr, Bool, true, false, cond, List, [], ◌∷◌, ◌++◌, length, map, replicate, drop, get_or, Option, Some, None, refl, sym, ap, ap₂, ◌∙◌, subst, arith, append_assoc, append-nil, ◌&&◌}
use Rattle.std.specs.Bool.{⊤}
use Rattle.std.specs.Option.{option_map_or}
use Rattle.std.proofs.lemmas.Bool.{and_from, lt-ltb, cases_lt}
use Rattle.std.proofs.lemmas.Option.{same_Some}
use Rattle.std.proofs.lemmas.Slice.Eq.{bytes_eq-Decides}
use Rattle.std.proofs.lemmas.List.{map-append, length-replicate, length-set, at_drop_more, at_drop_all}
use Rattle.wire_format.specs.Lists.{Each, ascends, leads}
use Rattle.wire_format.specs.Messages.{ViewChangeData}
use Rattle.wire_format.specs.Spelling.{IsCarried, is_view_change, sender_before, sender_in}
use Rattle.protocol.specs.System.Trace.{Has}
use Rattle.protocol.specs.System.Configuration.{Configuration, is_number}
use Rattle.protocol.specs.Replica.Selection.{ascending, is_within, signed_change}
use Rattle.view_change.specs.declared.change_fault.ChangeFault.TheVariants.{WrongView, OutOfBounds, Duplicate}
use Rattle.view_change.specs.ReceivedData.{HeldData, held_for, held_of, pairs_for, frames_for, view_change_refusal, with_held, IsHeldAt, AreHeldFrom, IsHeldSet, IsJoined}
use Rattle.view_change.specs.Finding.{held_with_frame, lesser, least_of}
use Rattle.view_change.specs.ReceivedView.{AreReceived, ReceivedState, judging_configuration, held_by, IsHeldIn}
use Rattle.view_change.specs.Selecting.{are_for}
use Rattle.view_change.specs.Sets.{sized}
use Rattle.view_change.proofs.CarriedFrames.{carried_of, sender_is}
use Rattle.view_change.proofs.Opening.{signed_is}

-- ---- none yet

pub none_held : (c : Configuration) (sender n : ℕ) → AreHeldFrom c sender (replicate n None)
none_held c sender zero = tt
none_held c sender (suc n) = (tt, none_held c (suc sender) n)

pub no_held : (n : ℕ) → held_by (replicate n None) ≡ replicate n None
no_held zero = refl
no_held (suc n) = ap (λ (held : List (Option HeldData)). None ∷ held) (no_held n)

pub none_received : (r : ReceivedState) (n : ℕ) → n ≡ 3 * r.sizes.faults + 1 → r.held ≡ replicate n None → AreReceived r
none_received r n is none = record {
  places = ap length none ∙ length-replicate {A = Option HeldData} n None ∙ is;
  each = subst (λ (held : List (Option HeldData)). AreHeldFrom (judging_configuration r) 0 held) (sym none) (none_held (judging_configuration r) 0 n);
}

-- ---- one more in its place

pub held_set : (c : Configuration) (first at : ℕ) (held : List (Option HeldData)) (h : HeldData) → AreHeldFrom c first held → IsHeldAt c (first + at) (Some h)
    → AreHeldFrom c first (slice_set held at (Some h))
held_set c first at [] h are is = tt
held_set c first zero (o ∷ held) h are is = (subst (λ (s : ℕ). IsHeldAt c s (Some h)) (let e : first + zero ≡ first = omega arith in e) is, are.1)
held_set c first (suc at) (o ∷ held) h are is =
    (are.0, held_set c (suc first) at held h are.1 (subst (λ (s : ℕ). IsHeldAt c s (Some h)) (let e : first + suc at ≡ suc first + at = omega arith in e) is))

pub received_set : (r : ReceivedState) (h : HeldData) → AreReceived r → is_within (judging_configuration r) h.change ≡ true → signed_change (judging_configuration r) h.frame ≡ Some (h.sender, h.change)
    → AreReceived (record r { held = with_held h r.held })
received_set r h are within signed = record {
  places = length-set r.held h.sender (Some h) ∙ are.places;
  each = held_set (judging_configuration r) 0 h.sender r.held h are.each ((let e : h.sender ≡ 0 + h.sender = omega arith in e), within, signed);
}

-- the sender of a signed view change has a place
pub has_place : (r : ReceivedState) (bytes : List ℕ) (x : ℕ × ViewChangeData) → AreReceived r → signed_change (judging_configuration r) bytes ≡ Some x → x.0 < length r.held
has_place r bytes x are signed = let l = (signed_is (judging_configuration r) bytes x signed).known in let n = are.places in omega arith

-- a view change without a fault is within its bounds
pub taken_within : (c : Configuration) (view : ℕ) (held : List (Option HeldData)) (x : ℕ × ViewChangeData) → view_change_refusal c view held x ≡ None → is_within c x.1 ≡ true
taken_within c view held x = go (nat_lt view x.1.view && is_number x.1.view) (is_within c x.1) (option_map_or (λ h. nat_lt h.change.view x.1.view) (held_of held x.0) true)
  where
    go : (a b d : Bool) → cond (not a) (Some WrongView) (cond (not b) (Some OutOfBounds) (cond (not d) (Some Duplicate) None)) ≡ None → b ≡ true
    go false b d h = absurd cc
    go true false d h = absurd cc
    go true true d h = refl

-- ---- those for a view

-- the one at the front, and those after it
pub held_then : (view : ℕ) (o : Option HeldData) (rest : List (Option HeldData)) → held_for view (o ∷ rest) ≡ held_for view (o ∷ []) ++ held_for view rest
held_then view None rest = refl
held_then view (Some h) rest = go (h.change.view == view)
  where
    go : (b : Bool) → cond b (h ∷ held_for view rest) (held_for view rest) ≡ cond b (h ∷ []) [] ++ held_for view rest
    go true = refl
    go false = refl

pub pairs_then : (view : ℕ) (o : Option HeldData) (rest : List (Option HeldData)) → pairs_for view (o ∷ rest) ≡ pairs_for view (o ∷ []) ++ pairs_for view rest
pairs_then view o rest =
    ap (map (λ (h : HeldData). (h.sender, h.change))) (held_then view o rest) ∙ map-append (λ (h : HeldData). (h.sender, h.change)) (held_for view (o ∷ [])) (held_for view rest)

pub frames_then : (view : ℕ) (o : Option HeldData) (rest : List (Option HeldData)) → frames_for view (o ∷ rest) ≡ frames_for view (o ∷ []) ++ frames_for view rest
frames_then view o rest = ap (map (λ (h : HeldData). h.frame)) (held_then view o rest) ∙ map-append (λ (h : HeldData). h.frame) (held_for view (o ∷ [])) (held_for view rest)

-- each is of this sender or of a later one
abbrev StartsAt : ℕ → List (ℕ × ViewChangeData) → Type 0
StartsAt sender [] = ⊤
StartsAt sender (x ∷ xs) = sender ≤ x.0

earlier : (sender : ℕ) (xs : List (ℕ × ViewChangeData)) → StartsAt (suc sender) xs → StartsAt sender xs
earlier sender [] h = tt
earlier sender (x ∷ xs) h = omega arith

before_rest : (x : ℕ × ViewChangeData) (xs : List (ℕ × ViewChangeData)) → StartsAt (suc x.0) xs → ascending xs ≡ true → ascending (x ∷ xs) ≡ true
before_rest x [] h a = refl
before_rest x (y ∷ ys) h a = and_from (nat_lt x.0 y.0) (ascending (y ∷ ys)) (lt-ltb x.0 y.0 (omega arith)) a

-- the stored view changes for a view, from a sender's place on
pub record AreOrdered (c : Configuration) (view sender : ℕ) (xs : List (ℕ × ViewChangeData)) : Type 0 where
  pub starts : StartsAt sender xs
  pub order : ascending xs ≡ true
  pub fit : are_for view xs c ≡ true

pub held_ordered : (c : Configuration) (view sender : ℕ) (held : List (Option HeldData)) → AreHeldFrom c sender held → AreOrdered c view sender (pairs_for view held)
held_ordered c view sender [] are = record { starts = tt; order = refl; fit = refl }
held_ordered c view sender (None ∷ held) are =
    let rest = held_ordered c view (suc sender) held are.1 in
    record { starts = earlier sender (pairs_for view held) rest.starts; order = rest.order; fit = rest.fit }
held_ordered c view sender (Some h ∷ held) are = go (h.change.view == view) refl (held_ordered c view (suc sender) held are.1)
  where
    go : (b : Bool) → (h.change.view == view) ≡ b → AreOrdered c view (suc sender) (pairs_for view held)
        → AreOrdered c view sender (map (λ (g : HeldData). (g.sender, g.change)) (cond b (h ∷ held_for view held) (held_for view held)))
    go true e rest =
        let is = are.0.0 in
        record {
          starts = omega arith;
          order = before_rest (h.sender, h.change) (pairs_for view held) (subst (λ (s : ℕ). StartsAt (suc s) (pairs_for view held)) (sym is) rest.starts) rest.order;
          fit = and_from ((h.change.view == view) && is_within c h.change) (are_for view (pairs_for view held) c) (and_from (h.change.view == view) (is_within c h.change) e are.0.1) rest.fit;
        }
    go false e rest = record { starts = earlier sender (pairs_for view held) rest.starts; order = rest.order; fit = rest.fit }

-- ---- the frames of a view

-- the sender of each frame in the rest of the list signed it
pub held_signed : (c : Configuration) (view sender : ℕ) (held : List (Option HeldData)) → AreHeldFrom c sender held → map (signed_change c) (frames_for view held) ≡ map Some (pairs_for view held)
held_signed c view sender [] are = refl
held_signed c view sender (None ∷ held) are = held_signed c view (suc sender) held are.1
held_signed c view sender (Some h ∷ held) are = go (h.change.view == view) (held_signed c view (suc sender) held are.1)
  where
    go : (b : Bool) → map (signed_change c) (frames_for view held) ≡ map Some (pairs_for view held)
        → map (signed_change c) (map (λ (g : HeldData). g.frame) (cond b (h ∷ held_for view held) (held_for view held)))
        ≡ map Some (map (λ (g : HeldData). (g.sender, g.change)) (cond b (h ∷ held_for view held) (held_for view held)))
    go true rest = ap₂ (λ (o : Option (ℕ × ViewChangeData)) (os : List (Option (ℕ × ViewChangeData))). o ∷ os) are.0.2 rest
    go false rest = rest

pub held_carried : (c : Configuration) (view sender : ℕ) (held : List (Option HeldData)) → AreHeldFrom c sender held → Each (IsCarried is_view_change) (frames_for view held)
held_carried c view sender [] are = tt
held_carried c view sender (None ∷ held) are = held_carried c view (suc sender) held are.1
held_carried c view sender (Some h ∷ held) are = go (h.change.view == view) (held_carried c view (suc sender) held are.1)
  where
    go : (b : Bool) → Each (IsCarried is_view_change) (frames_for view held)
        → Each (IsCarried is_view_change) (map (λ (g : HeldData). g.frame) (cond b (h ∷ held_for view held) (held_for view held)))
    go true rest = (carried_of c h.frame (h.sender, h.change) (signed_is c h.frame (h.sender, h.change) are.0.2), rest)
    go false rest = rest

-- the first frame, if there is one, names this sender or a later one
abbrev NamesFrom : ℕ → List (List ℕ) → Type 0
NamesFrom sender [] = ⊤
NamesFrom sender (frame ∷ frames) = sender ≤ sender_in frame

named_earlier : (sender : ℕ) (frames : List (List ℕ)) → NamesFrom (suc sender) frames → NamesFrom sender frames
named_earlier sender [] h = tt
named_earlier sender (frame ∷ frames) h = omega arith

names_first : (sender : ℕ) (frame : List ℕ) (frames : List (List ℕ)) → sender_in frame ≡ sender → NamesFrom (suc sender) frames → leads sender_before frame frames ≡ true
names_first sender frame [] is h = refl
names_first sender frame (next ∷ frames) is h = lt-ltb (sender_in frame) (sender_in next) (omega arith)

pub held_named : (c : Configuration) (view sender : ℕ) (held : List (Option HeldData)) → AreHeldFrom c sender held
    → NamesFrom sender (frames_for view held) × (ascends sender_before (frames_for view held) ≡ true)
held_named c view sender [] are = (tt, refl)
held_named c view sender (None ∷ held) are =
    let rest = held_named c view (suc sender) held are.1 in
    (named_earlier sender (frames_for view held) rest.0, rest.1)
held_named c view sender (Some h ∷ held) are = go (h.change.view == view) (held_named c view (suc sender) held are.1)
  where
    is : sender_in h.frame ≡ sender
    is = sender_is c h.frame (h.sender, h.change) (signed_is c h.frame (h.sender, h.change) are.0.2) ∙ are.0.0

    go : (b : Bool) → NamesFrom (suc sender) (frames_for view held) × (ascends sender_before (frames_for view held) ≡ true)
        → NamesFrom sender (map (λ (g : HeldData). g.frame) (cond b (h ∷ held_for view held) (held_for view held)))
        × (ascends sender_before (map (λ (g : HeldData). g.frame) (cond b (h ∷ held_for view held) (held_for view held))) ≡ true)
    go true rest = (
      (let e = is in omega arith),
      and_from (leads sender_before h.frame (frames_for view held)) (ascends sender_before (frames_for view held)) (names_first sender h.frame (frames_for view held) is rest.0) rest.1,
    )
    go false rest = (named_earlier sender (frames_for view held) rest.0, rest.1)

held_few : (view : ℕ) (held : List (Option HeldData)) → length (frames_for view held) ≤ length held
held_few view [] = omega arith
held_few view (None ∷ held) = let rest = held_few view held in omega arith
held_few view (Some h ∷ held) = go (h.change.view == view) (held_few view held)
  where
    go : (b : Bool) → length (frames_for view held) ≤ length held → length (map (λ (g : HeldData). g.frame) (cond b (h ∷ held_for view held) (held_for view held))) ≤ suc (length held)
    go true rest = omega arith
    go false rest = omega arith

pub held_set_for : (r : ReceivedState) (view : ℕ) → AreReceived r → IsHeldSet (judging_configuration r) view r.held
held_set_for r view are =
    let ordered = held_ordered (judging_configuration r) view 0 r.held are.each in
    record {
      order = ordered.order;
      fit = ordered.fit;
      signed = held_signed (judging_configuration r) view 0 r.held are.each;
      carried = held_carried (judging_configuration r) view 0 r.held are.each;
      frames_order = (held_named (judging_configuration r) view 0 r.held are.each).1;
      few = (let l = held_few view r.held in let n = are.places in omega arith);
    }

-- ---- the view change that is stored with a frame

-- a found view change is stored at its sender's place
abbrev FoundFrom : Configuration → ℕ → List (Option HeldData) → List ℕ → HeldData → Type 0
FoundFrom c sender held bytes h = (i : ℕ) × (h.sender ≡ sender + i) × (held_of held i ≡ Some h) × (h.frame ≡ bytes) × (signed_change c bytes ≡ Some (h.sender, h.change))

found_behind : (c : Configuration) (sender : ℕ) (o : Option HeldData) (held : List (Option HeldData)) (bytes : List ℕ) (h : HeldData) → FoundFrom c (suc sender) held bytes h → FoundFrom c sender (o ∷ held) bytes h
found_behind c sender o held bytes h f = (suc f.0, (let e = f.1 in omega arith), f.2, f.3, f.4)

found_here : (c : Configuration) (sender : ℕ) (held : List (Option HeldData)) (bytes : List ℕ) (h : HeldData) → IsHeldAt c sender (Some h) → h.frame ≡ bytes → FoundFrom c sender (Some h ∷ held) bytes h
found_here c sender held bytes h are same = (0, (let s = are.0 in omega arith), refl, same, subst (λ (bs : List ℕ). signed_change c bs ≡ Some (h.sender, h.change)) same are.2)

pub found_in : (c : Configuration) (sender : ℕ) (held : List (Option HeldData)) (bytes : List ℕ) (h : HeldData) → AreHeldFrom c sender held → held_with_frame bytes held ≡ Some h → FoundFrom c sender held bytes h
found_in c sender [] bytes h are is = absurd cc
found_in c sender (None ∷ held) bytes h are is = found_behind c sender None held bytes h (found_in c (suc sender) held bytes h are.1 is)
found_in c sender (Some g ∷ held) bytes h are is = go (bytes_eq g.frame bytes) refl is (found_in c (suc sender) held bytes h are.1)
  where
    go : (b : Bool) → bytes_eq g.frame bytes ≡ b → cond b (Some g) (held_with_frame bytes held) ≡ Some h → (held_with_frame bytes held ≡ Some h → FoundFrom c (suc sender) held bytes h) → FoundFrom c sender (Some g ∷ held) bytes h
    go true e f behind =
        subst (λ (x : HeldData). FoundFrom c sender (Some g ∷ held) bytes x) (same_Some g h f) (found_here c sender held bytes g are.0 ((bytes_eq-Decides g.frame bytes).0 e))
    go false e f behind = found_behind c sender (Some g) held bytes h (behind f)

pub held_in_frame : (r : ReceivedState) (bytes : List ℕ) (h : HeldData) → AreReceived r → held_with_frame bytes r.held ≡ Some h → IsHeldIn r bytes h
held_in_frame r bytes h are is =
    let f = found_in (judging_configuration r) 0 r.held bytes h are.each is in
    record {
      frame = f.3;
      held = subst (λ (i : ℕ). held_of r.held i ≡ Some h) (let e : f.0 ≡ h.sender = (let s = f.1 in omega arith) in e) f.2;
      signed = f.4;
    }

-- no other is stored with the frame
pub none_in : (held : List (Option HeldData)) (bytes : List ℕ) → held_with_frame bytes held ≡ None → (h : HeldData) → Has (λ o. o ≡ Some h) held → h.frame ≡ bytes → ⊥
none_in [] bytes is h has same = absurd has
none_in (None ∷ held) bytes is h (inl e) same = absurd cc
none_in (None ∷ held) bytes is h (inr has) same = none_in held bytes is h has same
none_in (Some g ∷ held) bytes is h has same = go (bytes_eq g.frame bytes) refl is has (λ f more. none_in held bytes f h more same)
  where
    go : (b : Bool) → bytes_eq g.frame bytes ≡ b → cond b (Some g) (held_with_frame bytes held) ≡ None → (Some g ≡ Some h) ⊎ Has (λ o. o ≡ Some h) held
        → (held_with_frame bytes held ≡ None → Has (λ o. o ≡ Some h) held → ⊥) → ⊥
    go true e f has behind = absurd cc
    go false e f (inl i) behind = absurd (let t = (bytes_eq-Decides g.frame bytes).1 (ap (λ (x : HeldData). x.frame) (same_Some g h i) ∙ same) in cc)
    go false e f (inr more) behind = behind f more

-- ---- views of others

-- the lesser one is one of the two, and at most either
lesser_is : (x : ℕ) (o : Option ℕ) → (lesser x o ≡ x) ⊎ (o ≡ Some (lesser x o))
lesser_is x None = inl refl
lesser_is x (Some y) = go (cases_lt y x)
  where
    go : (y < x) ⊎ (x ≤ y) → (min y x ≡ x) ⊎ (Some y ≡ Some (min y x))
    go (inl l) = inr (ap Some (let e : y ≡ min y x = omega arith in e))
    go (inr l) = inl (omega arith)

lesser_first : (x : ℕ) (o : Option ℕ) → lesser x o ≤ x
lesser_first x None = omega arith
lesser_first x (Some y) = omega arith

lesser_second : (x y : ℕ) (o : Option ℕ) → o ≡ Some y → lesser x o ≤ y
lesser_second x y None e = absurd cc
lesser_second x y (Some z) e = let s = same_Some z y e in omega arith

least_there : (xs : List ℕ) (v : ℕ) → least_of xs ≡ Some v → Has (λ w. w ≡ v) xs
least_there [] v e = absurd cc
least_there (x ∷ xs) v e = go (lesser_is x (least_of xs)) (least_there xs v)
  where
    is : lesser x (least_of xs) ≡ v
    is = same_Some (lesser x (least_of xs)) v e

    go : (lesser x (least_of xs) ≡ x) ⊎ (least_of xs ≡ Some (lesser x (least_of xs))) → (least_of xs ≡ Some v → Has (λ w. w ≡ v) xs) → (x ≡ v) ⊎ Has (λ w. w ≡ v) xs
    go (inl s) behind = inl (sym s ∙ is)
    go (inr s) behind = inr (behind (s ∙ ap Some is))

each_above : (v w : ℕ) (xs : List ℕ) → v ≤ w → Each (λ u. w ≤ u) xs → Each (λ u. v ≤ u) xs
each_above v w [] l h = tt
each_above v w (x ∷ xs) l h = ((let k = h.0 in omega arith), each_above v w xs l h.1)

none_above : (v : ℕ) (xs : List ℕ) → least_of xs ≡ None → Each (λ u. v ≤ u) xs
none_above v [] e = tt
none_above v (x ∷ xs) e = absurd cc

least_below : (xs : List ℕ) (v : ℕ) → least_of xs ≡ Some v → Each (λ w. v ≤ w) xs
least_below [] v e = absurd cc
least_below (x ∷ xs) v e = ((let l = lesser_first x (least_of xs) in let s = is in omega arith), go (least_of xs) refl (least_below xs))
  where
    is : lesser x (least_of xs) ≡ v
    is = same_Some (lesser x (least_of xs)) v e

    go : (o : Option ℕ) → least_of xs ≡ o → ((w : ℕ) → least_of xs ≡ Some w → Each (λ u. w ≤ u) xs) → Each (λ u. v ≤ u) xs
    go None f behind = none_above v xs f
    go (Some y) f behind = each_above v y xs (let l = lesser_second x y (least_of xs) f in let s = is in omega arith) (behind y f)

pub joined : (faults : ℕ) (views : List ℕ) → faults < length views → (view : ℕ) → least_of views ≡ Some view → IsJoined faults views view
joined faults views enough view is = record { enough = enough; there = least_there views view is; least = least_below views view is }

pub some_least : (views : List ℕ) → 0 < length views → least_of views ≡ None → ⊥
some_least [] l e = absurd (omega arith)
some_least (x ∷ xs) l e = absurd cc

-- ---- the items that a loop gathers from a list

pub one_on : {X A : Type 0} (F : List X → List A) → ((x : X) (rest : List X) → F (x ∷ rest) ≡ F (x ∷ []) ++ F rest) → (xs : List X) (i : ℕ) (x : X) (old new : List A)
    → i < length xs → x ≡ get_or xs i x → old ++ F (drop i xs) ≡ F xs → new ≡ old ++ F (x ∷ []) → new ++ F (drop (i + 1) xs) ≡ F xs
one_on F parts xs i x old new l at so is =
    ap (λ ys. ys ++ F (drop (i + 1) xs)) is ∙ append_assoc old (F (x ∷ [])) (F (drop (i + 1) xs)) ∙ ap (λ ys. old ++ ys) (sym (parts x (drop (i + 1) xs)))
    ∙ ap (λ y. old ++ F (y ∷ drop (i + 1) xs)) at ∙ ap (λ ys. old ++ ys) (sym (at_drop_more F xs i x l)) ∙ so

pub all_on : {X A : Type 0} (F : List X → List A) → F [] ≡ [] → (xs : List X) (i : ℕ) (old : List A) → length xs ≤ i → old ++ F (drop i xs) ≡ F xs → old ≡ F xs
all_on F none xs i old l so = sym (append-nil old) ∙ ap (λ ys. old ++ ys) (sym (at_drop_all F xs i l ∙ none)) ∙ so

pub joined_of : {A : Type 0} (view : A → ℕ) (o : Option A) (faults : ℕ) (views : List ℕ) → faults < length views → option_map view o ≡ least_of views
    → MatchOption o (length views ≤ faults) (λ v. IsJoined faults views (view v))
joined_of view None faults views enough is = absurd (some_least views (omega arith) (sym is))
joined_of view (Some v) faults views enough is = joined faults views enough (view v) (sym is)

-- ---- as the program finds them

-- a found view change, as its pair
abbrev pub pair_in : List ℕ → List (Option HeldData) → Option (ℕ × ViewChangeData)
pair_in bytes held = option_map (λ (h : HeldData). (h.sender, h.change)) (held_with_frame bytes held)

pub opened : (r : ReceivedState) (bytes : List ℕ) (x : ℕ × ViewChangeData) → AreReceived r → Some x ≡ pair_in bytes r.held → Some x ≡ signed_change (judging_configuration r) bytes
opened r bytes x are is = go (held_with_frame bytes r.held) refl is
  where
    go : (o : Option HeldData) → held_with_frame bytes r.held ≡ o → Some x ≡ option_map (λ (h : HeldData). (h.sender, h.change)) o → Some x ≡ signed_change (judging_configuration r) bytes
    go None e f = absurd cc
    go (Some h) e f = f ∙ sym (held_in_frame r bytes h are e).signed

pub found_held : {A : Type 0} (pair : A → ℕ × ViewChangeData) (o : Option A) (r : ReceivedState) (bytes : List ℕ) → AreReceived r → option_map pair o ≡ pair_in bytes r.held → is_some o ≡ true
    → (h : HeldData) × IsHeldIn r bytes h
found_held pair None r bytes are is some = absurd cc
found_held pair (Some x) r bytes are is some = go (held_with_frame bytes r.held) refl is
  where
    go : (p : Option HeldData) → held_with_frame bytes r.held ≡ p → Some (pair x) ≡ option_map (λ (h : HeldData). (h.sender, h.change)) p → (h : HeldData) × IsHeldIn r bytes h
    go None e f = absurd cc
    go (Some h) e f = (h, held_in_frame r bytes h are e)

pub none_held_in : {A : Type 0} (pair : A → ℕ × ViewChangeData) (o : Option A) (held : List (Option HeldData)) (bytes : List ℕ) → option_map pair o ≡ pair_in bytes held → is_some o ≡ false
    → (h : HeldData) → Has (λ p. p ≡ Some h) held → h.frame ≡ bytes → ⊥
none_held_in pair (Some x) held bytes is none h has same = absurd cc
none_held_in pair None held bytes is none h has same = go (held_with_frame bytes held) refl is
  where
    go : (p : Option HeldData) → held_with_frame bytes held ≡ p → ◌≡◌ {A = Option (ℕ × ViewChangeData)} None (option_map (λ (g : HeldData). (g.sender, g.change)) p) → ⊥
    go None e f = none_in held bytes e h has same
    go (Some g) e f = absurd cc

-- ---- the view changes for a view, as a list

pub ordered_for : (r : ReceivedState) (view : ℕ) (xs : List (ℕ × ViewChangeData)) → AreReceived r → xs ≡ pairs_for view r.held → ascending xs ≡ true
ordered_for r view xs are is = subst (λ (ys : List (ℕ × ViewChangeData)). ascending ys ≡ true) (sym is) (held_ordered (judging_configuration r) view 0 r.held are.each).order

pub fit_for : (r : ReceivedState) (view : ℕ) (xs : List (ℕ × ViewChangeData)) → AreReceived r → xs ≡ pairs_for view r.held → are_for view xs (sized r.sizes) ≡ true
fit_for r view xs are is = subst (λ (ys : List (ℕ × ViewChangeData)). are_for view ys (sized r.sizes) ≡ true) (sym is) (held_ordered (judging_configuration r) view 0 r.held are.each).fit
