-- Which view changes and new views a replica refuses, and which it takes.
use Rattle.std.specs.Prelude.{◌==◌, ◌&&◌, nat_lt, not, if◌then◌else◌}
use Rattle.std.specs.Option.{option_map_or}
use Rattle.std.proofs.Common.{◌≡◌, ℕ, ◌+◌, ◌*◌, ◌<◌, ◌≤◌, Bool, true, false, List, [], ◌∷◌, Option, Some, None, refl, subst, arith}
use Rattle.std.proofs.lemmas.Bool.{and_parts, and_from, eqb-true, leb-true, lt-ltb, ltb-true}
use Rattle.std.proofs.lemmas.Option.{same_Some}
use Rattle.wire_format.specs.Messages.{NewViewData, ViewChangeData}
use Rattle.quorum.specs.Quorum.{count_below}
use Rattle.protocol.specs.System.Configuration.{Configuration, is_number, primary, replicas}
use Rattle.protocol.specs.Replica.Certificates.{is_later}
use Rattle.protocol.specs.Replica.Selection.{all_signed, are_enough, ascending, changes_of, count_in, is_quorum, is_within, may_select}
use Rattle.view_change.specs.declared.change_fault.ChangeFault.TheVariants as changes
use Rattle.view_change.specs.declared.fault.NewViewFault.TheVariants as views
use Rattle.view_change.specs.Laws.{NewViewsAreJudged, ChangesAreJudged}
use Rattle.view_change.specs.ReceivedData.{HeldData, held_of}
use Rattle.view_change.specs.Selecting.{are_for}
use Rattle.protocol.proofs.Words.Lists.{none_pass}
use Rattle.view_change.proofs.Larger.{selects_by_set}

-- a view change within its bounds is for a view below 2^48
pub within_view : (c : Configuration) (vc : ViewChangeData) → is_within c vc ≡ true → is_number vc.view ≡ true
within_view c vc h =
    let a = and_parts _ _ h in
    let b = and_parts _ _ a.0 in
    let d = and_parts _ _ b.0 in
    (and_parts (is_number vc.view) (is_number vc.low) d.0).0

-- ---- new views

-- five tests, all of which pass
five : (a b d e f : Bool)
    → (if not a then Some views.UnknownSender else if not b then Some views.WrongView else if not d then Some views.BadSignature else if not e then Some views.TooFew else if not f then Some views.NotSelected else None) ≡ None
    → (a ≡ true) × (b ≡ true) × (f ≡ true)
five false b d e f h = absurd cc
five true false d e f h = absurd cc
five true true false e f h = absurd cc
five true true true false f h = absurd cc
five true true true true false h = absurd cc
five true true true true true h = (refl, refl, refl)

all_five : (a b d e f : Bool) → a ≡ true → b ≡ true → d ≡ true → e ≡ true → f ≡ true
    → (if not a then Some views.UnknownSender else if not b then Some views.WrongView else if not d then Some views.BadSignature else if not e then Some views.TooFew else if not f then Some views.NotSelected else None) ≡ None
all_five a b d e f p q r s t = rw (p, q, r, s, t) refl

-- a selected new view is signed, by enough
signed_enough : (c : Configuration) (new : NewViewData) → may_select c new ≡ true → (all_signed c new ≡ true) × (are_enough c new ≡ true)
signed_enough c new h =
    let r = (selects_by_set c new).0 h in
    let p = and_parts _ _ r.1 in
    (r.0, (and_parts _ _ p.0).0)

-- some view change of a quorum is for the view
first_view : (c : Configuration) (view : ℕ) (set : List (ℕ × ViewChangeData)) → is_quorum c (count_in c (λ vc. true) set) ≡ true → are_for view set c ≡ true → is_number view ≡ true
first_view c view [] enough fit =
    let none = none_pass (replicas c) in
    let many : 2 * c.faults + 1 ≤ count_below (λ s. false) (replicas c) = leb-true (2 * c.faults + 1) (count_below (λ s. false) (replicas c)) enough in
    absurd (omega (arith, none, many))
first_view c view (x ∷ set) enough fit =
    let it = and_parts ((x.1.view == view) && is_within c x.1) (are_for view set c) fit in
    let its = and_parts (x.1.view == view) (is_within c x.1) it.0 in
    subst (λ (v : ℕ). is_number v ≡ true) (eqb-true x.1.view view its.0) (within_view c x.1 its.1)

-- a selected new view is for a view below 2^48
selected_number : (c : Configuration) (new : NewViewData) → may_select c new ≡ true → is_number new.view ≡ true
selected_number c new h =
    let r = (selects_by_set c new).0 h in
    let p = and_parts (is_quorum c (count_in c (λ vc. true) (changes_of c new)) && ascending (changes_of c new)) (are_for new.view (changes_of c new) c) r.1 in
    let q = and_parts (is_quorum c (count_in c (λ vc. true) (changes_of c new))) (ascending (changes_of c new)) p.0 in
    first_view c new.view (changes_of c new) q.0 p.1

pub new_views_are_judged : NewViewsAreJudged
new_views_are_judged c view target sender new = (
  λ h. let p = five (sender == primary c new.view) (is_later view target new && is_number new.view) (all_signed c new) (are_enough c new) (may_select c new) h in
      (and_from (sender == primary c new.view) (may_select c new) p.0 p.2, (and_parts (is_later view target new) (is_number new.view) p.1).0),
  λ h. let p = and_parts (sender == primary c new.view) (may_select c new) h.0 in
      let s = signed_enough c new p.1 in
      let later = and_from (is_later view target new) (is_number new.view) h.1 (selected_number c new p.1) in
      all_five (sender == primary c new.view) (is_later view target new && is_number new.view) (all_signed c new) (are_enough c new) (may_select c new) p.0 later s.0 s.1 p.1,
)

-- ---- view changes

three : (a b d : Bool) → (if not a then Some changes.WrongView else if not b then Some changes.OutOfBounds else if not d then Some changes.Duplicate else None) ≡ None → (a ≡ true) × (b ≡ true) × (d ≡ true)
three false b d h = absurd cc
three true false d h = absurd cc
three true true false h = absurd cc
three true true true h = (refl, refl, refl)

all_three : (a b d : Bool) → a ≡ true → b ≡ true → d ≡ true → (if not a then Some changes.WrongView else if not b then Some changes.OutOfBounds else if not d then Some changes.Duplicate else None) ≡ None
all_three a b d p q r = rw (p, q, r) refl

newer_than : (o : Option HeldData) (view : ℕ) → option_map_or (λ h. nat_lt h.change.view view) o true ≡ true → (h : HeldData) → o ≡ Some h → h.change.view < view
newer_than None view t h e = absurd cc
newer_than (Some g) view t h e = let s = same_Some g h e in ltb-true h.change.view view cc

is_newer : (o : Option HeldData) (view : ℕ) → ((h : HeldData) → o ≡ Some h → h.change.view < view) → option_map_or (λ h. nat_lt h.change.view view) o true ≡ true
is_newer None view f = refl
is_newer (Some g) view f = lt-ltb g.change.view view (f g refl)

pub changes_are_judged : ChangesAreJudged
changes_are_judged c view held x = (
  λ h. let p = three (nat_lt view x.1.view && is_number x.1.view) (is_within c x.1) (option_map_or (λ h. nat_lt h.change.view x.1.view) (held_of held x.0) true) h in
      (ltb-true view x.1.view (and_parts (nat_lt view x.1.view) (is_number x.1.view) p.0).0, p.1, newer_than (held_of held x.0) x.1.view p.2),
  λ h. all_three (nat_lt view x.1.view && is_number x.1.view) (is_within c x.1) (option_map_or (λ h. nat_lt h.change.view x.1.view) (held_of held x.0) true)
      (and_from (nat_lt view x.1.view) (is_number x.1.view) (lt-ltb view x.1.view h.0) (within_view c x.1 h.1)) h.1 (is_newer (held_of held x.0) x.1.view h.2),
)
