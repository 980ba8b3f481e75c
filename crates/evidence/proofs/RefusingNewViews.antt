-- The definitions refuse a primary that could send a new view, and does not.
use Rattle.std.proofs.Common.{◌≡◌, ◌≢◌, ℕ, ◌<◌, ◌⊎◌, inl, inr, true, List, [], ◌∷◌, ◌++◌, refl, sym, ap, ◌∙◌, subst, arith, Some}
use Rattle.std.specs.Prelude.{option_and_then}
use Rattle.std.proofs.lemmas.Slice.Eq.{bytes_eq-Decides}
use Rattle.wire_format.specs.Lists.{Each}
use Rattle.wire_format.specs.Messages.{ViewChangeData, NewViewData, view_change as ViewChange}
use Rattle.protocol.specs.System.Configuration.{Configuration}
use Rattle.protocol.specs.System.Frames.{leaf_of}
use Rattle.protocol.specs.System.Trace.{Entry}
use Rattle.protocol.specs.System.Trace.Entry.{Got, Sent}
use Rattle.protocol.specs.Replica.Selection.{change_in, changes_of, may_select, signed_change}
use Rattle.protocol.specs.Replica.Certificates.{view, view_after, target, new_view_from, latest_change}
use Rattle.protocol.specs.Replica.State.{opening, root_of}
use Rattle.protocol.specs.Replica.RightReplica.{SentBefore}
use Rattle.protocol.specs.Replica.Owed.{IsSending, AreKeysSpent, BringsChange, HasLatestChange, CanBeginView}
use Rattle.evidence.specs.Examples.{four}
use Rattle.evidence.specs.ExamplesOfChanges.{beginning_change, beginning_view, ChangesInBeginning}
use Rattle.evidence.specs.Refused.{ReplicaGoesOn}
use Rattle.evidence.specs.RefusedNewViews.{CameLast, SentLast, SendsNewViews, BeginsItsView}
use Rattle.protocol.proofs.Words.Elements.{each_weaker}
use Rattle.protocol.proofs.Words.Options.{some_injective}
use Rattle.protocol.proofs.Words.Temporal.{once_weaker}
use Rattle.evidence.proofs.RefusingOwed.{event_of}
use Rattle.evidence.proofs.JoiningChanges as joining

none_left : (c : Configuration) (me : ℕ) (new : NewViewData) (input : Entry) (outputs past : List Entry) → CanBeginView c me (outputs ++ input ∷ past) new → ReplicaGoesOn c me outputs input past
    → AreKeysSpent (outputs ++ input ∷ past)
none_left c me new input outputs past can goes = (event_of c me outputs input past goes).owes.new_views new can

-- the bytes come, while the view change is above the view and its sender's last
abbrev Comes : Configuration → ℕ → ℕ × ViewChangeData → List ℕ → List Entry → Entry → Type 0
Comes c me x bytes past e = (e ≡ Got me bytes) × (view c past < x.1.view) × (latest_change c past x.0 < x.1.view)

-- the view change that came last, or that the replica sent last, is the latest
is_latest : (c : Configuration) (me : ℕ) (now : List Entry) (x : ℕ × ViewChangeData) → CameLast c me now x ⊎ SentLast me now x → HasLatestChange c me now x
is_latest c me now x (inl (bytes, other, signed, within, came, latest)) = inl (other, once_weaker (Comes c me x bytes) (BringsChange c x) brings now came, latest)
  where
    brings : (past : List Entry) (e : Entry) → Comes c me x bytes past e → BringsChange c x past e
    brings past e (is, above, newer) = subst (λ (y : Entry). BringsChange c x past y) (sym is) (signed, (above, within, newer))
is_latest c me now x (inr (bytes, own, says, sent, at)) =
    inr (own, once_weaker (λ past e. e ≡ Sent me bytes) (λ past e. IsSending me (ViewChange x.1) e) (λ past e is. subst (λ (y : Entry). IsSending me (ViewChange x.1) y) (sym is) says) now sent, at)

pub sends_new_views : SendsNewViews
sends_new_views c me new input outputs past above view primary selected changes batches goes =
    none_left c me new input outputs past
    (record {
      left = let is = view in omega (arith, above, is);
      view = view;
      primary = primary;
      selected = selected;
      changes = each_weaker (λ x. CameLast c me (outputs ++ input ∷ past) x ⊎ SentLast me (outputs ++ input ∷ past) x) (HasLatestChange c me (outputs ++ input ∷ past)) (is_latest c me (outputs ++ input ∷ past)) (changes_of c new) changes;
      batches = batches;
    })
    goes

-- ---- over three view changes in the beginning

-- with any root
beginning_with : List ℕ → ViewChangeData
beginning_with root = record { view = 1; low = 0; checkpoints = record { number = 0; digest = root } ∷ []; prepared = []; pre_prepared = [] }

new_with : List ℕ → List ℕ → List ℕ → List ℕ → NewViewData
new_with root a b d = record { view = 1; changes = a ∷ b ∷ d ∷ []; start = 0; root = root; batches = [] }

selected : (clients : ℕ) (seed root a b d : List ℕ) → signed_change (four clients seed) a ≡ Some (1, beginning_with root) → signed_change (four clients seed) b ≡ Some (2, beginning_with root)
    → signed_change (four clients seed) d ≡ Some (3, beginning_with root) → may_select (four clients seed) (new_with root a b d) ≡ true
unfolding may_select beginning_with new_with
selected clients seed root a b d ha hb hd = rw (ha, hb, hd) (rw ((bytes_eq-Decides root root).1 refl) refl)

carried : (c : Configuration) (me : ℕ) (now : List Entry) (root a b d : List ℕ) → signed_change c a ≡ Some (1, beginning_with root) → signed_change c b ≡ Some (2, beginning_with root)
    → signed_change c d ≡ Some (3, beginning_with root) → HasLatestChange c me now (1, beginning_with root) → HasLatestChange c me now (2, beginning_with root) → HasLatestChange c me now (3, beginning_with root)
    → Each (HasLatestChange c me now) (changes_of c (new_with root a b d))
unfolding new_with
carried c me now root a b d ha hb hd one two three = rw (ha, hb, hd) (one, (two, (three, tt)))

-- two keys sign two frames
one_sent : (own first second : List ℕ) → AreKeysSpent (Sent 1 own ∷ Got 1 second ∷ Got 1 first ∷ []) → ⊥
one_sent own first second spent =
    let zero = spent 0 (omega arith) in
    let one = spent 1 (omega arith) in
    let bad : Some 0 ≡ Some 1 = sym zero.1 ∙ ap leaf_of (sym (is zero.0 zero.2)) ∙ ap leaf_of (is one.0 one.2) ∙ one.1 in
    absurd (let worse : 0 ≡ 1 = some_injective 0 1 bad in cc)
  where
    is : (bytes : List ℕ) → SentBefore bytes (Sent 1 own ∷ Got 1 second ∷ Got 1 first ∷ []) → own ≡ bytes
    is bytes (inl h) = h
    is bytes (inr (inl h)) = absurd h
    is bytes (inr (inr (inl h))) = absurd h
    is bytes (inr (inr (inr h))) = absurd h

module _ (clients : ℕ) (seed first second own : List ℕ) (x : ChangesInBeginning (four clients seed) 2 first) (y : ChangesInBeginning (four clients seed) 3 second) (z : ChangesInBeginning (four clients seed) 1 own) where
  abbrev c : Configuration
  c = four clients seed

  abbrev h1 : List Entry
  h1 = Got 1 first ∷ []

  abbrev h2 : List Entry
  h2 = Got 1 second ∷ h1

  abbrev now : List Entry
  now = Sent 1 own ∷ h2

  abbrev root : List ℕ
  root = root_of opening

  apart : ◌≢◌ {A = ℕ} 2 3
  apart h = absurd (omega (arith, h))

  first_other : ◌≢◌ {A = ℕ} 2 1
  first_other h = absurd (omega (arith, h))

  second_other : ◌≢◌ {A = ℕ} 3 1
  second_other h = absurd (omega (arith, h))

  signs : (s : ℕ) (bytes : List ℕ) → ChangesInBeginning c s bytes → signed_change c bytes ≡ Some (s, beginning_change)
  signs s bytes h = ap (option_and_then change_in) h

  view_first : view c [] ≡ 0
  unfolding view
  view_first = refl

  pub view_now : view c now ≡ 0
  unfolding view
  view_now =
      ap (view_after (view c h2) (target h2)) (ap (option_and_then (new_view_from c)) (joining.says clients seed 1 2 3 first second own apart first_other second_other x y z))
      ∙ (joining.still2 clients seed 1 2 3 first second own apart first_other second_other x y z).view_is

  pub target_now : target now ≡ 1
  target_now = joining.target_one clients seed 1 2 3 first second own apart first_other second_other x y z

  first_brought : BringsChange c (2, beginning_change) [] (Got 1 first)
  first_brought = (signs 2 first x, (subst (λ (v : ℕ). v < 1) (sym view_first) (omega arith), refl, omega arith))

  second_brought : BringsChange c (3, beginning_change) h1 (Got 1 second)
  second_brought = (
    signs 3 second y,
    (
      subst (λ (v : ℕ). v < 1) (sym (joining.still1 clients seed 1 2 3 first second own apart first_other second_other x y z).view_is) (omega arith),
      refl,
      subst (λ (v : ℕ). v < 1) (sym (joining.latest clients seed 1 2 3 first second own apart first_other second_other x y z)) (omega arith),
    ),
  )

  pub assigned_is_selected : may_select c (beginning_view root own first second) ≡ true
  unfolding beginning_with new_with
  assigned_is_selected = selected clients seed root own first second (signs 1 own z) (signs 2 first x) (signs 3 second y)

  can : CanBeginView c 1 now (new_with root own first second)
  unfolding beginning_with new_with
  can = record {
    left = let v = view_now in let t = target_now in omega (arith, v, t);
    view = sym target_now;
    primary = refl;
    selected = selected clients seed root own first second (signs 1 own z) (signs 2 first x) (signs 3 second y);
    changes = carried c 1 now root own first second (signs 1 own z) (signs 2 first x) (signs 3 second y)
        (inr (refl, inl (joining.says clients seed 1 2 3 first second own apart first_other second_other x y z), target_now))
        (inl (first_other, inr (inr (inl first_brought)), omega (arith, joining.of_first clients seed 1 2 3 first second own apart first_other second_other x y z)))
        (inl (second_other, inr (inl second_brought), omega (arith, joining.of_second clients seed 1 2 3 first second own apart first_other second_other x y z)));
    batches = tt;
  }

pub begins_its_view : BeginsItsView
begins_its_view clients seed first second own x y z goes =
    one_sent own first second
    (none_left (four clients seed) 1 (new_with (root_of opening) own first second) (Got 1 second) (Sent 1 own ∷ []) (Got 1 first ∷ []) (can clients seed first second own x y z) goes)
