-- Signed view changes of enough replicas, put in order, and the new view over them that has no batch.
use Rattle.std.proofs.Common.{◌≡◌, ℕ, zero, suc, ◌+◌, ◌*◌, ◌≤◌, ◌<◌, inl, inr, Bool, true, false, List, [], ◌∷◌, Some, None, refl, sym, ap, ◌∙◌, arith, eqb-true, ◌&&◌}
use Rattle.std.specs.Prelude.{◌==◌, nat_lt, ⊤}
use Rattle.std.proofs.lemmas.Bool.{and_parts, and_from, lt-ltb, ltb-true, eqb-false}
use Rattle.quorum.specs.Quorum.{count_below}
use Rattle.quorum.proofs.Counting.{count_mono}
use Rattle.wire_format.specs.Lists.{Each}
use Rattle.wire_format.specs.Messages.{ViewChangeData, NewViewData, CheckpointEntryData as CheckpointEntry}
use Rattle.protocol.specs.System.Configuration.{Configuration, replicas}
use Rattle.protocol.specs.System.Trace.{Has}
use Rattle.protocol.specs.Replica.Selection.{is_within, changes_of, ascending, may_select}
use Rattle.protocol.specs.Laws.Bounds.{IsBounded}
use Rattle.evidence.specs.Refused.{SoManyHave}
use Rattle.evidence.specs.RefusedMarks.{SpellsChange}
use Rattle.evidence.specs.Selected.{AreSigned, SomePrepared}
use Rattle.protocol.proofs.Words.Bounds.{bounded}
use Rattle.protocol.proofs.Words.Elements.{each_weaker, each_has}
use Rattle.evidence.proofs.SelectedTests.{pairs_of_ascending}
use Rattle.evidence.proofs.SelectedRules.{new_views_meet_the_rules, changes_are}
use Rattle.progress.specs.Leaving.{HasNothingAbove}

-- ---- one view change a replica, in the order of the replicas

-- a signed view change of the replica, of which P holds
pub record Change (c : Configuration) (P : ℕ × ViewChangeData → Type 0) (s : ℕ) : Type 0 where
  pub bytes : List ℕ
  pub vc : ViewChangeData
  pub signed : SpellsChange c bytes s vc
  pub holds : P (s, vc)

-- frames with one of each of these replicas
pub record Gathered (c : Configuration) (P : ℕ × ViewChangeData → Type 0) (from : ℕ → Bool) (first n : ℕ) : Type 0 where
  pub frames : List (List ℕ)
  pub set : List (ℕ × ViewChangeData)
  pub signed : AreSigned c frames set
  pub order : ascending set ≡ true
  pub above : Each (λ x. first ≤ x.0) set
  pub each : Each P set
  pub there : (s : ℕ) → first ≤ s → s < first + n → from s ≡ true → (vc : ViewChangeData) × Has (λ x. x ≡ (s, vc)) set

ascends : (s : ℕ) (vc : ViewChangeData) (set : List (ℕ × ViewChangeData)) → Each (λ x. suc s ≤ x.0) set → ascending set ≡ true → ascending ((s, vc) ∷ set) ≡ true
ascends s vc [] above h = refl
ascends s vc (y ∷ ys) above h = and_from (nat_lt s y.0) (ascending (y ∷ ys)) (let l : s < y.0 = above.0 in lt-ltb s y.0 l) h

one_more : (c : Configuration) (P : ℕ × ViewChangeData → Type 0) (from : ℕ → Bool) (first n : ℕ) → ((s : ℕ) → first ≤ s → s < first + suc n → from s ≡ true → Change c P s) → Gathered c P from (suc first) n
    → Gathered c P from first (suc n)
one_more c P from first n have rest = go (from first) refl
  where
    higher : Each (λ x. first ≤ x.0) rest.set
    higher = each_weaker (λ x. suc first ≤ x.0) (λ x. first ≤ x.0) (λ x l. omega arith) rest.set rest.above

    go : (b : Bool) → from first ≡ b → Gathered c P from first (suc n)
    go true e = record {
      frames = x.bytes ∷ rest.frames;
      set = (first, x.vc) ∷ rest.set;
      signed = (x.signed, rest.signed);
      order = ascends first x.vc rest.set rest.above rest.order;
      above = (omega arith, higher);
      each = (x.holds, rest.each);
      there = λ s l m h. pick s l m h (first == s) refl;
    }
      where
        x : Change c P first
        x = let a : first ≤ first = omega arith in let b : first < first + suc n = omega arith in have first a b e

        pick : (s : ℕ) → first ≤ s → s < first + suc n → from s ≡ true → (b : Bool) → (first == s) ≡ b → (vc : ViewChangeData) × Has (λ y. y ≡ (s, vc)) ((first, x.vc) ∷ rest.set)
        pick s l m h true is = (x.vc, inl (ap (λ (k : ℕ). (let p : ℕ × ViewChangeData = (k, x.vc) in p)) (eqb-true first s is)))
        pick s l m h false is =
            let d = eqb-false first s is in
            let r = rest.there s (omega arith) (omega arith) h in
            (r.0, inr r.1)
    go false e = record {
      frames = rest.frames;
      set = rest.set;
      signed = rest.signed;
      order = rest.order;
      above = higher;
      each = rest.each;
      there = λ s l m h. pick s l m h (first == s) refl;
    }
      where
        pick : (s : ℕ) → first ≤ s → s < first + suc n → from s ≡ true → (b : Bool) → (first == s) ≡ b → (vc : ViewChangeData) × Has (λ y. y ≡ (s, vc)) rest.set
        pick s l m h true is = absurd (let same : first ≡ s = eqb-true first s is in let bad : false ≡ true = sym e ∙ ap from same ∙ h in cc)
        pick s l m h false is =
            let d = eqb-false first s is in
            rest.there s (omega arith) (omega arith) h

pub gather : (c : Configuration) (P : ℕ × ViewChangeData → Type 0) (from : ℕ → Bool) (first n : ℕ) → ((s : ℕ) → first ≤ s → s < first + n → from s ≡ true → Change c P s) → Gathered c P from first n
gather c P from first zero have = record { frames = []; set = []; signed = tt; order = refl; above = tt; each = tt; there = λ s l m h. absurd (omega arith) }
gather c P from first (suc n) have =
    one_more c P from first n have
    (gather c P from (suc first) n (λ s l m h. let a : first ≤ s = omega arith in let b : s < first + suc n = omega arith in have s a b h))

-- ---- the new view with no batch

abbrev pub bare_view : ℕ → ℕ → List ℕ → List (List ℕ) → NewViewData
bare_view v start root frames = record { view = v; changes = frames; start = start; root = root; batches = [] }

-- the view change has nothing above the checkpoint, and is within its bounds
abbrev pub IsBare : Configuration → ℕ → ℕ → List ℕ → ℕ × ViewChangeData → Type 0
IsBare c v start root x = (x.1.view ≡ v) × (is_within c x.1 ≡ true) × HasNothingAbove start root x.1

module _ (c : Configuration) (v start : ℕ) (root : List ℕ) (P : ℕ × ViewChangeData → Type 0) (bare : (x : ℕ × ViewChangeData) → P x → IsBare c v start root x)
    (from : ℕ → Bool) (enough : 2 * c.faults + 1 ≤ count_below from (replicas c)) (g : Gathered c P from 0 (replicas c)) where
  inside : ℕ → Bool
  inside s = nat_lt s (replicas c) && from s

  so_many : 2 * c.faults + 1 ≤ count_below inside (replicas c)
  unfolding inside
  so_many =
      let more = count_mono from (λ s. nat_lt s (replicas c) && from s) (replicas c) (λ s l h. and_from (nat_lt s (replicas c)) (from s) (lt-ltb s (replicas c) l) h) in
      omega arith

  have : (Q : ViewChangeData → Type 0) → ((x : ℕ × ViewChangeData) → IsBare c v start root x → Q x.1) → (s : ℕ) → inside s ≡ true → (vc : ViewChangeData) × Has (λ x. x ≡ (s, vc)) g.set × Q vc
  unfolding inside
  have Q q s h =
      let p = and_parts (nat_lt s (replicas c)) (from s) h in
      let l = ltb-true s (replicas c) p.0 in
      let t = g.there s (omega arith) (omega arith) p.1 in
      (t.0, t.1, q (s, t.0) (bare (s, t.0) (each_has P g.set (s, t.0) g.each t.1)))

  quorum : (Q : ViewChangeData → Type 0) → ((x : ℕ × ViewChangeData) → IsBare c v start root x → Q x.1) → SoManyHave (2 * c.faults + 1) c g.set Q
  quorum Q q = (inside, so_many, have Q q)

  weak : (Q : ViewChangeData → Type 0) → ((x : ℕ × ViewChangeData) → IsBare c v start root x → Q x.1) → SoManyHave (c.faults + 1) c g.set Q
  weak Q q = (inside, (let m = so_many in omega arith), have Q q)

  none_above : (set : List (ℕ × ViewChangeData)) → Each P set → (i : ℕ) → SomePrepared set i → i ≤ start
  none_above [] h i some = absurd some
  none_above (x ∷ xs) h i (inl here) = (bare x h.0).2.none i here
  none_above (x ∷ xs) h i (inr more) = none_above xs h.1 i more

  pub bare_is_selected : may_select c (bare_view v start root g.frames) ≡ true
  bare_is_selected = (new_views_meet_the_rules c (record { view = v; changes = g.frames; start = start; root = root; batches = [] })).1 (record {
    set = g.set;
    signed = g.signed;
    ascending = pairs_of_ascending g.set g.order;
    enough = quorum (λ vc. ⊤) (λ x h. tt);
    within = each_weaker P (λ x. (x.1.view ≡ v) × IsBounded c x.1) (λ x h. let b = bare x h in (b.0, bounded c x.1 b.1)) g.set g.each;
    started = quorum (λ vc. vc.low ≤ start) (λ x h. h.2.low);
    listed = weak (λ vc. Has (λ (m : CheckpointEntry). (m.number ≡ start) × (m.digest ≡ root)) vc.checkpoints) (λ x h. h.2.lists);
    filled = λ i some l. let m = none_above g.set g.each i some in omega arith;
    ends = inl refl;
    stands = λ k batch get. absurd (let bad : None ≡ Some batch = get in cc);
  })

  pub carried_by_bare : changes_of c (bare_view v start root g.frames) ≡ g.set
  carried_by_bare = changes_are c g.frames g.set g.signed
