-- A committed batch stays: each later new view has it, or starts at or above its number.
use Rattle.std.proofs.Common.{◌≡◌, ℕ, ◌≤◌, ◌<◌, ◌⊎◌, inl, inr, Bool, true, false, cond, List, [], ◌∷◌, Option, Some, None, refl, sym, ap, ◌∙◌, subst, arith}
use Rattle.std.specs.Prelude.{option_and_then}
use Rattle.sha2.specs.Sha256.{sha256}
use Rattle.protocol.specs.System.Configuration.{Configuration, is_correct_replica}
use Rattle.wire_format.specs.Messages.{NewViewData}
use Rattle.protocol.specs.System.Trace.{Entry, history_of, Once, Always}
use Rattle.quorum.specs.Votes.{or_else}
use Rattle.protocol.specs.Replica.Certificates.{assigned_proposal, entry_proposal, view, view_after, new_view_in, target, low, is_in_marks, logged, proposal, taken, assigned_batch, is_later}
use Rattle.protocol.specs.Laws.Histories.{AreReplicasSafe, TakesOrSendsNewView, HasOrStartsAbove}
use Rattle.protocol.proofs.Words.Options.{and_then_some, some_injective, or_else_cases}
use Rattle.protocol.proofs.Agreement.Voting.{RightAt, right_always, logged_stays}
use Rattle.protocol.proofs.Agreement.Marks.{low_grows, takes, proposes}
use Rattle.protocol.proofs.Agreement.Offers.{entry_within, assigned_place, marks_above}

-- ---- how a view is reached

Reaches : Configuration → ℕ → List Entry → Entry → Type 0
Reaches c u past e = (new : NewViewData) × (taken c past e ≡ Some new) × (new.view ≡ u)

reached_by : (c : Configuration) (u : ℕ) (past : List Entry) (e : Entry) → view c (e ∷ past) ≡ u → (view c past ≡ u) ⊎ Reaches c u past e
unfolding view Reaches
reached_by c u past e h = go (new_view_in c e) refl h
  where
    go : (o : Option NewViewData) → new_view_in c e ≡ o → view_after (view c past) (target past) o ≡ u
        → (view c past ≡ u) ⊎ ((new : NewViewData) × (taken c past e ≡ Some new) × (new.view ≡ u))
    go None is k = inl k
    go (Some new) is k = test (is_later (view c past) (target past) new) refl k
      where
        test : (b : Bool) → (is_later (view c past) (target past) new) ≡ b → cond b new.view (view c past) ≡ u
            → (view c past ≡ u) ⊎ ((new : NewViewData) × (taken c past e ≡ Some new) × (new.view ≡ u))
        test true e k = inr (new, rw is (rw e refl), k)
        test false e k = inl k

reached : (c : Configuration) (u : ℕ) (xs : List Entry) → view c xs ≡ u → 0 < u → Once (Reaches c u) xs
unfolding view
reached c u [] h l = absurd (omega arith)
reached c u (e ∷ past) h l = go (reached_by c u past e h) (reached c u past)
  where
    go : (view c past ≡ u) ⊎ Reaches c u past e → (view c past ≡ u → 0 < u → Once (Reaches c u) past) → Once (Reaches c u) (e ∷ past)
    go (inl k) below = inr (below k l)
    go (inr k) below = inl k

-- ---- logged batches in a settled view

-- each new view of the view u that a correct replica takes has the digest at i, or starts at or above it
abbrev pub Settled : Configuration → List Entry → ℕ → List ℕ → ℕ → Type 0
Settled c trace i d u = (q : ℕ) (new : NewViewData) → is_correct_replica c q ≡ true → Once (TakesOrSendsNewView c new) (history_of q trace) → new.view ≡ u → HasOrStartsAbove i d new

or_else_split : {A : Type 0} (o later : Option A) (x : A) → or_else o later ≡ Some x → (o ≡ Some x) ⊎ ((o ≡ None) × (later ≡ Some x))
or_else_split None later x e = inr (refl, e)
or_else_split (Some y) later x e = inl e

-- from a settled new view on, its batch is logged, or the number is below the marks
record Placed (c : Configuration) (s u i : ℕ) (past : List Entry) : Type 0 where
  place : ((b : List ℕ) × (logged c s past u i ≡ Some b)) ⊎ (i ≤ low c s past)

placed_stays : (c : Configuration) (s u i : ℕ) (e : Entry) (past : List Entry) → Placed c s u i past → Placed c s u i (e ∷ past)
placed_stays c s u i e past p = record { place = go p.place }
  where
    go : ((b : List ℕ) × (logged c s past u i ≡ Some b)) ⊎ (i ≤ low c s past) → ((b : List ℕ) × (logged c s (e ∷ past) u i ≡ Some b)) ⊎ (i ≤ low c s (e ∷ past))
    go (inl h) = inl (h.0, logged_stays c s u i h.0 e past h.1)
    go (inr h) = inr (let grows = low_grows c s e past in omega arith)

settled_placed : (c : Configuration) (trace : List Entry) (i : ℕ) (d : List ℕ) (u s : ℕ) → Settled c trace i d u → is_correct_replica c s ≡ true
    → (past : List Entry) (e : Entry) → ((R : List Entry → Entry → Type 0) → R past e → Once R (history_of s trace)) → Always (RightAt c s) past → Reaches c u past e → Placed c s u i (e ∷ past)
unfolding Reaches
settled_placed c trace i d u s settled correct past e emb right r =
    go (settled s r.0 correct (emb (TakesOrSendsNewView c r.0) r.1) r.2)
  where
    go : HasOrStartsAbove i d r.0 → Placed c s u i (e ∷ past)
    go (inl h) = let l = (takes c s past e r.0 r.1).low_is in record { place = inr (omega arith) }
    go (inr h) =
        let b : assigned_batch u i r.0 ≡ Some h.0 = subst (λ (x : ℕ). assigned_batch x i r.0 ≡ Some h.0) r.2 h.1 in
        record { place = place (assigned_place c s u i h.0 past e r.0 right r.1 b) }
      where
        place : (logged c s (e ∷ past) u i ≡ Some h.0) ⊎ (i ≤ low c s (e ∷ past)) → ((b : List ℕ) × (logged c s (e ∷ past) u i ≡ Some b)) ⊎ (i ≤ low c s (e ∷ past))
        place (inl k) = inl (h.0, k)
        place (inr k) = inr k

reaches_placed : (c : Configuration) (trace : List Entry) (i : ℕ) (d : List ℕ) (u s : ℕ) → Settled c trace i d u → is_correct_replica c s ≡ true
    → (xs : List Entry) → ((R : List Entry → Entry → Type 0) → Once R xs → Once R (history_of s trace)) → Always (RightAt c s) xs → Once (Reaches c u) xs → Placed c s u i xs
reaches_placed c trace i d u s settled correct [] emb right h = absurd h
reaches_placed c trace i d u s settled correct (e ∷ past) emb right (inl h) = settled_placed c trace i d u s settled correct past e (λ R k. emb R (inl k)) right.1 h
reaches_placed c trace i d u s settled correct (e ∷ past) emb right (inr h) =
    placed_stays c s u i e past (reaches_placed c trace i d u s settled correct past (λ R k. emb R (inr k)) right.1 h)

-- each batch that a correct replica logs in a settled view has the digest
logged_settled : (c : Configuration) (trace : List Entry) (i : ℕ) (d : List ℕ) (u s : ℕ) → Settled c trace i d u → 0 < u → is_correct_replica c s ≡ true
    → (xs : List Entry) → ((R : List Entry → Entry → Type 0) → Once R xs → Once R (history_of s trace)) → Always (RightAt c s) xs
    → (b : List ℕ) → logged c s xs u i ≡ Some b → sha256 b ≡ d
unfolding logged
logged_settled c trace i d u s settled some correct [] emb right b h = absurd cc
logged_settled c trace i d u s settled some correct (e ∷ past) emb right b h =
    go (or_else_split (logged c s past u i) (proposal c s past e u i) b h) (logged_settled c trace i d u s settled some correct past (λ R k. emb R (inr k)) right.1 b)
  where
    assigned : (m : Bool) → cond m (option_and_then (assigned_batch u i) (taken c past e)) None ≡ Some b → sha256 b ≡ d
    assigned false k = absurd cc
    assigned true k = in_new (settled s t.0 correct (emb (TakesOrSendsNewView c t.0) (inl t.1)) (proposes c u i t.0 b t.2).view_is)
      where
        t : (new : NewViewData) × (taken c past e ≡ Some new) × (assigned_batch u i new ≡ Some b)
        t = and_then_some (assigned_batch u i) (taken c past e) b k

        in_new : HasOrStartsAbove i d t.0 → sha256 b ≡ d
        in_new (inl l) = let a = (proposes c u i t.0 b t.2).above in absurd (omega arith)
        in_new (inr l) =
            let view_is = (proposes c u i t.0 b t.2).view_is in
            let has : assigned_batch u i t.0 ≡ Some l.0 = subst (λ (x : ℕ). assigned_batch x i t.0 ≡ Some l.0) view_is l.1 in
            let same : b ≡ l.0 = some_injective b l.0 (sym t.2 ∙ has) in
            ap sha256 same ∙ l.2

    entry : logged c s past u i ≡ None → is_in_marks c (low c s past) i ≡ true → Placed c s u i past → sha256 b ≡ d
    entry none marks p = place p.place
      where
        place : ((x : List ℕ) × (logged c s past u i ≡ Some x)) ⊎ (i ≤ low c s past) → sha256 b ≡ d
        place (inl k) = let bad : ◌≡◌ {A = Option (List ℕ)} None (Some k.0) = sym none ∙ k.1 in absurd cc
        place (inr k) = let above = marks_above c (low c s past) i marks in absurd (omega arith)

    go : (logged c s past u i ≡ Some b) ⊎ ((logged c s past u i ≡ None) × (proposal c s past e u i ≡ Some b)) → (logged c s past u i ≡ Some b → sha256 b ≡ d) → sha256 b ≡ d
    go (inl k) below = below k
    go (inr k) below = by (or_else_cases (assigned_proposal c s past e u i) (entry_proposal c s past e u i) b k.1)
      where
        by : (assigned_proposal c s past e u i ≡ Some b) ⊎ (entry_proposal c s past e u i ≡ Some b) → sha256 b ≡ d
        by (inl m) = assigned (is_in_marks c (low c s (e ∷ past)) i) m
        by (inr m) =
            entry k.0 (entry_within c s u i b past e right.0 m).1
            (reaches_placed c trace i d u s settled correct past (λ R x. emb R (inr x)) right.1
            (reached c u past (entry_within c s u i b past e right.0 m).0 some))

pub settled_logged : (c : Configuration) (trace : List Entry) (i : ℕ) (d : List ℕ) (u s : ℕ) → AreReplicasSafe c trace → Settled c trace i d u → 0 < u → is_correct_replica c s ≡ true
    → (b : List ℕ) → logged c s (history_of s trace) u i ≡ Some b → sha256 b ≡ d
settled_logged c trace i d u s right settled some correct b h =
    let r = right s correct in
    logged_settled c trace i d u s settled some correct (history_of s trace) (λ R k. k) (right_always c s (history_of s trace) r.0 r.1) b h
