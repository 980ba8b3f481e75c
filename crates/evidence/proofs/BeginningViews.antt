-- The definitions accept a primary that begins its view over the first view changes.
use Rattle.std.proofs.Common.{◌≡◌, ◌≢◌, ℕ, ◌-◌, max, inl, inr, Bool, true, cond, ◌&&◌, List, [], ◌∷◌, slice_get, refl, sym, ap, ◌∙◌, subst, arith, Option, Some, None}
use Rattle.std.specs.Prelude.{◌==◌, nat_lt, option_and_then}
use Rattle.std.specs.Option.{option_map_or}
use Rattle.std.specs.Bool.{then_some}
use Rattle.quorum.specs.Votes.{or_else}
use Rattle.wire_format.specs.Messages.{BodyData as Body, NewViewData, CheckpointEntryData as CheckpointEntry, pre_prepare as PrePrepare, new_view as NewView}
use Rattle.wire_format.specs.Words.{said}
use Rattle.wire.proofs.Skipping.{none_chosen}
use Rattle.signing.specs.AuthenticBody.{signed_body}
use Rattle.protocol.specs.System.Configuration.{Configuration, signers}
use Rattle.protocol.specs.System.Frames.{leaf_of}
use Rattle.protocol.specs.System.Trace.{Entry, Has}
use Rattle.protocol.specs.System.Trace.Entry.{Got, Sent}
use Rattle.protocol.specs.Replica.Selection.{may_select}
use Rattle.protocol.specs.Replica.Certificates.{view, view_after, target, change_from, is_later, new_view_in, new_view_from, taken, checkpoint_from, is_stable, stable_at, started_at, low, is_in_marks, logged, assigned_proposal, assigned_batch}
use Rattle.protocol.specs.Replica.State.{opening, root_of}
use Rattle.protocol.specs.Replica.RightReplica.{first_point, Executes, MaySend, IsStep, SentBefore, SentInEvent}
use Rattle.protocol.specs.Replica.Owed.{Owes, IsReplica, NumbersOnce}
use Rattle.evidence.specs.Examples.{four}
use Rattle.evidence.specs.ExamplesOfChanges.{beginning_view, ChangesInBeginning, ItsViewBegins}
use Rattle.protocol.proofs.Words.Linking.{signed_said}
use Rattle.protocol.proofs.Words.Options.{some_injective}
use Rattle.protocol.proofs.Words.Plain.{low_same}
use Rattle.protocol.proofs.Words.Starts.{low_next}
use Rattle.evidence.proofs.JoiningChanges as joining
use Rattle.evidence.proofs.JoiningChangesOwing.{IsOfChange, Due, owes, brings_no_checkpoint, same_checkpoints, logs_assigned}
use Rattle.evidence.proofs.RefusingNewViews.{view_now, target_now, assigned_is_selected}

none_there : (k : ℕ) (batches : List (List ℕ)) → batches ≡ [] → slice_get batches k ≡ None
none_there k batches none = ap (λ (xs : List (List ℕ)). slice_get xs k) none

module _ (clients : ℕ) (seed root first second own new_view : List ℕ) (x : ChangesInBeginning (four clients seed) 2 first) (y : ChangesInBeginning (four clients seed) 3 second) (z : ChangesInBeginning (four clients seed) 1 own) where
  abbrev c : Configuration
  c = four clients seed

  abbrev new : NewViewData
  new = beginning_view root own first second

  abbrev begins : Body
  begins = record { sender = 1; message = NewView new }

  abbrev h1 : List Entry
  h1 = Got 1 first ∷ []

  abbrev h2 : List Entry
  h2 = Got 1 second ∷ h1

  abbrev h3 : List Entry
  h3 = Sent 1 own ∷ h2

  abbrev e : Entry
  e = Sent 1 new_view

  abbrev now : List Entry
  now = e ∷ h3

  apart : ◌≢◌ {A = ℕ} 2 3
  apart h = absurd (omega (arith, h))

  first_other : ◌≢◌ {A = ℕ} 2 1
  first_other h = absurd (omega (arith, h))

  second_other : ◌≢◌ {A = ℕ} 3 1
  second_other h = absurd (omega (arith, h))

  module _ (selected : may_select c new ≡ true) (signed : signed_body (signers c) new_view ≡ Some begins) (keys : leaf_of own ≢ leaf_of new_view) where
    says : said new_view ≡ Some begins
    says = signed_said c new_view begins signed

    -- ---- the new view is sent where it is taken

    later : is_later (view c h3) (target h3) new ≡ true
    later =
        ap (λ (v : ℕ). is_later v (target h3) new) (view_now clients seed first second own x y z)
        ∙ ap (λ (t : ℕ). is_later 0 t new) (target_now clients seed first second own x y z)

    brings : new_view_in c e ≡ Some new
    brings = ap (option_and_then (new_view_from c)) says ∙ ap (λ (t : Bool). then_some t new) selected

    takes : taken c h3 e ≡ Some new
    takes =
        ap (option_and_then (λ (n : NewViewData). then_some (is_later (view c h3) (target h3) n) n)) brings
        ∙ ap (λ (t : Bool). then_some t new) later

    view_is : view c now ≡ 1
    unfolding view
    view_is = ap (view_after (view c h3) (target h3)) brings ∙ ap (λ (t : Bool). cond t 1 (view c h3)) later

    same_target : target now ≡ target h3
    same_target = let sent : target now ≡ max 0 (target h3) = ap (λ (o : Option Body). max (option_map_or change_from o 0) (target h3)) says in omega (arith, sent)

    stable_none : stable_at c 1 h3 e ≡ 0
    stable_none = ap (λ (o : Option (ℕ × CheckpointEntry)). option_map_or (λ (p : ℕ × CheckpointEntry). cond (is_stable c 1 now p.1) p.1.number 0) o 0) (brings_no_checkpoint c e begins says tt)

    starts : started_at c h3 e ≡ 0
    starts = ap (λ (o : Option NewViewData). option_map_or (λ (n : NewViewData). n.start) o 0) takes

    low_left : low c 1 h3 ≡ 0
    low_left =
        let own_says = joining.says clients seed 1 2 3 first second own apart first_other second_other x y z in
        low_same c 1 h2 (Sent 1 own) (ap (option_and_then checkpoint_from) own_says) refl (ap (option_and_then (new_view_from c)) own_says)
        ∙ (joining.still2 clients seed 1 2 3 first second own apart first_other second_other x y z).low_is

    low_is : low c 1 now ≡ 0
    low_is = let next = low_next c 1 h3 e in let was = low_left in let stable = stable_none in let start = starts in omega (arith, next, was, stable, start)

    -- ---- it begins with no batch

    no_batch : (v i : ℕ) → assigned_batch v i new ≡ None
    no_batch v i = none_chosen ((1 == v) && nat_lt 0 i) (slice_get new.batches (i - 0 - 1)) (none_there (i - 0 - 1) new.batches refl)

    none_assigned : (v i : ℕ) → assigned_proposal c 1 h3 e v i ≡ None
    none_assigned v i = none_chosen (is_in_marks c (low c 1 now) i) (option_and_then (assigned_batch v i) (taken c h3 e)) (ap (option_and_then (assigned_batch v i)) takes ∙ no_batch v i)

    logs : (v i : ℕ) → logged c 1 now v i ≡ None
    logs v i =
        logs_assigned c 1 h3 e begins says tt v i
        ∙ ap (λ (o : Option (List ℕ)). or_else o (assigned_proposal c 1 h3 e v i)) (joining.logs3 clients seed 1 2 3 first second own apart first_other second_other x y z v i)
        ∙ none_assigned v i

    -- ---- what the replica owes

    none_executed : (k : ℕ) → Has (λ o. Executes k [] o) (Sent 1 own ∷ e ∷ []) → ⊥
    none_executed k (inl h) = h
    none_executed k (inr (inl h)) = h
    none_executed k (inr (inr h)) = h

    numbers_none : NumbersOnce c 1 h3 e
    numbers_none v i batch is fresh = absurd (
        subst (λ (b : Body). IsOfChange b.message) (some_injective begins (record { sender = 1; message = PrePrepare v i batch }) (sym says ∙ is)) tt)

    due : Due c 1 h1 second (Sent 1 own ∷ e ∷ []) now
    due = record {
      body = joining.changing clients seed 1 2 3 first second own 3;
      receives = joining.receives clients seed 1 2 3 first second own apart first_other second_other x y z 3 second second_other y;
      of_change = tt;
      checkpoints_are = λ s. same_checkpoints c h3 e begins says tt s ∙ joining.checks3 clients seed 1 2 3 first second own apart first_other second_other x y z s;
      low_is = low_is;
      unprepared = λ v i batch p. absurd (let bad : None ≡ Some batch = sym (logs v i) ∙ p.logged in cc);
      numbers_once = (joining.numbers_none clients seed 1 2 3 first second own apart first_other second_other x y z, (numbers_none, tt));
      prepares = λ v i batch none some active backup. absurd (let bad : None ≡ Some batch = sym (logs v i) ∙ some in cc);
      none_executed = none_executed;
      view_changes = λ v moves. let most = joining.moved clients seed 1 2 3 first second own apart first_other second_other x y z v moves in let same = same_target in omega (arith, most, same);
      no_view = λ other can.
          omega (arith, can.left, view_is, same_target, target_now clients seed first second own x y z);
      dropped = λ drops. absurd (drops (joining.changing clients seed 1 2 3 first second own 3)
          (joining.receives clients seed 1 2 3 first second own apart first_other second_other x y z 3 second second_other y)
          (joining.counts clients seed 1 2 3 first second own apart first_other second_other x y z));
    }

    owes_it : Owes c 1 h1 (Got 1 second) (Sent 1 own ∷ e ∷ []) now first_point first_point
    owes_it = owes clients seed 1 h1 second (Sent 1 own ∷ e ∷ []) now due

    -- ---- what the replica sends

    own_alone : (sent : List ℕ) → SentBefore sent h3 → own ≡ sent
    own_alone sent (inl h) = h
    own_alone sent (inr (inl h)) = absurd h
    own_alone sent (inr (inr (inl h))) = absurd h
    own_alone sent (inr (inr (inr h))) = absurd h

    unsent : SentInEvent new_view h3 → ⊥
    unsent (inl h) = keys (ap leaf_of h)
    unsent (inr h) = h

    may : MaySend c 1 h3 first_point e new_view
    may = record {
      body = begins;
      says = says;
      own = refl;
      seen = (inl (inl refl), (inr (inr (inl (inl refl))), (inr (inl (inl refl)), tt)));
      allowed = (refl, inl takes);
      is_sealed = λ frame is. joining.signed_is_sealed c 1 h3 new_view begins frame signed is;
      leaf = λ leaf sent is was before. absurd (keys (ap leaf_of (own_alone sent before) ∙ was ∙ sym is));
      once = unsent;
    }

    sends : IsStep c 1 h3 first_point e first_point
    sends = record { own = refl; may = may; moves = refl }

    is_right : IsReplica c 1 now
    is_right = inl (
      first_point,
      (
        first_point,
        sends,
        (
          first_point,
          joining.sends clients seed 1 2 3 first second own apart first_other second_other x y z,
          (
            first_point,
            joining.gets2 clients seed 1 2 3 first second own apart first_other second_other x y z,
            (owes_it, (first_point, joining.gets1 clients seed 1 2 3 first second own apart first_other second_other x y z, (joining.owes1 clients seed 1 2 3 first second own apart first_other second_other x y z, (refl, refl)))),
          ),
        ),
      ),
    )

pub its_view_begins : ItsViewBegins
its_view_begins clients seed first second own new_view x y z signed keys =
    is_right clients seed (root_of opening) first second own new_view x y z (assigned_is_selected clients seed first second own x y z) signed keys
