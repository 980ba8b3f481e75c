-- If faulty replicas are silent, the first view is so if its primary is one of them, and no new view has a batch.
use Rattle.std.proofs.Common.{◌≡◌, ℕ, ◌+◌, ◌*◌, ◌≤◌, ◌⊎◌, inl, inr, Bool, true, false, not, List, [], ◌∷◌, ◌++◌, length, Option, Some, None, refl, sym, ap, ◌∙◌, subst, arith, append_assoc}
use Rattle.std.proofs.lemmas.Bool.{and_parts, and_from}
use Rattle.wire_format.specs.Messages.{BodyData as Body, ViewChangeData, NewViewData, BatchEntryData as BatchEntry}
use Rattle.wire_format.specs.Words.{carried}
use Rattle.authenticator.specs.Membership.{has_sender}
use Rattle.signing.specs.AuthenticBody.{authentic, signed_body}
use Rattle.signing.proofs.AuthenticBody.{signed_was_signed}
use Rattle.protocol.specs.System.Configuration.{Configuration, IsConfiguration, primary, is_replica, is_faulty_replica, is_correct_replica, members, signers}
use Rattle.protocol.specs.System.Trace.{Entry, history_of, Once, Always, Has, Unforged, frames_in}
use Rattle.protocol.specs.System.Trace.Entry.{Invoke, Got, Sent}
use Rattle.protocol.specs.System.Texts.{NoCollision}
use Rattle.protocol.specs.System.Run.{IsRun, OnlyTheseStopped}
use Rattle.protocol.specs.Replica.Selection.{change_by}
use Rattle.protocol.specs.Replica.Certificates.{brought, proposal, logged}
use Rattle.protocol.specs.Replica.RightReplica.{HasSeen, SafeReplica}
use Rattle.protocol.specs.Laws.Histories.{TakesOrSendsNewView}
use Rattle.evidence.specs.RefusedMarks.{SpellsChange}
use Rattle.evidence.specs.Selected.{AreSigned, SomePrepared, IsSelected}
use Rattle.protocol.proofs.Words.Elements.{each_has, has_some, has_right}
use Rattle.protocol.proofs.Words.Linking.{Speaks, signed_said}
use Rattle.protocol.proofs.Words.Lists.{change_of}
use Rattle.protocol.proofs.Words.Options.{given_once}
use Rattle.protocol.proofs.Words.Temporal.{once_weaker}
use Rattle.protocol.proofs.Agreement.Changes.{NewChangeAt, change_is_new}
use Rattle.protocol.proofs.Agreement.Offers.{Offers, proposal_offer, logged_view}
use Rattle.protocol.proofs.Agreement.Signed.{changing, change_was_said, taken_seen}
use Rattle.protocol.proofs.Agreement.Voting.{RightAt, right_always, once_right, speaks_as_itself}
use Rattle.protocol.proofs.Words.Reacting.{is_replica_right}
use Rattle.evidence.proofs.SelectedTests.{ascending_of_pairs}
use Rattle.evidence.proofs.SelectedRules.{new_views_meet_the_rules, changes_are}
use Rattle.progress.specs.Delivery.{HasEntry}
use Rattle.progress.specs.SilentView.{IsOfNoFaulty, AreFaultySilent, IsFirstViewSilent, SecondIsNext, FaultyPrimariesAreSilent}
use Rattle.progress.proofs.Answering.{in_trace}
use Rattle.progress.proofs.Silence
use Rattle.progress.proofs.Happened.{At, once_at}
use Rattle.progress.proofs.Steady.{logged_later}

-- a correct replica is not faulty
not_faulty : (c : Configuration) (q : ℕ) → is_correct_replica c q ≡ true → is_faulty_replica c q ≡ false
not_faulty c q correct = go (is_faulty_replica c q) refl (and_parts (is_replica c q) (not (is_faulty_replica c q)) correct).1
  where
    go : (b : Bool) → is_faulty_replica c q ≡ b → not b ≡ true → b ≡ false
    go true is h = absurd cc
    go false is h = refl

-- ---- the first view

module _ (c : Configuration) (trace : List Entry) (silent : AreFaultySilent c trace) where
  first_is_silent : ((p : ℕ) → is_correct_replica c p ≡ true → SafeReplica c p (history_of p trace)) → is_faulty_replica c (primary c 0) ≡ true → IsFirstViewSilent c trace
  unfolding logged
  first_is_silent safe faulty q i correct = go (logged c q (history_of q trace) 0 i) refl
    where
      one_of : (b : List ℕ) → At (λ past e. RightAt c q past e × (proposal c q past e 0 i ≡ Some b) × Always (RightAt c q) past) (history_of q trace) → ⊥
      one_of b a = by a.entry there o.body o.brings o.sender_is a.holds.0
        where
          o : Offers c q 0 i b a.past a.entry
          o = proposal_offer c q 0 i b a.past a.entry a.holds.1

          there : HasEntry a.entry (history_of q trace)
          there = subst (λ (xs : List Entry). HasEntry a.entry xs) (sym a.splits) (has_right (λ x. x ≡ a.entry) a.newer (a.entry ∷ a.past) (inl refl))

          by : (e : Entry) → HasEntry e (history_of q trace) → (body : Body) → brought c e ≡ Some body → body.sender ≡ primary c 0 → RightAt c q a.past e → ⊥
          by (Got p bytes) has body is from r =
              let mine : HasEntry (Got q bytes) (history_of q trace) = subst (λ (x : ℕ). HasEntry (Got x bytes) (history_of q trace)) r.own has in
              let receives : authentic (members c q) q bytes ≡ Some body = subst (λ (x : ℕ). authentic (members c x) x bytes ≡ Some body) r.own is in
              let none = (silent q bytes correct (in_trace q (Got q bytes) trace mine)).0.receives body receives in
              let bad : false ≡ true = sym none ∙ ap (is_faulty_replica c) from ∙ faulty in
              cc
          by (Sent p bytes) has body is from r =
              let own : body.sender ≡ q = speaks_as_itself c q body a.past (Sent p bytes) r is in
              let bad : false ≡ true = sym (not_faulty c q correct) ∙ ap (is_faulty_replica c) (sym own ∙ from) ∙ faulty in
              cc
          by (Invoke x y z) has body is from r = cc
          by _ has body is from r = cc

      go : (o : Option (List ℕ)) → logged c q (history_of q trace) 0 i ≡ o → o ≡ None
      go None is = refl
      go (Some b) is =
          absurd (one_of b (once_at (λ past e. RightAt c q past e × (proposal c q past e 0 i ≡ Some b) × Always (RightAt c q) past) (history_of q trace)
          (once_right c q (λ past e. proposal c q past e 0 i ≡ Some b) (history_of q trace) (safe q correct) (given_once (λ past e. proposal c q past e 0 i) b (history_of q trace) is))))

  -- ---- signed frames that were seen

  -- no frame that a correct replica has seen is signed by a faulty one
  seen_of_none : (q : ℕ) → is_correct_replica c q ≡ true → (xs : List Entry) → ((e : Entry) → HasEntry e xs → HasEntry e (history_of q trace)) → Always (RightAt c q) xs → (bytes : List ℕ) → Once (HasSeen bytes) xs
      → (body : Body) → signed_body (signers c) bytes ≡ Some body → is_faulty_replica c body.sender ≡ false
  seen_of_none q correct [] inside right bytes h body signed = absurd h
  seen_of_none q correct (e ∷ past) inside right bytes (inr h) body signed = seen_of_none q correct past (λ x k. inside x (inr k)) right.1 bytes h body signed
  seen_of_none q correct (Got p whole ∷ past) inside right bytes (inl h) body signed =
      let mine : HasEntry (Got q whole) (history_of q trace) = subst (λ (x : ℕ). HasEntry (Got x whole) (history_of q trace)) right.0.own (inside (Got p whole) (inl refl)) in
      (each_has (IsOfNoFaulty c q) (frames_in whole) bytes (silent q whole correct (in_trace q (Got q whole) trace mine)) h).signed body signed
  seen_of_none q correct (Sent p whole ∷ past) inside right bytes (inl (inl is)) body signed =
      let own : body.sender ≡ q = speaks_as_itself c q body past (Sent p whole) right.0 (rw is (signed_said c bytes body signed)) in
      ap (is_faulty_replica c) own ∙ not_faulty c q correct
  seen_of_none q correct (Sent p whole ∷ past) inside right bytes (inl (inr h)) body signed =
      let m = right.0.may in
      let has : Has (λ x. x ≡ bytes) (carried m.body.message) = rw m.says at h in
      let seen : Once (HasSeen bytes) past = each_has (λ frame. Once (HasSeen frame) past) (carried m.body.message) bytes m.seen has in
      seen_of_none q correct past (λ x k. inside x (inr k)) right.1 bytes seen body signed
  seen_of_none q correct (Invoke x y z ∷ past) inside right bytes (inl h) body signed = absurd h
  seen_of_none q correct (_ ∷ past) inside right bytes (inl h) body signed = absurd h

-- the frame of a view change in a set
set_frame : (c : Configuration) (frames : List (List ℕ)) (set : List (ℕ × ViewChangeData)) → AreSigned c frames set → (x : ℕ × ViewChangeData) → Has (λ y. y ≡ x) set
    → (bytes : List ℕ) × Has (λ y. y ≡ bytes) frames × SpellsChange c bytes x.0 x.1
set_frame c [] (y ∷ ys) signed x h = absurd signed
set_frame c (frame ∷ frames) (y ∷ ys) signed x (inl is) = (frame, inl refl, subst (λ (z : ℕ × ViewChangeData). SpellsChange c frame z.0 z.1) is signed.0)
set_frame c (frame ∷ frames) (y ∷ ys) signed x (inr h) = let r = set_frame c frames ys signed.1 x h in (r.0, inr r.1, r.2)
set_frame c _ [] signed x h = absurd h

-- the view change of a set that has the number prepared
some_prepared : (set : List (ℕ × ViewChangeData)) (i : ℕ) → SomePrepared set i → (x : ℕ × ViewChangeData) × Has (λ y. y ≡ x) set × Has (λ (b : BatchEntry). b.number ≡ i) x.1.prepared
some_prepared [] i h = absurd h
some_prepared (x ∷ xs) i (inl h) = (x, inl refl, h)
some_prepared (x ∷ xs) i (inr h) = let r = some_prepared xs i h in (r.0, inr r.1, r.2)

-- ---- no new view has a batch

module _ (c : Configuration) (setting : IsConfiguration c) (trace : List Entry) (is_run : IsRun c trace) (goes : OnlyTheseStopped c [] trace) (unforged : Unforged c trace) (apart : NoCollision c trace)
    (n : SecondIsNext c trace) (silent : AreFaultySilent c trace) (q : ℕ) (correct : is_correct_replica c q ≡ true) (new : NewViewData) (taken_it : Once (TakesOrSendsNewView c new) (history_of q trace)) where
  rules : IsSelected c new
  rules = (new_views_meet_the_rules c new).0 (Silence.selected c setting trace is_run goes unforged apart n q correct new taken_it)

  safe : (p : ℕ) → is_correct_replica c p ≡ true → SafeReplica c p (history_of p trace)
  safe p h = Silence.safe c setting trace is_run goes unforged apart n p h

  module _ (x : ℕ × ViewChangeData) (in_set : Has (λ y. y ≡ x) rules.set) where
    frame : (bytes : List ℕ) × Has (λ y. y ≡ bytes) new.changes × SpellsChange c bytes x.0 x.1
    frame = set_frame c new.changes rules.set rules.signed x in_set

    -- its sender is a correct replica
    sender : is_correct_replica c x.0 ≡ true
    sender = and_from (is_replica c x.0) (not (is_faulty_replica c x.0)) known (ap not honest)
      where
        known : is_replica c x.0 ≡ true
        known =
            let s = signed_was_signed (signers c) frame.0 (changing x.0 x.1) frame.2 in
            subst (λ (b : Body). has_sender (signers c) b ≡ true) s.body_is s.sender

        honest : is_faulty_replica c x.0 ≡ false
        honest =
            seen_of_none c trace silent q correct (history_of q trace) (λ e h. h) (right_always c q (history_of q trace) (safe q correct).0 (safe q correct).1) frame.0
            (once_weaker (TakesOrSendsNewView c new) (HasSeen frame.0) (taken_seen c new frame.0 frame.1) (history_of q trace) taken_it) (changing x.0 x.1) frame.2

    says : Once (Speaks (changing x.0 x.1)) (history_of x.0 trace)
    says =
        change_was_said c trace q x.0 new x.1 safe unforged correct sender taken_it
        (subst (λ (set : List (ℕ × ViewChangeData)). change_by set x.0 ≡ Some x.1) (sym (changes_are c new.changes rules.set rules.signed))
        (change_of rules.set x.0 x.1 (ascending_of_pairs rules.set rules.ascending) in_set))

    none_prepared : (b : BatchEntry) → Has (λ y. y ≡ b) x.1.prepared → ⊥
    none_prepared b h = go (once_at (NewChangeAt c x.0 x.1) (history_of x.0 trace)
        (change_is_new c x.0 x.1 (history_of x.0 trace) (right_always c x.0 (history_of x.0 trace) (safe x.0 sender).0 (safe x.0 sender).1) says))
      where
        go : At (NewChangeAt c x.0 x.1) (history_of x.0 trace) → ⊥
        go a = untouched_view b.view (a.holds.is_new.prepared.listed b h).0.1.logged
          where
            untouched_view : (v : ℕ) → logged c x.0 a.past v b.number ≡ Some (a.holds.is_new.prepared.listed b h).0.0 → ⊥
            untouched_view v is =
                let above = a.holds.is_new.above in
                let most = Silence.said_target c x.0 x.1 (history_of x.0 trace) says in
                let m = n.none_beyond x.0 sender in
                let l = logged_view c x.0 v b.number (a.holds.is_new.prepared.listed b h).0.0 a.past (right_always c x.0 a.past a.holds.point a.holds.leaves) is in
                let here = logged_later c x.0 0 b.number (a.holds.is_new.prepared.listed b h).0.0 (a.newer ++ a.entry ∷ []) a.past
                (subst (λ (u : ℕ). logged c x.0 a.past u b.number ≡ Some (a.holds.is_new.prepared.listed b h).0.0) (omega arith) is) in
                let bad : None ≡ Some (a.holds.is_new.prepared.listed b h).0.0 = sym (n.silent x.0 b.number sender)
                ∙ subst (λ (xs : List Entry). logged c x.0 xs 0 b.number ≡ Some (a.holds.is_new.prepared.listed b h).0.0) (sym (a.splits ∙ sym (append_assoc a.newer (a.entry ∷ []) a.past))) here in
                cc

  pub no_batches : new.batches ≡ []
  no_batches = go rules.ends
    where
      go : (new.batches ≡ []) ⊎ (SomePrepared rules.set (new.start + length new.batches) × (length new.batches ≤ 2 * c.period)) → new.batches ≡ []
      go (inl none) = none
      go (inr some) =
          let s = some_prepared rules.set (new.start + length new.batches) some.0 in
          let b = has_some (λ (b : BatchEntry). b.number ≡ new.start + length new.batches) s.0.1.prepared s.2 in
          absurd (none_prepared s.0 s.1 b.0 b.1)

pub faulty_primaries_are_silent : FaultyPrimariesAreSilent
faulty_primaries_are_silent c trace run silent faulty = first_is_silent c trace silent (λ p h. is_replica_right c p (history_of p trace) (run.replicas p h)) faulty
