-- If each correct replica has left for a view whose primary is correct, that begins the view, and each enters it.
use Rattle.std.proofs.Common.{◌≡◌, ◌≢◌, ℕ, ◌+◌, ◌*◌, ◌≤◌, ◌<◌, ◌⊎◌, inl, inr, Bool, true, false, ◌&&◌, List, [], ◌∷◌, ◌++◌, Some, refl, sym, ap, ◌∙◌, subst, arith, append_assoc, eqb-true, eq-eqb}
use Rattle.std.specs.Prelude.{◌==◌, nat_le, option_and_then}
use Rattle.std.proofs.lemmas.List.{append-nil}
use Rattle.std.proofs.lemmas.Bool.{and_parts, and_from, ltb-true, leb-true, leb-false, le-leb, eqb-false}
use Rattle.wire_format.specs.Messages.{BodyData as Body, MessageData as Message, ViewChangeData, NewViewData, view_change as ViewChange, new_view as NewView}
use Rattle.signing.specs.AuthenticBody.{signed_body}
use Rattle.protocol.specs.System.Configuration.{Configuration, IsConfiguration, replicas, primary, is_replica, is_correct_replica, signers}
use Rattle.protocol.specs.System.Trace.{Entry, party_of, history_of, Once, SendsBody, Always, Unforged}
use Rattle.protocol.specs.System.Trace.Entry.{Got, Sent}
use Rattle.protocol.specs.System.Run.{IsRun, OnlyTheseStopped}
use Rattle.protocol.specs.Replica.Selection.{is_within, change_in, changes_of, change_by, passes_by, count_in, may_select}
use Rattle.protocol.specs.Replica.Certificates.{view, target, is_active_in, taken, new_view_in, new_view_from, brought, latest_change}
use Rattle.protocol.specs.Replica.RightReplica.{MaySendMessage, MaySend, SafeReplica, SentBefore}
use Rattle.protocol.specs.Replica.Owed.{AreKeysSpent, BringsChange, HasLatestChange, IsSending}
use Rattle.protocol.specs.Laws.Histories.{AreReplicasSafe, TakesOrSendsNewView}
use Rattle.protocol.proofs.Words.Linking.{Speaks}
use Rattle.protocol.proofs.Words.Lists.{every_change, passes_change}
use Rattle.protocol.proofs.Words.Options.{some_injective, and_then_some}
use Rattle.protocol.proofs.Words.Reacting.{is_replica_right}
use Rattle.protocol.proofs.Words.Temporal.{once_weaker, once_in_trace}
use Rattle.protocol.proofs.Agreement.Changes.{NewChangeAt, change_is_new}
use Rattle.protocol.proofs.Agreement.Marks.{Begins, begins, takes, selects, selected_in, view_grows}
use Rattle.protocol.proofs.Agreement.Signed.{changing, change_was_said}
use Rattle.protocol.proofs.Agreement.States.{correct_of, once_append}
use Rattle.protocol.proofs.Agreement.Voting.{RightAt, right_always, once_right, correct_replica, brought_was_said, Brings}
use Rattle.protocol.proofs.Points.Levels.{many_correct}
use Rattle.progress.specs.Delivery.{HasEntry, AllDelivered}
use Rattle.progress.specs.Leaving.{SaysFrom}
use Rattle.progress.specs.Changing.{NextViewIsReady, NextViewsAreEntered}
use Rattle.progress.proofs.Answering.{in_history, in_trace}
use Rattle.progress.proofs.Choosing.{prepared_views_begin}
use Rattle.progress.proofs.Entering.{signed_is_meant, enters}
use Rattle.progress.proofs.Happened.{At, once_at}
use Rattle.progress.proofs.Leaving.{signed_by}
use Rattle.progress.proofs.Silence.{said_target, TargetSaid, target_said, SignedHere, latest_most, latest_least, first_came, left_by}
use Rattle.progress.proofs.SilentView.{SpokenFrame, spoken_frame, speaks_saying, brings_signed, came_said}
use Rattle.progress.proofs.Steady.{SentAt, sent_at, view_later, active_parts}
use Rattle.progress.proofs.Within.{view_changes_are_within}

speaks_sends : (s : ℕ) (vc : ViewChangeData) (past other : List Entry) (e : Entry) → party_of e ≡ s → Speaks (changing s vc) past e → SendsBody (changing s vc) other e
speaks_sends s vc past other (Sent p bytes) own h = (own, h)
speaks_sends s vc past other _ own h = absurd h

module _ (c : Configuration) (setting : IsConfiguration c) (trace : List Entry) (is_run : IsRun c trace) (goes : OnlyTheseStopped c [] trace) (unforged : Unforged c trace)
    (v start : ℕ) (root : List ℕ) (n : NextViewIsReady c trace v start root) where
  safe : AreReplicasSafe c trace
  safe p h = is_replica_right c p (history_of p trace) (is_run.replicas p h)

  known : (q : ℕ) → is_correct_replica c q ≡ true → is_replica c q ≡ true
  known q correct = (and_parts (is_replica c q) _ correct).0

  below : (q : ℕ) → is_correct_replica c q ≡ true → q < replicas c
  below q correct = ltb-true q (replicas c) (known q correct)

  -- ---- no new view above the next one is taken

  module _ (q : ℕ) (correct : is_correct_replica c q ≡ true) (new : NewViewData) (taken_it : Once (TakesOrSendsNewView c new) (history_of q trace)) where
    at : At (TakesOrSendsNewView c new) (history_of q trace)
    at = once_at (TakesOrSendsNewView c new) (history_of q trace) taken_it

    selected : may_select c new ≡ true
    selected = selected_in c at.entry new (takes c 0 at.past at.entry new at.holds).brought

    signer : (s : ℕ) × (is_correct_replica c s ≡ true) × (passes_by (λ vc. true) (changes_of c new) s ≡ true)
    signer =
        let enough = leb-true (2 * c.faults + 1) (count_in c (λ vc. true) (changes_of c new)) (selects c new selected).enough in
        correct_of c setting (passes_by (λ vc. true) (changes_of c new)) (omega arith)

    change : (vc : ViewChangeData) × (change_by (changes_of c new) signer.0 ≡ Some vc) × (true ≡ true)
    change = passes_change (λ vc. true) (changes_of c new) signer.0 signer.2

    pub at_most : new.view ≤ v
    at_most =
        let says = change_was_said c trace q signer.0 new change.0 safe unforged correct signer.1 taken_it change.1 in
        let l = said_target c signer.0 change.0 (history_of signer.0 trace) says in
        let most = n.none_beyond signer.0 signer.1 in
        let within = every_change (λ vc. (vc.view == new.view) && is_within c vc) (changes_of c new) signer.0 change.0 (selects c new selected).each change.1 in
        let same : change.0.view ≡ new.view = eqb-true change.0.view new.view (and_parts (change.0.view == new.view) (is_within c change.0) within).0 in
        omega arith

    body : (b : Body) × (brought c at.entry ≡ Some b) × Begins c b new
    body = go at.entry (takes c 0 at.past at.entry new at.holds).brought
      where
        go : (e : Entry) → new_view_in c e ≡ Some new → (b : Body) × (brought c e ≡ Some b) × Begins c b new
        go e h = let r = and_then_some (new_view_from c) (brought c e) new h in (r.0, r.1, begins c r.0 new r.2)

    -- ---- its primary sent a new view for the next view, so that is in it

    module _ (is : new.view ≡ v) where
      is_body : ◌≡◌ {A = Body} body.0 (record { sender = primary c v; message = NewView new })
      is_body = same body.0.sender body.0.message (body.2.sender_is ∙ ap (primary c) is) body.2.message_is
        where
          same : (sender : ℕ) (message : Message) → sender ≡ primary c v → message ≡ NewView new → ◌≡◌ {A = Body} (record { sender = sender; message = message }) (record { sender = primary c v; message = NewView new })
          same sender message x y = rw (x, y) refl

      primary_says : Once (Speaks (record { sender = primary c v; message = NewView new })) (history_of (primary c v) trace)
      primary_says =
          brought_was_said c trace q (record { sender = primary c v; message = NewView new }) safe unforged correct n.from
          (subst (λ (xs : List Entry). Once (Brings c (record { sender = primary c v; message = NewView new })) xs) (sym at.splits)
          (once_append (Brings c (record { sender = primary c v; message = NewView new })) at.newer (at.entry ∷ at.past) (inl (body.1 ∙ ap (λ (b : Body). Some b) is_body))))

      pub primary_is_there : v ≤ view c (history_of (primary c v) trace)
      primary_is_there = go (once_at (λ past e. RightAt c (primary c v) past e × Speaks (record { sender = primary c v; message = NewView new }) past e × Always (RightAt c (primary c v)) past) (history_of (primary c v) trace)
          (once_right c (primary c v) (Speaks (record { sender = primary c v; message = NewView new })) (history_of (primary c v) trace) (safe (primary c v) n.from) primary_says))
        where
          by : (past : List Entry) (e : Entry) → RightAt c (primary c v) past e → Speaks (record { sender = primary c v; message = NewView new }) past e → v ≤ view c (e ∷ past)
          by past (Sent p bytes) r says = either (subst (λ (b : Body). MaySendMessage c (primary c v) past r.point (Sent p bytes) bytes b.message)
              (some_injective r.may.body (record { sender = primary c v; message = NewView new }) (sym r.may.says ∙ says)) r.may.allowed).1
            where
              either : (taken c past (Sent p bytes) ≡ Some new) ⊎ ((is_active_in c past new.view ≡ true) × SentBefore bytes past) → v ≤ view c (Sent p bytes ∷ past)
              either (inl t) = let u = (takes c 0 past (Sent p bytes) new t).view_is in let s = is in omega arith
              either (inr a) =
                  let u = (active_parts c past new.view a.0).0 in
                  let g = view_grows c (Sent p bytes) past in
                  let s = is in
                  omega arith
          by past _ r says = absurd says

          go : At (λ past e. RightAt c (primary c v) past e × Speaks (record { sender = primary c v; message = NewView new }) past e × Always (RightAt c (primary c v)) past) (history_of (primary c v) trace)
              → v ≤ view c (history_of (primary c v) trace)
          go a =
              let l = by a.past a.entry a.holds.0 a.holds.1 in
              let g = view_later c a.newer (a.entry ∷ a.past) in
              let same : view c (history_of (primary c v) trace) ≡ view c (a.newer ++ a.entry ∷ a.past) = ap (view c) a.splits in
              omega arith

  view_most : (q : ℕ) → is_correct_replica c q ≡ true → view c (history_of q trace) ≤ v
  view_most q correct = go (nat_le 1 (view c (history_of q trace))) refl
    where
      go : (b : Bool) → nat_le 1 (view c (history_of q trace)) ≡ b → view c (history_of q trace) ≤ v
      go true e =
          let b = left_by c (history_of q trace) (leb-true 1 (view c (history_of q trace)) e) in
          let s = at_most q correct b.0 b.1 in
          let u = b.2 in
          omega arith
      go false e = let l = leb-false 1 (view c (history_of q trace)) e in omega arith

  -- ---- while the primary is not in the view

  module _ (none : view c (history_of (primary c v) trace) < v) (all : AllDelivered c trace) where
    has_left : (q : ℕ) → is_correct_replica c q ≡ true → target (history_of q trace) ≡ v
    has_left q correct = go (n.left q correct)
      where
        go : (v ≤ target (history_of q trace)) ⊎ (v ≤ view c (history_of q trace)) → target (history_of q trace) ≡ v
        go (inl l) = let m = n.none_beyond q correct in omega arith
        go (inr l) =
            let one = n.above in
            let b = left_by c (history_of q trace) (omega arith) in
            let m = at_most q correct b.0 b.1 in
            let u = b.2 in
            let there = primary_is_there q correct b.0 b.1 (omega arith) in
            let z = none in
            absurd (omega arith)

    module _ (q : ℕ) (correct : is_correct_replica c q ≡ true) where
      right : SafeReplica c q (history_of q trace)
      right = safe q correct

      -- its view changes for the view are level, and within their bounds
      sent_it : (vc : ViewChangeData) → Once (Speaks (changing q vc)) (history_of q trace) → Once (SendsBody (changing q vc)) trace
      sent_it vc h =
          once_weaker (λ past e. (party_of e ≡ q) × Speaks (changing q vc) (history_of q past) e) (SendsBody (changing q vc))
          (λ past e t. speaks_sends q vc (history_of q past) past e t.0 t.1) trace (once_in_trace (Speaks (changing q vc)) q trace h)

      within_bounds : (vc : ViewChangeData) → Once (Speaks (changing q vc)) (history_of q trace) → is_within c vc ≡ true
      within_bounds vc h = go (once_at (NewChangeAt c q vc) (history_of q trace) (change_is_new c q vc (history_of q trace) (right_always c q (history_of q trace) right.0 right.1) h))
        where
          go : At (NewChangeAt c q vc) (history_of q trace) → is_within c vc ≡ true
          go a =
              view_changes_are_within c setting trace is_run unforged q correct (a.newer ++ a.entry ∷ []) a.past (a.splits ∙ sym (append_assoc a.newer (a.entry ∷ []) a.past))
              a.holds.point a.holds.point a.holds.leaves refl vc a.holds.is_new

      its : TargetSaid q v (history_of q trace)
      its = target_said c q v (history_of q trace) (right_always c q (history_of q trace) right.0 right.1) n.above (has_left q correct)

      frame : SpokenFrame q (changing q its.vc) (history_of q trace)
      frame = spoken_frame q (changing q its.vc) (history_of q trace) its.says

      sent : SentAt c q frame.party frame.bytes (history_of q trace)
      sent = sent_at c q frame.party frame.bytes (history_of q trace) right.0 right.1 frame.is_there

      signed : signed_body (signers c) frame.bytes ≡ Some (changing q its.vc)
      signed = signed_by c q frame.bytes (changing q its.vc) sent.past sent.point (subst (λ (x : ℕ). MaySend c q sent.past sent.point (Sent x frame.bytes) frame.bytes) sent.own sent.may) frame.says refl (known q correct)

      in_it : HasEntry (Sent q frame.bytes) trace
      in_it = subst (λ (x : ℕ). HasEntry (Sent x frame.bytes) trace) sent.own (in_trace q (Sent frame.party frame.bytes) trace frame.is_there)

      -- the primary has a view change of the replica
      of_it : (vc : ViewChangeData) → Once (Speaks (changing q vc)) (history_of q trace) → vc.view ≡ v → HasLatestChange c (primary c v) (history_of (primary c v) trace) (q, vc)
          → SaysFrom c (primary c v) (history_of (primary c v) trace) v start root q
      of_it vc says is latest = let l = n.level q vc correct (sent_it vc says) is in (vc, latest, is, within_bounds vc says, l.0, l.1)

      has_it : SaysFrom c (primary c v) (history_of (primary c v) trace) v start root q
      has_it = go (q == primary c v) refl
        where
          go : (b : Bool) → (q == primary c v) ≡ b → SaysFrom c (primary c v) (history_of (primary c v) trace) v start root q
          go true e =
              let same = eqb-true q (primary c v) e in
              of_it its.vc its.says its.is_view
              (inr (
                same,
                subst (λ (x : ℕ). Once (λ earlier e. IsSending x (ViewChange its.vc) e) (history_of x trace)) same
                    (once_weaker (Speaks (changing q its.vc)) (λ earlier e. IsSending q (ViewChange its.vc) e) (speaks_saying q (ViewChange its.vc)) (history_of q trace) its.says),
                subst (λ (x : ℕ). target (history_of x trace) ≡ its.vc.view) same (has_left q correct ∙ sym its.is_view),
              ))
          go false e = of_it first.0 first_said first_view (inl (differ, first.1, latest ∙ sym first_view))
            where
              differ : q ≢ primary c v
              differ = eqb-false q (primary c v) e

              gets : HasEntry (Got (primary c v) frame.bytes) (history_of (primary c v) trace)
              gets = in_history (primary c v) (Got (primary c v) frame.bytes) trace refl
                  (all q (primary c v) frame.bytes in_it
                  (signed_is_meant c q (primary c v) frame.bytes (changing q its.vc) frame.says refl (below (primary c v) n.from) (λ same. differ (sym same))) (correct_replica c (primary c v) n.from))

              most : latest_change c (history_of (primary c v) trace) q ≤ v
              most = latest_most c q v (history_of (primary c v) trace) (λ vc h.
                  let l = said_target c q vc (history_of q trace) (came_said c trace (primary c v) q vc unforged n.from correct h) in
                  let m = n.none_beyond q correct in
                  omega arith)

              higher : view c (history_of (primary c v) trace) < its.vc.view
              higher = let z = none in let i = its.is_view in omega arith

              least : v ≤ latest_change c (history_of (primary c v) trace) q
              least =
                  let l = latest_least c q (primary c v) its.vc frame.bytes (history_of (primary c v) trace) (ap (option_and_then change_in) signed) (within_bounds its.vc its.says) higher gets in
                  let i = its.is_view in
                  omega arith

              latest : latest_change c (history_of (primary c v) trace) q ≡ v
              latest = let l = least in let m = most in omega arith

              first : (vc : ViewChangeData) × Once (BringsChange c (q, vc)) (history_of (primary c v) trace) × (v ≤ vc.view)
              first = first_came c q v (history_of (primary c v) trace) n.above least

              first_said : Once (Speaks (changing q first.0)) (history_of q trace)
              first_said = came_said c trace (primary c v) q first.0 unforged n.from correct (once_weaker (BringsChange c (q, first.0)) (SignedHere c q first.0) (brings_signed c q first.0) (history_of (primary c v) trace) first.1)

              first_view : first.0.view ≡ v
              first_view =
                  let l = said_target c q first.0 (history_of q trace) first_said in
                  let m = n.none_beyond q correct in
                  let k = first.2 in
                  omega arith

    -- so it can begin the view
    cannot_be : ⊥
    cannot_be = go (prepared_views_begin c setting trace is_run goes unforged (primary c v) v start root n.from refl (has_left (primary c v) n.from) (is_correct_replica c) (many_correct c setting)
        (λ s small h. (h, has_it s h)) (λ s w i batch h chosen less above prepared. n.had none s w i batch h less above prepared))
      where
        go : (v ≤ view c (history_of (primary c v) trace)) ⊎ AreKeysSpent (history_of (primary c v) trace) → ⊥
        go (inl l) = let z = none in absurd (omega arith)
        go (inr spent) = n.keys spent

  module _ (all : AllDelivered c trace) where
    primary_in : view c (history_of (primary c v) trace) ≡ v
    primary_in = go (nat_le v (view c (history_of (primary c v) trace))) refl
      where
        go : (b : Bool) → nat_le v (view c (history_of (primary c v) trace)) ≡ b → view c (history_of (primary c v) trace) ≡ v
        go true e =
            let l = leb-true v (view c (history_of (primary c v) trace)) e in
            let m = view_most (primary c v) n.from in
            omega arith
        go false e = absurd (cannot_be (leb-false v (view c (history_of (primary c v) trace)) e) all)

    no_view : (p : ℕ) → view c (history_of p []) ≡ 0
    unfolding view
    no_view p = refl

    pub next_is_entered : (q : ℕ) → is_correct_replica c q ≡ true → is_active_in c (history_of q trace) v ≡ true
    next_is_entered q correct =
        let most = n.none_beyond q correct in
        let one = n.above in
        let nil : trace ++ [] ≡ trace = append-nil trace in
        let l : v ≤ view c (history_of q (trace ++ [])) =
        enters c trace [] (subst (IsRun c) (sym nil) is_run) all v n.from
        (let z = no_view (primary c v) in omega arith)
        (subst (λ (xs : List Entry). view c (history_of (primary c v) xs) ≡ v) (sym nil) primary_in)
        q correct (subst (λ (xs : List Entry). target (history_of q xs) ≤ v) (sym nil) most) in
        let same : view c (history_of q (trace ++ [])) ≡ view c (history_of q trace) = ap (λ (xs : List Entry). view c (history_of q xs)) nil in
        let m = view_most q correct in
        let is : view c (history_of q trace) ≡ v = omega arith in
        and_from (view c (history_of q trace) == v) (nat_le (target (history_of q trace)) v) (eq-eqb (view c (history_of q trace)) v is) (le-leb (target (history_of q trace)) v most)

pub next_views_are_entered : NextViewsAreEntered
next_views_are_entered c setting trace is_run goes unforged v start root n all q correct = next_is_entered c setting trace is_run goes unforged v start root n all q correct
