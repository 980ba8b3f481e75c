-- While the first view is silent and nobody is in the second, nothing is executed, and each view change is the first.
use Rattle.std.proofs.Common.{◌≡◌, ◌≢◌, ℕ, suc, ◌+◌, ◌*◌, ◌≤◌, ◌<◌, ◌⊎◌, inl, inr, Bool, true, false, cond, ◌&&◌, not, List, [], ◌∷◌, ◌++◌, map, reverse, Option, Some, None, refl, sym, ap, ◌∙◌, subst, arith, append_assoc, eqb-true, eq-eqb}
use Rattle.std.specs.Prelude.{◌==◌, nat_lt, nat_le, option_and_then, filter}
use Rattle.std.specs.List.{list_all}
use Rattle.std.specs.Option.{option_map_or}
use Rattle.std.proofs.Math.Nat.{zero-mod}
use Rattle.std.proofs.lemmas.Bool.{and_parts, and_from, leb-true, leb-false, ltb-true, lt-ltb}
use Rattle.wire_format.specs.Messages.{BodyData as Body, MessageData as Message, ViewChangeData, NewViewData, BatchEntryData as BatchEntry, CheckpointEntryData as CheckpointEntry, view_change as ViewChange, new_view as NewView}
use Rattle.signing.specs.AuthenticBody.{authentic}
use Rattle.protocol.specs.System.Configuration.{Configuration, IsConfiguration, primary, is_correct_replica, members}
use Rattle.protocol.specs.System.Trace.{Entry, history_of, Once, Always, Has, Unforged}
use Rattle.protocol.specs.System.Trace.Entry.{Invoke, Got, Tick, Executed, Installed, Sent, Accepted}
use Rattle.protocol.specs.System.Texts.{NoCollision}
use Rattle.protocol.specs.System.Run.{IsRun, OnlyTheseStopped}
use Rattle.protocol.specs.Replica.Selection.{is_within, signed_change, changes_of, change_by, passes_by, count_in, may_select}
use Rattle.protocol.specs.Replica.Certificates.{view, view_after, target, change_sent, change_from, is_later, taken, new_view_in, new_view_from, brought, is_active_in, low, logged, change_taken, change_at, latest_change}
use Rattle.protocol.specs.Replica.State.{State, opening, Call, call_in, last_time}
use Rattle.protocol.specs.Replica.RightReplica.{Point, HistoryReaches, May, MovesPoint, MaySendMessage, SafeReplica, checkpoint_of, kept_states, with_waiting, is_newer, SentBefore}
use Rattle.protocol.specs.Replica.Owed.{BringsChange}
use Rattle.protocol.specs.Laws.Bounds.{IsCheckpointBounded}
use Rattle.protocol.specs.Laws.Histories.{AreReplicasSafe, TakesOrSendsNewView, ExecutesBatch}
use Rattle.evidence.specs.ExamplesOfChanges.{beginning_change}
use Rattle.protocol.proofs.Words.Bounds.{within_of_bounded}
use Rattle.protocol.proofs.Words.Lists.{every_change, passes_change}
use Rattle.protocol.proofs.Words.Options.{some_injective, and_then_some}
use Rattle.protocol.proofs.Words.Linking.{Speaks}
use Rattle.protocol.proofs.Words.Reacting.{is_replica_right}
use Rattle.protocol.proofs.Words.Temporal.{once_weaker, once_stays_from}
use Rattle.protocol.proofs.Agreement.Changes.{NewChangeAt, change_is_new, change_target, target_grows}
use Rattle.protocol.proofs.Agreement.Executing.{executor, executed_committed}
use Rattle.protocol.proofs.Agreement.Marks.{Begins, begins, takes, selects, selected_in, view_grows}
use Rattle.protocol.proofs.Agreement.Offers.{logged_view}
use Rattle.protocol.proofs.Agreement.Signed.{changing, change_was_said}
use Rattle.protocol.proofs.Agreement.States.{correct_of, once_append}
use Rattle.protocol.proofs.Words.Standing.{points_are_one}
use Rattle.protocol.proofs.Words.Leaving.{executed_number}
use Rattle.protocol.proofs.Agreement.Voting.{RightAt, right_always, once_right, brought_was_said, Brings}
use Rattle.protocol.proofs.Points.Levels.{number_reached}
use Rattle.protocol.proofs.Points.Running.{IsBy}
use Rattle.progress.specs.Delivery.{HasEntry}
use Rattle.progress.specs.SilentView.{SecondIsNext}
use Rattle.progress.proofs.FirstView.{low_reached}
use Rattle.progress.proofs.Happened.{At, once_at}
use Rattle.progress.proofs.Keeping.{by_at}
use Rattle.progress.proofs.Replies.{run_of}
use Rattle.progress.proofs.Steady.{view_later, logged_later, active_parts}

-- ---- view changes that were sent

-- a view change that was sent is for at most the target
pub said_target : (c : Configuration) (s : ℕ) (vc : ViewChangeData) (xs : List Entry) → Once (Speaks (changing s vc)) xs → vc.view ≤ target xs
said_target c s vc xs h =
    once_stays_from (λ x. vc.view ≤ target x) (λ e x k. let grows = target_grows e x in omega arith) xs
    (once_weaker (Speaks (changing s vc)) (λ x e. vc.view ≤ target (e ∷ x)) (λ x e t. change_target s vc x e t) xs h)

-- a view change for the target was sent
pub record TargetSaid (s t : ℕ) (xs : List Entry) : Type 0 where
  pub vc : ViewChangeData
  pub says : Once (Speaks (changing s vc)) xs
  pub is_view : vc.view ≡ t

target_from : (c : Configuration) (s t : ℕ) (past : List Entry) (e : Entry) (sender : ℕ) (message : Message) → sender ≡ s → 1 ≤ t → change_from (record { sender = sender; message = message }) ≡ t
    → (vc : ViewChangeData) × (◌≡◌ {A = Body} (record { sender = sender; message = message }) (changing s vc)) × (vc.view ≡ t)
target_from c s t past e sender (ViewChange vc) own some is = (vc, ap (λ (x : ℕ). changing x vc) own, is)
target_from c s t past e sender _ own some is = absurd (let none : 0 ≡ t = is in omega arith)

target_here : (c : Configuration) (s t : ℕ) (past : List Entry) (e : Entry) → RightAt c s past e → 1 ≤ t → change_sent e ≡ t → (vc : ViewChangeData) × Speaks (changing s vc) past e × (vc.view ≡ t)
target_here c s t past (Sent p bytes) r some is =
    let k = target_from c s t past (Sent p bytes) r.may.body.sender r.may.body.message r.may.own some (ap (λ (o : Option Body). option_map_or change_from o 0) (sym r.may.says) ∙ is) in
    (k.0, r.may.says ∙ ap Some k.1, k.2)
target_here c s t past _ r some is = absurd (omega arith)

pub target_said : (c : Configuration) (s t : ℕ) (xs : List Entry) → Always (RightAt c s) xs → 1 ≤ t → target xs ≡ t → TargetSaid s t xs
target_said c s t [] right some is = absurd (omega arith)
target_said c s t (e ∷ past) right some is = go (nat_le t (target past)) refl (target_said c s t past right.1 some)
  where
    go : (b : Bool) → nat_le t (target past) ≡ b → (target past ≡ t → TargetSaid s t past) → TargetSaid s t (e ∷ past)
    go true h below =
        let l = leb-true t (target past) h in
        let grows = target_grows e past in
        let b = below (omega arith) in
        record { vc = b.vc; says = inr b.says; is_view = b.is_view }
    go false h below =
        let l = leb-false t (target past) h in
        let k = target_here c s t past e right.0 some (omega arith) in
        record { vc = k.0; says = inl k.1; is_view = k.2 }

-- ---- view changes that came

-- the bytes are a view change signed by the replica
abbrev pub SignedHere : Configuration → ℕ → ViewChangeData → List Entry → Entry → Type 0
SignedHere c s vc past (Got p bytes) = signed_change c bytes ≡ Some (s, vc)
SignedHere c s vc past _ = ⊥

pair_is : (s : ℕ) (x : ℕ × ViewChangeData) → (x.0 == s) ≡ true → ◌≡◌ {A = ℕ × ViewChangeData} x (s, x.1)
pair_is s x is = ap (λ (n : ℕ). (let p : ℕ × ViewChangeData = (n, x.1) in p)) (eqb-true x.0 s is)

-- the latest one is no later than the signed ones
pub latest_most : (c : Configuration) (s m : ℕ) (xs : List Entry) → ((vc : ViewChangeData) → Once (SignedHere c s vc) xs → vc.view ≤ m) → latest_change c xs s ≤ m
latest_most c s m [] most = omega arith
latest_most c s m (e ∷ past) most =
    let a = latest_most c s m past (λ vc h. most vc (inr h)) in
    let b = here e (λ vc h. most vc (inl h)) in
    omega arith
  where
    test : (x : ℕ × ViewChangeData) → ((vc : ViewChangeData) → Some x ≡ Some (s, vc) → vc.view ≤ m) → (a : Bool) → (x.0 == s) ≡ a → (b : Bool) → cond (a && b) x.1.view 0 ≤ m
    test x f true is true = f x.1 (ap (λ (y : ℕ × ViewChangeData). Some y) (pair_is s x is))
    test x f true is false = omega arith
    test x f false is b = omega arith

    by : (bytes : List ℕ) (o : Option (ℕ × ViewChangeData)) → ((vc : ViewChangeData) → o ≡ Some (s, vc) → vc.view ≤ m)
        → option_map_or (λ (x : ℕ × ViewChangeData). cond ((x.0 == s) && nat_lt (view c past) x.1.view && is_within c x.1) x.1.view 0) o 0 ≤ m
    by bytes None f = omega arith
    by bytes (Some x) f = more (x.0 == s) refl (nat_lt (view c past) x.1.view) (is_within c x.1)
      where
        more : (a : Bool) → (x.0 == s) ≡ a → (b d : Bool) → cond (a && b && d) x.1.view 0 ≤ m
        more true is true true = f x.1 (ap (λ (y : ℕ × ViewChangeData). Some y) (pair_is s x is))
        more true is true false = omega arith
        more true is false d = omega arith
        more false is b d = omega arith

    here : (e : Entry) → ((vc : ViewChangeData) → SignedHere c s vc past e → vc.view ≤ m) → change_at c past e s ≤ m
    here (Got p bytes) f = by bytes (signed_change c bytes) f
    here _ f = omega arith

-- a view change above the view that came is at most the latest
pub latest_least : (c : Configuration) (s p : ℕ) (vc : ViewChangeData) (bytes : List ℕ) (xs : List Entry) → signed_change c bytes ≡ Some (s, vc) → is_within c vc ≡ true → view c xs < vc.view
    → HasEntry (Got p bytes) xs → vc.view ≤ latest_change c xs s
latest_least c s p vc bytes [] signed within above h = absurd h
latest_least c s p vc bytes (e ∷ past) signed within above (inl is) =
    let grows = view_grows c e past in
    let l : view c past < vc.view = omega arith in
    let same : change_at c past e s ≡ change_taken c (view c past) s bytes = ap (λ (x : Entry). change_at c past x s) is in
    let here : change_taken c (view c past) s bytes ≡ vc.view =
    ap (λ (o : Option (ℕ × ViewChangeData)). option_map_or (λ (x : ℕ × ViewChangeData). cond ((x.0 == s) && nat_lt (view c past) x.1.view && is_within c x.1) x.1.view 0) o 0) signed
    ∙ ap (λ (b : Bool). cond b vc.view 0) (and_from ((s == s) && nat_lt (view c past) vc.view) (is_within c vc) (and_from (s == s) (nat_lt (view c past) vc.view) (eq-eqb s s refl) (lt-ltb (view c past) vc.view l)) within) in
    omega arith
latest_least c s p vc bytes (e ∷ past) signed within above (inr h) =
    let grows = view_grows c e past in
    let below = latest_least c s p vc bytes past signed within (omega arith) h in
    omega arith

-- if the latest comes to be at least m, a view change counts
pub came_here : (c : Configuration) (s m : ℕ) (past : List Entry) (e : Entry) → 1 ≤ m → latest_change c past s < m → m ≤ change_at c past e s → (vc : ViewChangeData) × BringsChange c (s, vc) past e × (m ≤ vc.view)
came_here c s m past e some less l = here e l
  where
    brings : (bytes : List ℕ) (o : Option (ℕ × ViewChangeData)) → signed_change c bytes ≡ o
        → m ≤ option_map_or (λ (x : ℕ × ViewChangeData). cond ((x.0 == s) && nat_lt (view c past) x.1.view && is_within c x.1) x.1.view 0) o 0
        → (vc : ViewChangeData) × ((signed_change c bytes ≡ Some (s, vc)) × (view c past < vc.view) × (is_within c vc ≡ true) × (latest_change c past s < vc.view)) × (m ≤ vc.view)
    brings bytes None is l = absurd (omega arith)
    brings bytes (Some x) is l = more (x.0 == s) refl (nat_lt (view c past) x.1.view) refl (is_within c x.1) refl l
      where
        more : (a : Bool) → (x.0 == s) ≡ a → (b : Bool) → nat_lt (view c past) x.1.view ≡ b → (d : Bool) → is_within c x.1 ≡ d → m ≤ cond (a && b && d) x.1.view 0
            → (vc : ViewChangeData) × ((signed_change c bytes ≡ Some (s, vc)) × (view c past < vc.view) × (is_within c vc ≡ true) × (latest_change c past s < vc.view)) × (m ≤ vc.view)
        more true f true g true h k =
            (x.1, (is ∙ ap (λ (y : ℕ × ViewChangeData). Some y) (pair_is s x f), ltb-true (view c past) x.1.view g, h, (let r : latest_change c past s < x.1.view = omega arith in r)), k)
        more true f true g false h k = absurd (omega arith)
        more true f false g d h k = absurd (omega arith)
        more false f b g d h k = absurd (omega arith)

    here : (e : Entry) → m ≤ change_at c past e s → (vc : ViewChangeData) × BringsChange c (s, vc) past e × (m ≤ vc.view)
    here (Got p bytes) l = let b = brings bytes (signed_change c bytes) refl l in (b.0, (b.1.0, (b.1.1, b.1.2, b.1.3)), b.2)
    here _ l = absurd (omega arith)

-- if one counted, there was a first that did
pub first_came : (c : Configuration) (s m : ℕ) (xs : List Entry) → 1 ≤ m → m ≤ latest_change c xs s → (vc : ViewChangeData) × Once (BringsChange c (s, vc)) xs × (m ≤ vc.view)
first_came c s m [] some l = absurd (omega arith)
first_came c s m (e ∷ past) some l = go (nat_le m (latest_change c past s)) refl (first_came c s m past some)
  where
    go : (b : Bool) → nat_le m (latest_change c past s) ≡ b → (m ≤ latest_change c past s → (vc : ViewChangeData) × Once (BringsChange c (s, vc)) past × (m ≤ vc.view)) → (vc : ViewChangeData) × Once (BringsChange c (s, vc)) (e ∷ past) × (m ≤ vc.view)
    go true h below = let r = below (leb-true m (latest_change c past s) h) in (r.0, inr r.1, r.2)
    go false h below =
        let k = leb-false m (latest_change c past s) h in
        let here : m ≤ change_at c past e s = omega arith in
        let r = came_here c s m past e some k here in
        (r.0, inl r.1, r.2)

-- the replica left the first view by taking a new view
pub left_by : (c : Configuration) (xs : List Entry) → 1 ≤ view c xs → (new : NewViewData) × Once (TakesOrSendsNewView c new) xs × (new.view ≡ view c xs)
unfolding view
left_by c [] l = absurd (omega arith)
left_by c (e ∷ past) l = go (new_view_in c e) refl l (left_by c past)
  where
    go : (o : Option NewViewData) → new_view_in c e ≡ o → 1 ≤ view_after (view c past) (target past) o → (1 ≤ view c past → (new : NewViewData) × Once (TakesOrSendsNewView c new) past × (new.view ≡ view c past))
        → (new : NewViewData) × Once (TakesOrSendsNewView c new) (e ∷ past) × (new.view ≡ view_after (view c past) (target past) o)
    go None is l below = let b = below l in (b.0, inr b.1, b.2)
    go (Some new) is l below = pick (is_later (view c past) (target past) new) refl l
      where
        pick : (b : Bool) → is_later (view c past) (target past) new ≡ b → 1 ≤ cond b new.view (view c past) → (made : NewViewData) × Once (TakesOrSendsNewView c made) (e ∷ past) × (made.view ≡ cond b new.view (view c past))
        pick true later l = (new, inl (rw is (rw later refl)), refl)
        pick false later l = let b = below l in (b.0, inr b.1, b.2)

-- ---- a run whose first view is silent

module _ (c : Configuration) (setting : IsConfiguration c) (trace : List Entry) (is_run : IsRun c trace) (goes : OnlyTheseStopped c [] trace) (unforged : Unforged c trace) (apart : NoCollision c trace)
    (n : SecondIsNext c trace) where
  abbrev whole : ℕ → List Entry
  whole q = history_of q trace

  pub safe : AreReplicasSafe c trace
  safe p h = is_replica_right c p (history_of p trace) (is_run.replicas p h)

  -- ---- each new view that is taken is the second

  module _ (q : ℕ) (correct : is_correct_replica c q ≡ true) (new : NewViewData) (taken_it : Once (TakesOrSendsNewView c new) (history_of q trace)) where
    at : At (TakesOrSendsNewView c new) (history_of q trace)
    at = once_at (TakesOrSendsNewView c new) (history_of q trace) taken_it

    pub selected : may_select c new ≡ true
    selected = selected_in c at.entry new (takes c 0 at.past at.entry new at.holds).brought

    signer : (s : ℕ) × (is_correct_replica c s ≡ true) × (passes_by (λ vc. true) (changes_of c new) s ≡ true)
    signer =
        let enough = leb-true (2 * c.faults + 1) (count_in c (λ vc. true) (changes_of c new)) (selects c new selected).enough in
        correct_of c setting (passes_by (λ vc. true) (changes_of c new)) (omega arith)

    change : (vc : ViewChangeData) × (change_by (changes_of c new) signer.0 ≡ Some vc) × (true ≡ true)
    change = passes_change (λ vc. true) (changes_of c new) signer.0 signer.2

    pub is_second : new.view ≡ 1
    is_second =
        let above = (takes c 0 at.past at.entry new at.holds).above in
        let says = change_was_said c trace q signer.0 new change.0 safe unforged correct signer.1 taken_it change.1 in
        let l = said_target c signer.0 change.0 (history_of signer.0 trace) says in
        let most = n.none_beyond signer.0 signer.1 in
        let within = every_change (λ vc. (vc.view == new.view) && is_within c vc) (changes_of c new) signer.0 change.0 (selects c new selected).each change.1 in
        let same : change.0.view ≡ new.view = eqb-true change.0.view new.view (and_parts (change.0.view == new.view) (is_within c change.0) within).0 in
        omega arith

    body : (b : Body) × (brought c at.entry ≡ Some b) × Begins c b new
    body = go at.entry (takes c 0 at.past at.entry new at.holds).brought
      where
        go : (e : Entry) → new_view_in c e ≡ Some new → (b : Body) × (brought c e ≡ Some b) × Begins c b new
        go e h = let r = and_then_some (new_view_from c) (brought c e) new h in (r.0, r.1, begins c r.0 new r.2)

    is_body : ◌≡◌ {A = Body} body.0 (record { sender = primary c 1; message = NewView new })
    is_body = same body.0.sender body.0.message (body.2.sender_is ∙ ap (primary c) is_second) body.2.message_is
      where
        same : (sender : ℕ) (message : Message) → sender ≡ primary c 1 → message ≡ NewView new → ◌≡◌ {A = Body} (record { sender = sender; message = message }) (record { sender = primary c 1; message = NewView new })
        same sender message x y = rw (x, y) refl

    primary_says : Once (Speaks (record { sender = primary c 1; message = NewView new })) (history_of (primary c 1) trace)
    primary_says =
        brought_was_said c trace q (record { sender = primary c 1; message = NewView new }) safe unforged correct n.from
        (subst (λ (xs : List Entry). Once (Brings c (record { sender = primary c 1; message = NewView new })) xs) (sym at.splits)
        (once_append (Brings c (record { sender = primary c 1; message = NewView new })) at.newer (at.entry ∷ at.past) (inl (body.1 ∙ ap (λ (b : Body). Some b) is_body))))

    -- so its primary is in it
    pub primary_is_there : 1 ≤ view c (history_of (primary c 1) trace)
    primary_is_there = go there
      where
        right : SafeReplica c (primary c 1) (history_of (primary c 1) trace)
        right = safe (primary c 1) n.from

        there : At (λ past e. RightAt c (primary c 1) past e × Speaks (record { sender = primary c 1; message = NewView new }) past e × Always (RightAt c (primary c 1)) past) (history_of (primary c 1) trace)
        there = once_at (λ past e. RightAt c (primary c 1) past e × Speaks (record { sender = primary c 1; message = NewView new }) past e × Always (RightAt c (primary c 1)) past) (history_of (primary c 1) trace)
            (once_right c (primary c 1) (Speaks (record { sender = primary c 1; message = NewView new })) (history_of (primary c 1) trace) right primary_says)

        enters : (past : List Entry) (e : Entry) → RightAt c (primary c 1) past e → Speaks (record { sender = primary c 1; message = NewView new }) past e → 1 ≤ view c (e ∷ past)
        enters past (Sent p bytes) r says = either (subst (λ (b : Body). MaySendMessage c (primary c 1) past r.point (Sent p bytes) bytes b.message)
            (some_injective r.may.body (record { sender = primary c 1; message = NewView new }) (sym r.may.says ∙ says)) r.may.allowed).1
          where
            either : (taken c past (Sent p bytes) ≡ Some new) ⊎ ((is_active_in c past new.view ≡ true) × SentBefore bytes past) → 1 ≤ view c (Sent p bytes ∷ past)
            either (inl t) = let v = (takes c 0 past (Sent p bytes) new t).view_is in let s = is_second in omega arith
            either (inr a) =
                let v = (active_parts c past new.view a.0).0 in
                let g = view_grows c (Sent p bytes) past in
                let s = is_second in
                omega arith
        enters past _ r says = absurd says

        go : At (λ past e. RightAt c (primary c 1) past e × Speaks (record { sender = primary c 1; message = NewView new }) past e × Always (RightAt c (primary c 1)) past) (history_of (primary c 1) trace)
            → 1 ≤ view c (history_of (primary c 1) trace)
        go a =
            let l = enters a.past a.entry a.holds.0 a.holds.1 in
            let g = view_later c a.newer (a.entry ∷ a.past) in
            let same : view c (history_of (primary c 1) trace) ≡ view c (a.newer ++ a.entry ∷ a.past) = ap (view c) a.splits in
            omega arith

  pub view_most : (q : ℕ) → is_correct_replica c q ≡ true → view c (history_of q trace) ≤ 1
  view_most q correct = go (nat_le 1 (view c (history_of q trace))) refl
    where
      go : (b : Bool) → nat_le 1 (view c (history_of q trace)) ≡ b → view c (history_of q trace) ≤ 1
      go true e =
          let b = left_by c (history_of q trace) (leb-true 1 (view c (history_of q trace)) e) in
          let s = is_second q correct b.0 b.1 in
          let v = b.2 in
          omega arith
      go false e = let l = leb-false 1 (view c (history_of q trace)) e in omega arith

  -- ---- while the second view's primary is not in it

  module _ (none : view c (history_of (primary c 1) trace) ≡ 0) where
    pub all_first : (q : ℕ) → is_correct_replica c q ≡ true → view c (history_of q trace) ≡ 0
    all_first q correct = go (nat_le 1 (view c (history_of q trace))) refl
      where
        go : (b : Bool) → nat_le 1 (view c (history_of q trace)) ≡ b → view c (history_of q trace) ≡ 0
        go true e =
            let b = left_by c (history_of q trace) (leb-true 1 (view c (history_of q trace)) e) in
            let l = primary_is_there q correct b.0 b.1 in
            let z = none in
            absurd (omega arith)
        go false e = let l = leb-false 1 (view c (history_of q trace)) e in omega arith

    -- nobody executes
    none_executed : (k : ℕ) (b : List ℕ) → Once (ExecutesBatch c k b) trace → ⊥
    none_executed k b h =
        let p = executor c k b trace h in
        let ready = executed_committed c trace p.0 k b safe p.1 p.2 in
        let right = safe p.0 p.1 in
        let l = logged_view c p.0 ready.view k b (history_of p.0 trace) (right_always c p.0 (history_of p.0 trace) right.0 right.1) ready.committed.prepared.logged in
        let v = all_first p.0 p.1 in
        let zero_is : ready.view ≡ 0 = omega arith in
        let here : logged c p.0 (history_of p.0 trace) 0 k ≡ Some b = subst (λ (u : ℕ). logged c p.0 (history_of p.0 trace) u k ≡ Some b) zero_is ready.committed.prepared.logged in
        let bad : None ≡ Some b = sym (n.silent p.0 k p.1) ∙ here in
        cc

    -- ---- some past of a correct replica

    module _ (q : ℕ) (correct : is_correct_replica c q ≡ true) (newer xs : List Entry) (splits : history_of q trace ≡ newer ++ xs) (point : Point) (leaves : HistoryReaches c q xs point) where
      pub first_view : view c xs ≡ 0
      first_view =
          let g = view_later c newer xs in
          let same : view c (history_of q trace) ≡ view c (newer ++ xs) = ap (view c) splits in
          let v = all_first q correct in
          omega arith

      pub unlogged : (v i : ℕ) (b : List ℕ) → logged c q xs v i ≡ Some b → ⊥
      unlogged v i b h =
          let l = logged_view c q v i b xs (right_always c q xs point leaves) h in
          let f = first_view in
          let zero_is : v ≡ 0 = omega arith in
          let here : logged c q (newer ++ xs) 0 i ≡ Some b = logged_later c q 0 i b newer xs (subst (λ (u : ℕ). logged c q xs u i ≡ Some b) zero_is h) in
          let bad : None ≡ Some b = sym (n.silent q i correct) ∙ subst (λ (ys : List Entry). logged c q ys 0 i ≡ Some b) (sym splits) here in
          cc

      pub number_zero : point.state.number ≡ 0
      number_zero = go (nat_le 1 point.state.number) refl
        where
          by : IsBy c trace point.state
          by = by_at c trace (run_of c setting trace is_run unforged apart) q newer xs point correct splits leaves

          go : (b : Bool) → nat_le 1 point.state.number ≡ b → point.state.number ≡ 0
          go true e =
              let x = by.executed 1 (omega arith) (leb-true 1 point.state.number e) in
              absurd (none_executed 1 x.0 x.1)
          go false e = let l = leb-false 1 point.state.number e in omega arith

      pub low_zero : low c q xs ≡ 0
      low_zero =
          let a = low_reached c q xs point leaves first_view in
          let b = number_reached c q xs point leaves in
          let z = number_zero in
          omega arith

    module _ (q : ℕ) (correct : is_correct_replica c q ≡ true) where
      -- the opening state stays the only snapshot
      pub opened : (newer xs : List Entry) → history_of q trace ≡ newer ++ xs → (point : Point) → HistoryReaches c q xs point → point.snapshots ≡ opening ∷ []
      opened newer [] splits point leaves = ap (λ (p : Point). p.snapshots) leaves
      opened newer (e ∷ past) splits point leaves = go e leaves.2.may leaves.2.moves (opened (newer ++ e ∷ []) past (splits ∙ sym (append_assoc newer (e ∷ []) past)) leaves.0 leaves.1)
        where
          number : point.state.number ≡ 0
          number = number_zero q correct newer (e ∷ past) splits point leaves

          go : (e : Entry) → May c q past leaves.0 e → MovesPoint c q past leaves.0 e point → leaves.0.snapshots ≡ opening ∷ [] → point.snapshots ≡ opening ∷ []
          go (Got p bytes) may move below = ap (λ (p : Point). p.snapshots) move ∙ below
          go (Tick p) may move below = ap (λ (p : Point). p.snapshots) move ∙ below
          go (Sent p bytes) may move below = ap (λ (p : Point). p.snapshots) move ∙ below
          go (Invoke x y z) may move below = absurd may
          go (Accepted x y z) may move below = absurd may
          go (Executed r k batch) may move below =
              let next : point.state.number ≡ suc leaves.0.state.number = ap (λ (p : Point). p.state.number) move ∙ executed_number c leaves.0.state batch in
              let z = number in
              absurd (omega arith)
          go (Installed r k root) may move below = let above = may.0 in let is = move.number in let z = number in absurd (omega arith)

      -- some request goes on waiting
      waits_more : (st : State) (waiting : List Call) (call : Call) → waiting ≢ [] → with_waiting st waiting call ≢ []
      waits_more st waiting call some = go (nat_lt (last_time st call.client) call.timestamp && list_all (is_newer call) waiting)
        where
          behind : (xs : List Call) → xs ++ call ∷ [] ≢ []
          behind [] h = absurd cc
          behind (x ∷ xs) h = absurd cc

          go : (b : Bool) → cond b (filter (λ (other : Call). not (other.client == call.client)) waiting ++ call ∷ []) waiting ≢ []
          go true h = behind (filter (λ (other : Call). not (other.client == call.client)) waiting) h
          go false h = some h

      waits_behind : (st : State) (waiting : List Call) (o : Option Call) → waiting ≢ [] → option_map_or (with_waiting st waiting) o waiting ≢ []
      waits_behind st waiting None some h = some h
      waits_behind st waiting (Some call) some h = waits_more st waiting call some h

      pub waits_on : (newer middle past : List Entry) → history_of q trace ≡ newer ++ (middle ++ past) → (old new : Point) → HistoryReaches c q past old → HistoryReaches c q (middle ++ past) new → old.waiting ≢ [] → new.waiting ≢ []
      waits_on newer [] past splits old new before behind some =
          subst (λ (p : Point). p.waiting ≢ []) (points_are_one c q past old new before behind) some
      waits_on newer (e ∷ middle) past splits old new before behind some =
          go e behind.2.may behind.2.moves (waits_on (newer ++ e ∷ []) middle past (splits ∙ sym (append_assoc newer (e ∷ []) (middle ++ past))) old behind.0 before behind.1 some)
        where
          number : new.state.number ≡ 0
          number = number_zero q correct newer (e ∷ (middle ++ past)) splits new behind

          go : (e : Entry) → May c q (middle ++ past) behind.0 e → MovesPoint c q (middle ++ past) behind.0 e new → behind.0.waiting ≢ [] → new.waiting ≢ []
          go (Got p bytes) may move below h =
              waits_behind behind.0.state behind.0.waiting (option_and_then (call_in c) (authentic (members c q) q bytes)) below (sym (ap (λ (p : Point). p.waiting) move) ∙ h)
          go (Tick p) may move below h = below (sym (ap (λ (p : Point). p.waiting) move) ∙ h)
          go (Sent p bytes) may move below h = below (sym (ap (λ (p : Point). p.waiting) move) ∙ h)
          go (Invoke x y z) may move below h = may
          go (Accepted x y z) may move below h = may
          go (Executed r k batch) may move below h =
              let next : new.state.number ≡ suc behind.0.state.number = ap (λ (p : Point). p.state.number) move ∙ executed_number c behind.0.state batch in
              let z = number in
              absurd (omega arith)
          go (Installed r k root) may move below h = let above = may.0 in let is = move.number in let z = number in absurd (omega arith)

      -- ---- its view change

      none_listed : (xs : List BatchEntry) → ((x : BatchEntry) → Has (λ y. y ≡ x) xs → ⊥) → xs ≡ []
      none_listed [] f = refl
      none_listed (x ∷ xs) f = absurd (f x (inl refl))

      kept_opening : (h : ℕ) (snapshots : List State) → h ≡ 0 → snapshots ≡ opening ∷ [] → map checkpoint_of (reverse (kept_states h snapshots)) ≡ checkpoint_of opening ∷ []
      kept_opening h snapshots a b = rw (a, b) refl

      pub its_change : (vc : ViewChangeData) → Once (Speaks (changing q vc)) (history_of q trace) → vc ≡ beginning_change
      its_change vc says = go (once_at (NewChangeAt c q vc) (history_of q trace) (change_is_new c q vc (history_of q trace) (right_always c q (history_of q trace) right.0 right.1) says))
        where
          right : SafeReplica c q (history_of q trace)
          right = safe q correct

          go : At (NewChangeAt c q vc) (history_of q trace) → vc ≡ beginning_change
          go a = rw (is_view, is_low, is_kept, no_prepared, no_proposed) refl
            where
              beside : history_of q trace ≡ (a.newer ++ a.entry ∷ []) ++ a.past
              beside = a.splits ∙ sym (append_assoc a.newer (a.entry ∷ []) a.past)

              is_view : vc.view ≡ 1
              is_view =
                  let above = a.holds.is_new.above in
                  let l = said_target c q vc (history_of q trace) says in
                  let most = n.none_beyond q correct in
                  omega arith

              is_low : vc.low ≡ 0
              is_low = a.holds.is_new.low ∙ low_zero q correct (a.newer ++ a.entry ∷ []) a.past beside a.holds.point a.holds.leaves

              is_kept : vc.checkpoints ≡ checkpoint_of opening ∷ []
              is_kept = a.holds.is_new.checkpoints ∙ kept_opening vc.low a.holds.point.snapshots is_low (opened (a.newer ++ a.entry ∷ []) a.past beside a.holds.point a.holds.leaves)

              no_prepared : vc.prepared ≡ []
              no_prepared = none_listed vc.prepared (λ x h.
                  let l = a.holds.is_new.prepared.listed x h in
                  unlogged q correct (a.newer ++ a.entry ∷ []) a.past beside a.holds.point a.holds.leaves x.view x.number l.0.0 l.0.1.logged)

              no_proposed : vc.pre_prepared ≡ []
              no_proposed = none_listed vc.pre_prepared (λ x h.
                  let l = a.holds.is_new.proposed.listed x h in
                  unlogged q correct (a.newer ++ a.entry ∷ []) a.past beside a.holds.point a.holds.leaves x.view x.number l.0.0 l.0.1)

-- ---- the first view change

pub first_within : (c : Configuration) → is_within c beginning_change ≡ true
first_within c = within_of_bounded c beginning_change (record {
  view = omega arith;
  low = omega arith;
  prepared = λ x h. absurd h;
  pre_prepared = λ x h. absurd h;
  checkpoints = λ x h. one x h;
})
  where
    one : (x : CheckpointEntry) → Has (λ y. y ≡ x) (checkpoint_of opening ∷ []) → IsCheckpointBounded c beginning_change x
    one x (inl is) = subst (IsCheckpointBounded c beginning_change) is (record { from = omega arith; within = omega arith; multiple = zero-mod c.period; number = omega arith })
    one x (inr h) = absurd h
