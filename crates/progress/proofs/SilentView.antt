-- If the first view is silent, each correct replica leaves it, the second view's primary begins that, and each enters.
use Rattle.std.proofs.Common.{◌≡◌, ◌≢◌, ℕ, suc, ◌≤◌, ◌<◌, ◌⊎◌, inl, inr, Bool, true, false, List, [], ◌∷◌, ◌++◌, map, reverse, length, Some, refl, sym, ap, ◌∙◌, subst, arith, append_assoc, length-append, eqb-true, eq-eqb}
use Rattle.std.specs.Prelude.{◌==◌, nat_le, option_and_then}
use Rattle.std.proofs.lemmas.List.{append-nil}
use Rattle.std.proofs.lemmas.Bool.{and_parts, and_from, ltb-true, leb-true, leb-false, le-leb, eqb-false}
use Rattle.wire_format.specs.Messages.{BodyData as Body, MessageData as Message, ViewChangeData, view_change as ViewChange}
use Rattle.wire_format.specs.Spelling.{IsDigest, IsMessage, body_spelling}
use Rattle.wire_format.specs.Words.{said}
use Rattle.signing.specs.AuthenticBody.{signed_body}
use Rattle.signing.specs.Signatures.{signature_of}
use Rattle.signing.proofs.Signed.{signature_of-verifies}
use Rattle.authenticator.specs.Keys.{signing_seed}
use Rattle.protocol.specs.System.Configuration.{Configuration, IsConfiguration, replicas, primary, is_replica, is_correct_replica, signers}
use Rattle.protocol.specs.System.Trace.{Entry, history_of, Once, Always, Unforged}
use Rattle.protocol.specs.System.Trace.Entry.{Got, Tick, Sent}
use Rattle.protocol.specs.System.Texts.{NoCollision}
use Rattle.protocol.specs.System.Run.{IsRun, OnlyTheseStopped}
use Rattle.protocol.specs.System.Schedule.{signed_bytes}
use Rattle.protocol.specs.Replica.Selection.{change_in}
use Rattle.protocol.specs.Replica.Certificates.{view, target, is_active_in, low, latest_change}
use Rattle.protocol.specs.Replica.State.{State, opening, root_of}
use Rattle.protocol.specs.Replica.RightReplica.{Point, HistoryReaches, SafeReplica, MaySend, SendsBytes, SentBefore, checkpoint_of, kept_states, IsPreparedList, IsPrePreparedList, sought_view}
use Rattle.protocol.specs.Replica.Owed.{HistoryIsPrompt, HasToMove, AreKeysSpent, BringsChange, HasLatestChange, IsSending}
use Rattle.evidence.specs.ExamplesOfChanges.{beginning_change}
use Rattle.evidence.proofs.FirstFrames.{is_digest}
use Rattle.evidence.proofs.RefusingStepsSigned.{signed_frames_are_authentic}
use Rattle.protocol.proofs.Words.Linking.{Speaks}
use Rattle.protocol.proofs.Words.Reacting.{proceeds_leaves}
use Rattle.protocol.proofs.Words.Temporal.{once_weaker, once_always}
use Rattle.protocol.proofs.Agreement.Signed.{changing, gots_said, GotsSaid}
use Rattle.protocol.proofs.Agreement.States.{history_append, once_append}
use Rattle.protocol.proofs.Agreement.Voting.{right_always, correct_replica}
use Rattle.protocol.proofs.Points.Levels.{many_correct, number_reached, reached_history}
use Rattle.protocol.specs.Space.Linear.{reached}
use Rattle.progress.specs.Delivery.{HasEntry, AllDelivered}
use Rattle.progress.specs.Leaving.{SaysNothingAbove}
use Rattle.progress.specs.SilentView.{SecondIsNext, SomeWaits, TicksOrLeft, SilentViewsAreLeft}
use Rattle.progress.proofs.Answering.{in_history, in_trace}
use Rattle.progress.proofs.Committing.{stands}
use Rattle.progress.proofs.Entering.{signed_is_meant, enters}
use Rattle.progress.proofs.Leaving.{CanChange, EventAt, event_at, change_bytes, signed_by, unprepared_views_begin}
use Rattle.progress.proofs.Silence
use Rattle.progress.proofs.Happened.{At, once_at}
use Rattle.progress.proofs.Silence.{said_target, TargetSaid, target_said, SignedHere, latest_most, latest_least, first_came, first_within, view_most, first_view, unlogged, number_zero, low_zero, opened, waits_on, its_change}
use Rattle.progress.proofs.Steady.{SentAt, sent_at, target_later, leaves_behind}

-- ---- some bytes say the first view change

-- the same with any root
with_root : List ℕ → ViewChangeData
with_root root = record { view = 1; low = 0; checkpoints = record { number = 0; digest = root } ∷ []; prepared = []; pre_prepared = [] }

is_message : (root : List ℕ) → IsDigest root → IsMessage (ViewChange (with_root root))
unfolding with_root
is_message root digest = record {
  view = omega arith;
  low = omega arith;
  few = omega arith;
  checkpoints = ((omega arith, digest), tt);
  checkpoints_ascend = refl;
  prepared_count = omega arith;
  prepared = tt;
  prepared_ascend = refl;
  pre_prepared_count = omega arith;
  pre_prepared = tt;
  pre_prepared_ascend = refl;
}

is_short : (c : Configuration) (q : ℕ) (root : List ℕ) → length root ≡ 32 → length (signature_of (signing_seed c.seed q) 0 (body_spelling (record { sender = q; message = ViewChange (with_root root) }))) ≡ 16577
    → length (signed_bytes c q 0 (body_spelling (record { sender = q; message = ViewChange (with_root root) }))) ≤ 262144
unfolding with_root
is_short c q root digest signature = simp length-append (omega (arith, digest, signature))

said_with : (c : Configuration) → IsConfiguration c → (q : ℕ) (root : List ℕ) → is_replica c q ≡ true → IsDigest root
    → (bytes : List ℕ) × (said bytes ≡ Some (record { sender = q; message = ViewChange (with_root root) }))
said_with c setting q root known digest =
    let zero_leaf : 0 < 64 = omega arith in
    let made = signature_of-verifies (signing_seed c.seed q) (body_spelling (record { sender = q; message = ViewChange (with_root root) })) 0 zero_leaf in (
      signed_bytes c q 0 (body_spelling (record { sender = q; message = ViewChange (with_root root) })),
      (signed_frames_are_authentic c q 0 (ViewChange (with_root root)) setting known zero_leaf (is_message root digest) refl (is_short c q root digest.whole made.formed.whole)).says,
    )

first_said : (c : Configuration) → IsConfiguration c → (q : ℕ) → is_replica c q ≡ true → (bytes : List ℕ) × (said bytes ≡ Some (changing q beginning_change))
unfolding with_root
first_said c setting q known = said_with c setting q (root_of opening) known (is_digest _)

-- ---- a spoken body was sent in a frame

pub record SpokenFrame (s : ℕ) (body : Body) (xs : List Entry) : Type 0 where
  pub bytes : List ℕ
  pub party : ℕ
  pub is_there : HasEntry (Sent party bytes) xs
  pub says : said bytes ≡ Some body

pub spoken_frame : (s : ℕ) (body : Body) (xs : List Entry) → Once (Speaks body) xs → SpokenFrame s body xs
spoken_frame s body [] h = absurd h
spoken_frame s body (e ∷ past) (inr h) = let f = spoken_frame s body past h in record { bytes = f.bytes; party = f.party; is_there = inr f.is_there; says = f.says }
spoken_frame s body (Sent p bytes ∷ past) (inl h) = record { bytes = bytes; party = p; is_there = inl refl; says = h }
spoken_frame s body (_ ∷ past) (inl h) = absurd h

pub speaks_saying : (s : ℕ) (message : Message) (past : List Entry) (e : Entry) → Speaks (record { sender = s; message = message }) past e → IsSending s message e
speaks_saying s message past (Sent p bytes) h = h
speaks_saying s message past _ h = absurd h

pub brings_signed : (c : Configuration) (s : ℕ) (vc : ViewChangeData) (past : List Entry) (e : Entry) → BringsChange c (s, vc) past e → SignedHere c s vc past e
brings_signed c s vc past (Got p bytes) h = h.0
brings_signed c s vc past _ h = absurd h

-- the signer sent a signed view change that came
pub came_said : (c : Configuration) (trace : List Entry) (p s : ℕ) (vc : ViewChangeData) → Unforged c trace → is_correct_replica c p ≡ true → is_correct_replica c s ≡ true
    → Once (SignedHere c s vc) (history_of p trace) → Once (Speaks (changing s vc)) (history_of s trace)
came_said c trace p s vc unforged one other h = go (once_at (λ past e. GotsSaid c trace e × SignedHere c s vc past e × Always (λ past e. GotsSaid c trace e) past) (history_of p trace)
    (once_always (λ past e. GotsSaid c trace e) (SignedHere c s vc) (history_of p trace) (gots_said c trace p unforged (correct_replica c p one)) h))
  where
    by : (e : Entry) (past : List Entry) → GotsSaid c trace e → SignedHere c s vc past e → Once (Speaks (changing s vc)) (history_of s trace)
    by (Got q bytes) past g signed = g bytes (inl refl) (changing s vc) (change_bytes c s vc bytes signed) other
    by _ past g signed = absurd signed

    go : At (λ past e. GotsSaid c trace e × SignedHere c s vc past e × Always (λ past e. GotsSaid c trace e) past) (history_of p trace) → Once (Speaks (changing s vc)) (history_of s trace)
    go a = by a.entry a.past a.holds.0 a.holds.1

-- ---- the law

module _ (c : Configuration) (setting : IsConfiguration c) (trace : List Entry) (is_run : IsRun c trace) (goes : OnlyTheseStopped c [] trace) (unforged : Unforged c trace) (apart : NoCollision c trace)
    (n : SecondIsNext c trace) where
  right : (q : ℕ) → is_correct_replica c q ≡ true → SafeReplica c q (history_of q trace)
  right q correct = Silence.safe c setting trace is_run goes unforged apart n q correct

  below : (q : ℕ) → is_correct_replica c q ≡ true → q < replicas c
  below q correct = ltb-true q (replicas c) (and_parts (is_replica c q) _ correct).0

  known : (q : ℕ) → is_correct_replica c q ≡ true → is_replica c q ≡ true
  known q correct = (and_parts (is_replica c q) _ correct).0

  -- ---- while the second view's primary is not in it, all leave the first

  module _ (none : view c (history_of (primary c 1) trace) ≡ 0) where
    module _ (q : ℕ) (correct : is_correct_replica c q ≡ true) where
      -- the first view change may be sent at a tick, while one waits
      can : (newer past : List Entry) → history_of q trace ≡ newer ++ Tick q ∷ past → (point behind : Point) → HistoryReaches c q past point → HistoryReaches c q (Tick q ∷ past) behind → point.waiting ≢ [] → target past ≡ 0
          → CanChange c q (Tick q ∷ past) point (suc (sought_view c past))
      can newer past splits point behind leaves leaves_behind waits unmoved = record {
        change = beginning_change;
        view = next;
        is_new = record {
          above = (let v = at_first in omega arith);
          newer = (let t = moved in omega arith);
          is_view = refl;
          low = sym (low_zero c setting trace is_run goes unforged apart n none q correct newer (Tick q ∷ past) splits behind leaves_behind);
          checkpoints = sym (kept (low c q past) point.snapshots (opened c setting trace is_run goes unforged apart n none q correct (newer ++ Tick q ∷ []) past beside point leaves));
          prepared = none_prepared;
          proposed = none_proposed;
          reason = inl (record { before = past; tick = refl; waits = inl waits; next = next });
        };
        within = first_within c;
        bytes = (first_said c setting q (known q correct)).0;
        says = (first_said c setting q (known q correct)).1;
      }
        where
          beside : history_of q trace ≡ (newer ++ Tick q ∷ []) ++ past
          beside = splits ∙ sym (append_assoc newer (Tick q ∷ []) past)

          at_first : view c (Tick q ∷ past) ≡ 0
          at_first = first_view c setting trace is_run goes unforged apart n none q correct newer (Tick q ∷ past) splits behind leaves_behind

          before : view c past ≡ 0
          before = first_view c setting trace is_run goes unforged apart n none q correct (newer ++ Tick q ∷ []) past beside point leaves

          moved : target (Tick q ∷ past) ≡ 0
          moved = let u = unmoved in omega arith

          next : 1 ≡ suc (sought_view c past)
          next = let v = before in let u = unmoved in omega arith

          kept : (h : ℕ) (snapshots : List State) → snapshots ≡ opening ∷ [] → map checkpoint_of (reverse (kept_states 0 snapshots)) ≡ checkpoint_of opening ∷ []
          kept h snapshots is = rw is refl

          none_prepared : IsPreparedList c q (Tick q ∷ past) []
          none_prepared = record {
            listed = λ x h. absurd h;
            all = λ v i b marks p. absurd (unlogged c setting trace is_run goes unforged apart n none q correct newer (Tick q ∷ past) splits behind leaves_behind v i b p.logged);
            ascending = λ i j d less within. absurd (omega arith);
          }

          none_proposed : IsPrePreparedList c q (Tick q ∷ past) []
          none_proposed = record {
            listed = λ x h. absurd h;
            all = λ v i b marks p. absurd (unlogged c setting trace is_run goes unforged apart n none q correct newer (Tick q ∷ past) splits behind leaves_behind v i b p);
            differ = λ i j d less within. absurd (omega arith);
          }

      -- ---- it left

      module _ (left : target (history_of q trace) ≡ 1) where
        its : TargetSaid q 1 (history_of q trace)
        its = target_said c q 1 (history_of q trace) (right_always c q (history_of q trace) (right q correct).0 (right q correct).1) (let o : 1 ≤ 1 = omega arith in o) left

        says : Once (Speaks (changing q beginning_change)) (history_of q trace)
        says = subst (λ (vc : ViewChangeData). Once (Speaks (changing q vc)) (history_of q trace)) (its_change c setting trace is_run goes unforged apart n none q correct its.vc its.says) its.says

        frame : SpokenFrame q (changing q beginning_change) (history_of q trace)
        frame = spoken_frame q (changing q beginning_change) (history_of q trace) says

        at : SentAt c q frame.party frame.bytes (history_of q trace)
        at = sent_at c q frame.party frame.bytes (history_of q trace) (right q correct).0 (right q correct).1 frame.is_there

        signed : signed_body (signers c) frame.bytes ≡ Some (changing q beginning_change)
        signed = signed_by c q frame.bytes (changing q beginning_change) at.past at.point (subst (λ (x : ℕ). MaySend c q at.past at.point (Sent x frame.bytes) frame.bytes) at.own at.may) frame.says refl (known q correct)

        sent : HasEntry (Sent q frame.bytes) trace
        sent = subst (λ (x : ℕ). HasEntry (Sent x frame.bytes) trace) at.own (in_trace q (Sent frame.party frame.bytes) trace frame.is_there)

        -- the second view's primary has it
        pub has_it : AllDelivered c trace → HasLatestChange c (primary c 1) (history_of (primary c 1) trace) (q, beginning_change)
        has_it all = go (q == primary c 1) refl
          where
            go : (b : Bool) → (q == primary c 1) ≡ b → HasLatestChange c (primary c 1) (history_of (primary c 1) trace) (q, beginning_change)
            go true e =
                let same = eqb-true q (primary c 1) e in
                inr (
                  same,
                  subst (λ (x : ℕ). Once (λ earlier e. IsSending x (ViewChange beginning_change) e) (history_of x trace)) same
                      (once_weaker (Speaks (changing q beginning_change)) (λ earlier e. IsSending q (ViewChange beginning_change) e) (speaks_saying q (ViewChange beginning_change)) (history_of q trace) says),
                  subst (λ (x : ℕ). target (history_of x trace) ≡ 1) same left,
                )
            go false e = inl (differ, came, (let l = least in let m = most in omega arith))
              where
                differ : q ≢ primary c 1
                differ = eqb-false q (primary c 1) e

                gets : HasEntry (Got (primary c 1) frame.bytes) (history_of (primary c 1) trace)
                gets = in_history (primary c 1) (Got (primary c 1) frame.bytes) trace refl
                    (all q (primary c 1) frame.bytes sent
                    (signed_is_meant c q (primary c 1) frame.bytes (changing q beginning_change) frame.says refl (below (primary c 1) n.from) (λ same. differ (sym same))) (correct_replica c (primary c 1) n.from))

                most : latest_change c (history_of (primary c 1) trace) q ≤ 1
                most = latest_most c q 1 (history_of (primary c 1) trace) (λ vc h.
                    let l = said_target c q vc (history_of q trace) (came_said c trace (primary c 1) q vc unforged n.from correct h) in
                    let m = n.none_beyond q correct in
                    omega arith)

                least : 1 ≤ latest_change c (history_of (primary c 1) trace) q
                least = latest_least c q (primary c 1) beginning_change frame.bytes (history_of (primary c 1) trace) (ap (option_and_then change_in) signed) (first_within c) (let z = none in omega arith) gets

                first : (vc : ViewChangeData) × Once (BringsChange c (q, vc)) (history_of (primary c 1) trace) × (1 ≤ vc.view)
                first = first_came c q 1 (history_of (primary c 1) trace) (let o : 1 ≤ 1 = omega arith in o) least

                came : Once (BringsChange c (q, beginning_change)) (history_of (primary c 1) trace)
                came = subst (λ (vc : ViewChangeData). Once (BringsChange c (q, vc)) (history_of (primary c 1) trace))
                    (its_change c setting trace is_run goes unforged apart n none q correct first.0
                    (came_said c trace (primary c 1) q first.0 unforged n.from correct (once_weaker (BringsChange c (q, first.0)) (SignedHere c q first.0) (brings_signed c q first.0) (history_of (primary c 1) trace) first.1))) first.1

    -- so it can begin the second view
    begins : AllDelivered c trace → ((q : ℕ) → is_correct_replica c q ≡ true → target (history_of q trace) ≡ 1) → ⊥
    begins all left = go (unprepared_views_begin c trace is_run goes (primary c 1) 1 0 (root_of opening) n.from refl (left (primary c 1) n.from) (is_correct_replica c) (many_correct c setting) says)
      where
        says : (s : ℕ) → s < replicas c → is_correct_replica c s ≡ true → SaysNothingAbove c (primary c 1) (history_of (primary c 1) trace) 1 0 (root_of opening) s
        says s small correct = (
          beginning_change,
          has_it s correct (left s correct) all,
          refl,
          first_within c,
          record { low = omega arith; lists = inl (refl, refl); none = λ i h. absurd h },
        )

        go : (1 ≤ view c (history_of (primary c 1) trace)) ⊎ AreKeysSpent (history_of (primary c 1) trace) → ⊥
        go (inl l) = let z = none in absurd (omega arith)
        go (inr spent) = n.keys (primary c 1) n.from spent

-- a history begins with a tick of a part
pub record TickAt (q : ℕ) (later start : List Entry) : Type 0 where
  pub newer : List Entry
  pub middle : List Entry
  pub whole : history_of q (later ++ start) ≡ newer ++ Tick q ∷ (middle ++ history_of q start)

tick_at : (q : ℕ) (later start : List Entry) → HasEntry (Tick q) later → TickAt q later start
tick_at q later start h =
    let s = stands (Tick q) (history_of q later) (history_of q start) (in_history q (Tick q) later refl h) in
    record { newer = s.newer; middle = s.middle; whole = history_append q later start ∙ s.whole }

module _ (c : Configuration) (setting : IsConfiguration c) (later start : List Entry) (is_run : IsRun c (later ++ start)) (goes : OnlyTheseStopped c [] (later ++ start)) (unforged : Unforged c (later ++ start))
    (apart : NoCollision c (later ++ start)) (n : SecondIsNext c (later ++ start)) (all : AllDelivered c (later ++ start))
    (waits : (q : ℕ) → is_correct_replica c q ≡ true → (SomeWaits c q (history_of q start) ⊎ (1 ≤ reached start q)) × TicksOrLeft q later start) where
  abbrev trace : List Entry
  trace = later ++ start

  -- each left, while the second view's primary is not in it
  by_a_tick : view c (history_of (primary c 1) (later ++ start)) ≡ 0 → (q : ℕ) → is_correct_replica c q ≡ true → TickAt q later start → target (history_of q (later ++ start)) ≡ 1
  by_a_tick none q correct at = go (nat_le 1 (target past)) refl
    where
      past : List Entry
      past = at.middle ++ history_of q start

      point : Point
      point = (goes.replicas q correct refl).0

      proceeds : HistoryIsPrompt c q (at.newer ++ Tick q ∷ past) [] point point
      proceeds = subst (λ (xs : List Entry). HistoryIsPrompt c q xs [] (goes.replicas q correct refl).0 (goes.replicas q correct refl).0) at.whole (goes.replicas q correct refl).1

      event : EventAt c q (Tick q) past (at.newer ++ Tick q ∷ past)
      event = event_at c q (Tick q) refl at.newer past [] point point proceeds

      grows : target past ≤ target (history_of q (later ++ start))
      grows =
          let a = target_later (at.newer ++ Tick q ∷ []) past in
          let same : target (history_of q (later ++ start)) ≡ target ((at.newer ++ Tick q ∷ []) ++ past) = ap target (at.whole ∙ sym (append_assoc at.newer (Tick q ∷ []) past)) in
          omega arith

      behind : (first : Point) × HistoryReaches c q (Tick q ∷ past) first
      behind = leaves_behind c q at.newer (Tick q ∷ past) point (proceeds_leaves c q (at.newer ++ Tick q ∷ past) [] point point proceeds)

      some_waits : SomeWaits c q (history_of q start) ⊎ (1 ≤ reached start q) → event.old.waiting ≢ []
      some_waits (inl w) =
          waits_on c setting (later ++ start) is_run goes unforged apart n none q correct (at.newer ++ Tick q ∷ []) at.middle (history_of q start) (at.whole ∙ sym (append_assoc at.newer (Tick q ∷ []) past))
          w.0 event.old w.1 event.leaves w.2
      some_waits (inr ran) =
          let old = leaves_behind c q at.middle (history_of q start) event.old event.leaves in
          let z = number_zero c setting (later ++ start) is_run goes unforged apart n none q correct (history_of q later) (history_of q start) (history_append q later start) old.0 old.1 in
          let a = number_reached c q (history_of q start) old.0 old.1 in
          let b = reached_history q start in
          absurd (omega arith)

      by_tick : target past ≡ 0 → target (history_of q (later ++ start)) ≡ 1
      by_tick unmoved = pick (event.owes.view_changes change.change change.bytes moves change.is_new change.within change.says)
        where
          change : CanChange c q (Tick q ∷ past) event.old (suc (sought_view c past))
          change = can c setting (later ++ start) is_run goes unforged apart n none q correct at.newer past at.whole event.old behind.0 event.leaves behind.1 (some_waits (waits q correct).0) unmoved

          moves : HasToMove c q past (Tick q) event.old.waiting change.change.view
          moves = inl (record { before = past; tick = refl; waits = inl (some_waits (waits q correct).0); next = change.view })

          pick : (change.change.view ≤ target (reverse event.outs ++ Tick q ∷ past)) ⊎ AreKeysSpent past → target (history_of q (later ++ start)) ≡ 1
          pick (inr spent) = absurd (n.keys q correct (λ leaf l.
              let x = spent leaf l in
              (x.0, x.1, subst (λ (xs : List Entry). SentBefore x.0 xs) (sym (at.whole ∙ sym (append_assoc at.newer (Tick q ∷ []) past))) (once_append (SendsBytes x.0) (at.newer ++ Tick q ∷ []) past x.2))))
          pick (inl l) =
              let a = target_later event.newer (reverse event.outs ++ Tick q ∷ past) in
              let same : target (history_of q (later ++ start)) ≡ target (event.newer ++ (reverse event.outs ++ Tick q ∷ past)) = ap target (at.whole ∙ event.is) in
              let v = change.view in
              let most = n.none_beyond q correct in
              omega arith

      go : (b : Bool) → nat_le 1 (target past) ≡ b → target (history_of q (later ++ start)) ≡ 1
      go true e =
          let l = leb-true 1 (target past) e in
          let g = grows in
          let most = n.none_beyond q correct in
          omega arith
      go false e = let l = leb-false 1 (target past) e in by_tick (omega arith)

  leaves_first : view c (history_of (primary c 1) (later ++ start)) ≡ 0 → (q : ℕ) → is_correct_replica c q ≡ true → target (history_of q (later ++ start)) ≡ 1
  leaves_first none q correct = by_part (waits q correct).1
    where
      by_part : TicksOrLeft q later start → target (history_of q (later ++ start)) ≡ 1
      by_part (inl tick) = by_a_tick none q correct (tick_at q later start tick)
      by_part (inr left) = let most = n.none_beyond q correct in omega arith

  -- so the second view's primary is in it
  primary_in : view c (history_of (primary c 1) (later ++ start)) ≡ 1
  primary_in = go (nat_le 1 (view c (history_of (primary c 1) (later ++ start)))) refl
    where
      go : (b : Bool) → nat_le 1 (view c (history_of (primary c 1) (later ++ start))) ≡ b → view c (history_of (primary c 1) (later ++ start)) ≡ 1
      go true e =
          let l = leb-true 1 (view c (history_of (primary c 1) (later ++ start))) e in
          let m = view_most c setting (later ++ start) is_run goes unforged apart n (primary c 1) n.from in
          omega arith
      go false e =
          let l = leb-false 1 (view c (history_of (primary c 1) (later ++ start))) e in
          let none : view c (history_of (primary c 1) (later ++ start)) ≡ 0 = omega arith in
          absurd (begins c setting (later ++ start) is_run goes unforged apart n none all (leaves_first none))

  no_view : (p : ℕ) → view c (history_of p []) ≡ 0
  unfolding view
  no_view p = refl

  pub second_is_entered : (q : ℕ) → is_correct_replica c q ≡ true → is_active_in c (history_of q (later ++ start)) 1 ≡ true
  second_is_entered q correct =
      let most = n.none_beyond q correct in
      let nil : (later ++ start) ++ [] ≡ later ++ start = append-nil (later ++ start) in
      let l : 1 ≤ view c (history_of q ((later ++ start) ++ [])) =
      enters c (later ++ start) [] (subst (IsRun c) (sym nil) is_run) all 1 n.from
      (let z = no_view (primary c 1) in omega arith)
      (subst (λ (xs : List Entry). view c (history_of (primary c 1) xs) ≡ 1) (sym nil) primary_in)
      q correct (subst (λ (xs : List Entry). target (history_of q xs) ≤ 1) (sym nil) most) in
      let same : view c (history_of q ((later ++ start) ++ [])) ≡ view c (history_of q (later ++ start)) = ap (λ (xs : List Entry). view c (history_of q xs)) nil in
      let m = view_most c setting (later ++ start) is_run goes unforged apart n q correct in
      let is : view c (history_of q (later ++ start)) ≡ 1 = omega arith in
      and_from (view c (history_of q (later ++ start)) == 1) (nat_le (target (history_of q (later ++ start))) 1) (eq-eqb (view c (history_of q (later ++ start))) 1 is)
      (le-leb (target (history_of q (later ++ start))) 1 most)

pub silent_views_are_left : SilentViewsAreLeft
silent_views_are_left c setting later start is_run goes unforged apart n all waits q correct =
    second_is_entered c setting later start is_run goes unforged apart n all (λ r h. let w = waits r h in (inl w.0, w.1)) q correct
