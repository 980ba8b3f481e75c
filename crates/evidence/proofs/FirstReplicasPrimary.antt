-- The primary of the first operation is a right replica.
use Rattle.std.proofs.Common.{◌≡◌, ℕ, ◌<◌, inl, inr, Bool, true, false, List, [], ◌∷◌, refl, sym, ◌∙◌, subst, arith, Some, None}
use Rattle.std.specs.Prelude.{AllPairs, ⊤, ◌&&◌}
use Rattle.std.specs.Bool.{then_some}
use Rattle.std.proofs.lemmas.Bool.{both_ways}
use Rattle.tuple_codec.specs.Operations.{Operation}
use Rattle.reply_cache.specs.Replies.{no_replies}
use Rattle.protocol.specs.System.Configuration.{Configuration, IsConfiguration, members}
use Rattle.terms.specs.declared.order.Mode.TheVariants as modes
use Rattle.wire_format.specs.Messages.{BodyData as Body, pre_prepare as PrePrepare}
use Rattle.wire_format.specs.Words.{requests_of}
use Rattle.signing.specs.AuthenticBody.{authentic}
use Rattle.protocol.specs.System.Trace.{Entry, Once, Has}
use Rattle.protocol.specs.System.Trace.Entry.{Got, Executed, Sent}
use Rattle.protocol.specs.Replica.Certificates.{are_genuine, Committed}
use Rattle.protocol.specs.Replica.State.{Call, call_of, opening, last_time}
use Rattle.protocol.specs.Replica.RightReplica.{first_point, others, HasSeen, IsFree, MaySend}
use Rattle.protocol.specs.Replica.Owed.{IsOfView, BeginsViewWith, HasRequest, IsNumbered, AreDifferent, NumbersOnce, HistoryIsPrompt, IsReplica}
use Rattle.evidence.specs.Examples.{four}
use Rattle.evidence.specs.FirstOperation.{FirstFrames, AreFirstFrames}
use Rattle.protocol.proofs.Words.Options.{some_injective}
use Rattle.evidence.proofs.FirstReplicasStages.{here, none, and_of, Stage, first_stage, got, sent, stage_request, stage_pre_prepare}
use Rattle.evidence.proofs.FirstReplicasOwing.{Due, logs_it, committed_full}
use Rattle.evidence.proofs.FirstReplicasSteps as steps
use Rattle.evidence.proofs.FirstReplicasSteps.{Part, asks, proposes, prepares, commits, the_call, waits, ran, done}
use Rattle.evidence.proofs.FirstReplicasEvents as events
use Rattle.evidence.proofs.FirstReplicasEvents.{IsSender}
use Rattle.protocol.proofs.Words.Plain.{taken_none}
use Rattle.wire_format.specs.Lists.{Each}

first_sender : IsSender 0 1
first_sender = record { within = omega arith; gets = refl }

second_sender : IsSender 0 2
second_sender = record { within = omega arith; gets = refl }

third_sender : IsSender 0 3
third_sender = record { within = omega arith; gets = refl }

module _ (clients : ℕ) (seed : List ℕ) (op : Operation) (batch : List ℕ) (w : FirstFrames) (setting : IsConfiguration (four clients seed)) (x : AreFirstFrames (four clients seed) op batch w) where
  abbrev c : Configuration
  c = four clients seed

  abbrev pub self : Part
  self = record { clients = clients; seed = seed; op = op; batch = batch; frames = w; setting = setting; are_frames = x; me = 0; member = refl; within = omega arith }

  -- ---- the history, as it grows

  abbrev h1 : List Entry
  h1 = Got 0 w.request ∷ []

  abbrev h2 : List Entry
  h2 = Sent 0 w.pre_prepare ∷ h1

  abbrev h3 : List Entry
  h3 = Got 0 (w.prepare 1) ∷ h2

  abbrev h4 : List Entry
  h4 = Got 0 (w.prepare 2) ∷ h3

  abbrev h5 : List Entry
  h5 = Sent 0 (w.commit 0) ∷ h4

  abbrev h6 : List Entry
  h6 = Got 0 (w.prepare 3) ∷ h5

  abbrev h7 : List Entry
  h7 = Got 0 (w.commit 2) ∷ h6

  abbrev h8 : List Entry
  h8 = Got 0 (w.commit 3) ∷ h7

  abbrev h10 : List Entry
  h10 = Sent 0 (w.reply 0) ∷ Executed 0 1 batch ∷ h8

  abbrev pub primary_history : List Entry
  primary_history = Got 0 (w.commit 1) ∷ h10

  -- ---- who prepared and who committed

  abbrev p1 : ℕ → Bool
  p1 = and_of none 1

  abbrev p2 : ℕ → Bool
  p2 = and_of p1 2

  abbrev p3 : ℕ → Bool
  p3 = and_of p2 3

  abbrev k1 : ℕ → Bool
  k1 = and_of none 0

  abbrev k2 : ℕ → Bool
  k2 = and_of k1 2

  abbrev k3 : ℕ → Bool
  k3 = and_of k2 3

  abbrev k4 : ℕ → Bool
  k4 = and_of k3 1

  hears_request : authentic (members c 0) 0 w.request ≡ Some (asks op)
  hears_request = steps.hears_request self

  genuine : are_genuine c 0 batch ≡ true
  genuine = steps.genuine self

  -- ---- the certificates

  abbrev At : List Entry → Bool → (ℕ → Bool) → (ℕ → Bool) → Type 0
  At past l p k = Stage clients seed batch 0 past l p k

  s0 : At [] false none none
  s0 = first_stage clients seed batch 0

  s1 : At h1 false none none
  s1 = stage_request clients seed batch 0 [] (Got 0 w.request) 256 1 modes.Ordered op false none none s0 (got clients seed batch 0 [] w.request (asks op) tt hears_request tt)

  s2 : At h2 true none none
  s2 = stage_pre_prepare clients seed batch 0 h1 (Sent 0 w.pre_prepare) none none genuine s1 (sent clients seed batch 0 h1 w.pre_prepare (proposes batch) x.proposes.says tt)

  s3 : At h3 true p1 none
  s3 = events.behind_prepare self h2 1 none none first_sender refl s2

  s5 : At h5 true p2 k1
  s5 = events.behind_own_commit self h4 p2 none (events.behind_prepare self h3 2 p1 none second_sender refl s3)

  s6 : At h6 true p3 k1
  s6 = events.behind_prepare self h5 3 p2 k1 third_sender refl s5

  s7 : At h7 true p3 k2
  s7 = events.behind_commit self h6 2 p3 k1 second_sender s6

  s10 : At h10 true p3 k3
  s10 = events.behind_reply self h8 p3 k3 (events.behind_commit self h7 3 p3 k2 third_sender s7)

  pub behind : At primary_history true p3 k4
  behind = events.behind_commit self h10 1 p3 k3 first_sender s10

  pub is_committed : Committed c 0 primary_history 0 1 batch
  is_committed = committed_full clients seed batch 0 primary_history true p3 k4 behind refl refl refl

  -- ---- the request is numbered, and once

  has_request : HasRequest c 0 1 batch
  has_request = subst (λ (frames : List (List ℕ)). Has (λ frame. (call : Call) × (call_of c frame ≡ Some call) × (call.client ≡ 0) × (call.timestamp ≡ 1)) frames) (sym x.requests)
      (inl (the_call op, steps.called self, refl, refl))

  is_numbered : (now : List Entry) (p k : ℕ → Bool) → At now true p k → events.Numbers self now (waits op)
  is_numbered now p k st own call (inl is) = subst (λ (y : Call). IsNumbered c 0 now 0 y.client y.timestamp) is (batch, inl (1, st.logged_is 0 1), has_request)
  is_numbered now p k st own call (inr h) = absurd h

  not_assigned : (v : ℕ) (b : List ℕ) → Once (BeginsViewWith c v b) h1 → ⊥
  not_assigned v b (inl assigned) = let bad : Some assigned.0 ≡ None = sym assigned.1 ∙ taken_none c [] (Got 0 w.request) s1.plain.0 in absurd cc
  not_assigned v b (inr h) = h

  not_numbered : (v client timestamp : ℕ) → IsNumbered c 0 h1 v client timestamp → ⊥
  not_numbered v client timestamp h = go h.1
    where
      go : IsOfView c 0 h1 v h.0 → ⊥
      go (inl there) = let it = logs_it clients seed batch 0 h1 false none none s1 v there.0 h.0 there.1 in absurd (both_ways false refl it.1)
      go (inr assigned) = not_assigned v h.0 assigned

  -- no request stands twice in a batch that a body proposes
  abbrev ProposesDifferent : Body → Type 0
  ProposesDifferent body = elim body.message [ PrePrepare v i b ↦ AllPairs (AreDifferent c) (requests_of b) | _ ↦ ⊤ ]

  one_request : ProposesDifferent (proposes batch)
  one_request = subst (λ (frames : List (List ℕ)). AllPairs (AreDifferent c) frames) (sym x.requests) (λ i j d less within. absurd (omega arith))

  numbers_once : NumbersOnce c 0 h1 (Sent 0 w.pre_prepare)
  numbers_once v i other batch_entry free = (
    subst ProposesDifferent (some_injective (proposes batch) (record { sender = 0; message = PrePrepare v i other }) (sym x.proposes.says ∙ batch_entry)) one_request,
    λ client timestamp asked numbered. not_numbered v client timestamp numbered,
  )

  -- ---- the proposal

  -- the first number is the next one
  is_free : IsFree c 0 h1 (waits op).state.number 0 1
  is_free = record { in_marks = events.marked self h1 s1.plain; near = omega arith; used = λ j above below. absurd (omega (arith, above, below)); unused = λ j above. s1.logged_is 0 j ∙ never (here 0 j) batch }
    where
      never : (b : Bool) (d : List ℕ) → then_some (b && false) d ≡ None
      never true d = refl
      never false d = refl

  may_propose : MaySend c 0 h1 (waits op) (Sent 0 w.pre_prepare) w.pre_prepare
  may_propose =
      steps.may_send self h1 (waits op) w.pre_prepare (PrePrepare 0 1 batch) (others c 0) x.proposes (λ rs is. is)
      (subst (λ (frames : List (List ℕ)). Each (λ frame. Once (HasSeen frame) h1) frames) (sym x.requests) (inl (inl refl), tt))
      (record { is_primary = refl; active = events.active self h1 s1.plain; in_marks = events.marked self h1 s1.plain; genuine = genuine; one = s2.logged_is 0 1; next = λ free. is_free }) (λ here. here)

  due_request : Due clients seed batch 0 [] w.request (Sent 0 w.pre_prepare ∷ []) h2 first_point (waits op) false true none none none
  unfolding no_replies
  due_request = record {
    body = asks op;
    receives = hears_request;
    unanswered = (refl, refl, refl);
    numbers = is_numbered h2 none none s2;
    numbers_once = (numbers_once, tt);
    prepares = λ was is other. absurd (other refl);
    commits = λ was is. absurd (both_ways false refl is);
    executes = inr refl;
    replies = λ y has. absurd has;
    checkpoints = λ n has. absurd (events.none_executed self w.pre_prepare n has);
    dropped = λ drops. absurd (drops (asks op) hears_request (0, refl, inr (newer, tt)));
  }
    where
      newer : last_time opening 0 < 1
      newer = let zero : last_time opening 0 ≡ 0 = refl in omega arith

  -- ---- the whole, event by event

  to_propose : HistoryIsPrompt c 0 h2 [] (waits op) (waits op)
  to_propose = (
    waits op,
    record { own = refl; may = may_propose; moves = refl },
    (
      first_point,
      record { own = refl; may = tt; moves = steps.moves_request self },
      (events.owing self [] w.request (Sent 0 w.pre_prepare ∷ []) h2 first_point (waits op) false true none none none none s0 s2 due_request, (refl, refl)),
    ),
  )

  to_prepare : HistoryIsPrompt c 0 h3 [] (waits op) (waits op)
  to_prepare = (
    waits op,
    events.step_quiet self h2 (w.prepare 1) (prepares batch 1) (events.hears_prepare self 1 first_sender) refl,
    (
      events.owing self h2 (w.prepare 1) [] h3 (waits op) (waits op) true true none p1 none none s2 s3
          (events.due_nothing self h2 h3 (w.prepare 1) (prepares batch 1) (waits op) (waits op) none p1 none (events.hears_prepare self 1 first_sender) tt (is_numbered h3 p1 none s3) refl (inr refl) (inr refl)),
      to_propose,
    ),
  )

  to_commit : HistoryIsPrompt c 0 h5 [] (waits op) (waits op)
  to_commit = (
    waits op,
    events.step_commit self h4 p2 none (events.behind_prepare self h3 2 p1 none second_sender refl s3) refl (λ here. here),
    (
      waits op,
      events.step_quiet self h3 (w.prepare 2) (prepares batch 2) (events.hears_prepare self 2 second_sender) refl,
      (
        events.owing self h3 (w.prepare 2) (Sent 0 (w.commit 0) ∷ []) h5 (waits op) (waits op) true true p1 p2 none k1 s3 s5
            (events.due_commit self h3 h5 2 p1 none k1 second_sender refl s3 refl refl (is_numbered h5 p2 k1 s5)),
        to_prepare,
      ),
    ),
  )

  to_last_prepare : HistoryIsPrompt c 0 h6 [] (waits op) (waits op)
  to_last_prepare = (
    waits op,
    events.step_quiet self h5 (w.prepare 3) (prepares batch 3) (events.hears_prepare self 3 third_sender) refl,
    (
      events.owing self h5 (w.prepare 3) [] h6 (waits op) (waits op) true true p2 p3 k1 k1 s5 s6
          (events.due_nothing self h5 h6 (w.prepare 3) (prepares batch 3) (waits op) (waits op) p2 p3 k1 (events.hears_prepare self 3 third_sender) tt (is_numbered h6 p3 k1 s6) refl (inl refl) (inr refl)),
      to_commit,
    ),
  )

  to_commits : HistoryIsPrompt c 0 h7 [] (waits op) (waits op)
  to_commits = (
    waits op,
    events.step_quiet self h6 (w.commit 2) (commits batch 2) (events.hears_commit self 2 second_sender) refl,
    (
      events.owing self h6 (w.commit 2) [] h7 (waits op) (waits op) true true p3 p3 k1 k2 s6 s7
          (events.due_nothing self h6 h7 (w.commit 2) (commits batch 2) (waits op) (waits op) p3 p3 k2 (events.hears_commit self 2 second_sender) tt (is_numbered h7 p3 k2 s7) refl (inl refl) (inr refl)),
      to_last_prepare,
    ),
  )

  to_reply : HistoryIsPrompt c 0 h10 [] (ran c op batch) (ran c op batch)
  to_reply = (
    ran c op batch,
    events.step_reply self (Executed 0 1 batch ∷ h8) (events.behind_execution self h8 (λ here. here)),
    (
      waits op,
      events.step_executed self h8 p3 k3 (events.behind_commit self h7 3 p3 k2 third_sender s7) refl refl refl,
      (
        waits op,
        events.step_quiet self h7 (w.commit 3) (commits batch 3) (events.hears_commit self 3 third_sender) refl,
        (
          events.owing self h7 (w.commit 3) (Executed 0 1 batch ∷ Sent 0 (w.reply 0) ∷ []) h10 (waits op) (ran c op batch) true true p3 p3 k2 k3 s7 s10
              (events.due_execution self h7 h10 3 p3 k2 k3 third_sender s7 refl refl),
          to_commits,
        ),
      ),
    ),
  )

  nothing_waits : events.Numbers self primary_history (done c batch)
  nothing_waits own call has = absurd has

  pub proceeds : HistoryIsPrompt c 0 primary_history [] (done c batch) (done c batch)
  proceeds = (
    ran c op batch,
    events.step_last self h10 1 first_sender,
    (
      events.owing self h10 (w.commit 1) [] primary_history (ran c op batch) (done c batch) true true p3 p3 k3 k4 s10 behind
          (events.due_nothing self h10 primary_history (w.commit 1) (commits batch 1) (ran c op batch) (done c batch) p3 p3 k4 (events.hears_commit self 1 first_sender) tt nothing_waits refl (inl refl)
          (inl (steps.after_number self))),
      to_reply,
    ),
  )

  pub is_replica : IsReplica c 0 primary_history
  is_replica = inl (done c batch, proceeds)
