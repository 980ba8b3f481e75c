-- A backup of the first operation is a right replica: once for the three, over the order in which it receives the
-- others.
use Rattle.std.proofs.Common.{◌≡◌, ◌≢◌, ℕ, ◌<◌, inl, inr, Bool, true, false, not, ◌||◌, List, [], ◌∷◌, refl, sym, ap, ◌∙◌, Some, eq-eqb}
use Rattle.std.specs.Prelude.{◌==◌}
use Rattle.std.specs.List.{list_any, range_with_len}
use Rattle.std.proofs.lemmas.Bool.{both_ways}
use Rattle.sha2.specs.Sha256.{sha256}
use Rattle.tuple_codec.specs.Operations.{Operation}
use Rattle.protocol.specs.System.Configuration.{Configuration, IsConfiguration, members}
use Rattle.terms.specs.declared.order.Mode.TheVariants as modes
use Rattle.wire_format.specs.Messages.{prepare as Prepare}
use Rattle.signing.specs.AuthenticBody.{authentic}
use Rattle.protocol.specs.System.Trace.{Entry}
use Rattle.protocol.specs.System.Trace.Entry.{Got, Executed, Sent}
use Rattle.protocol.specs.Replica.Certificates.{are_genuine, batch_from, Committed}
use Rattle.protocol.specs.Replica.RightReplica.{Point, first_point, others, MaySend, IsStep}
use Rattle.protocol.specs.Replica.Owed.{HistoryIsPrompt, IsReplica}
use Rattle.evidence.specs.Examples.{four}
use Rattle.evidence.specs.FirstOperation.{FirstFrames, AreFirstFrames}
use Rattle.evidence.proofs.FirstReplicasStages.{none, and_of, Stage, first_stage, got, sent, gives, batch_given, stage_request, stage_pre_prepare, stage_prepare}
use Rattle.evidence.proofs.FirstReplicasOwing.{ready, full, Due, committed_full}
use Rattle.evidence.proofs.FirstReplicasSteps as steps
use Rattle.evidence.proofs.FirstReplicasSteps.{Part, is_among, gets_from, asks, proposes, prepares, commits, waits, ran, done}
use Rattle.evidence.proofs.FirstReplicasEvents as events
use Rattle.evidence.proofs.FirstReplicasEvents.{IsSender}

-- The backup receives prepares of a and b, and commits of d, e and f, in this order.
pub record IsOrder (me a b d e f : ℕ) : Type 0 where
  pub member : list_any (λ r. r == me) (range_with_len 0 4) ≡ true
  pub within : me < 4
  pub backup : not (me == 0) ≡ true
  pub gets : gets_from 0 me ≡ true
  pub backup_a : not (a == 0) ≡ true
  pub backup_b : not (b == 0) ≡ true
  pub sender_a : IsSender me a
  pub sender_b : IsSender me b
  pub sender_d : IsSender me d
  pub sender_e : IsSender me e
  pub sender_f : IsSender me f
  -- how many prepares and commits make a batch prepared and committed
  pub one_prepare : ready true (and_of none me) ≡ false
  pub two_prepares : ready true (and_of (and_of none me) a) ≡ true
  pub three_prepares : ready true (and_of (and_of (and_of none me) a) b) ≡ true
  pub one_commit : full (and_of none me) ≡ false
  pub two_commits : full (and_of (and_of none me) d) ≡ false
  pub three_commits : full (and_of (and_of (and_of none me) d) e) ≡ true
  pub four_commits : full (and_of (and_of (and_of (and_of none me) d) e) f) ≡ true
  pub own_commit : and_of (and_of (and_of none me) d) e me ≡ true
  pub new_prepare : and_of none me a ≡ false
  pub new_commit : and_of (and_of none me) d e ≡ false

module _ (clients : ℕ) (seed : List ℕ) (op : Operation) (batch : List ℕ) (w : FirstFrames) (setting : IsConfiguration (four clients seed)) (x : AreFirstFrames (four clients seed) op batch w)
    (me a b d e f : ℕ) (order : IsOrder me a b d e f) where
  abbrev c : Configuration
  c = four clients seed

  abbrev pub self : Part
  self = record { clients = clients; seed = seed; op = op; batch = batch; frames = w; setting = setting; are_frames = x; me = me; member = order.member; within = order.within }

  -- ---- the history, as it grows

  abbrev h1 : List Entry
  h1 = Got me w.request ∷ []

  abbrev h2 : List Entry
  h2 = Got me w.pre_prepare ∷ h1

  abbrev h3 : List Entry
  h3 = Sent me (w.prepare me) ∷ h2

  abbrev h4 : List Entry
  h4 = Got me (w.prepare a) ∷ h3

  abbrev h5 : List Entry
  h5 = Sent me (w.commit me) ∷ h4

  abbrev h6 : List Entry
  h6 = Got me (w.prepare b) ∷ h5

  abbrev h7 : List Entry
  h7 = Got me (w.commit d) ∷ h6

  abbrev h8 : List Entry
  h8 = Got me (w.commit e) ∷ h7

  abbrev h10 : List Entry
  h10 = Sent me (w.reply me) ∷ Executed me 1 batch ∷ h8

  abbrev pub backup_history : List Entry
  backup_history = Got me (w.commit f) ∷ h10

  -- ---- who prepared and who committed

  abbrev p1 : ℕ → Bool
  p1 = and_of none me

  abbrev p2 : ℕ → Bool
  p2 = and_of p1 a

  abbrev p3 : ℕ → Bool
  p3 = and_of p2 b

  abbrev k1 : ℕ → Bool
  k1 = and_of none me

  abbrev k2 : ℕ → Bool
  k2 = and_of k1 d

  abbrev k3 : ℕ → Bool
  k3 = and_of k2 e

  abbrev k4 : ℕ → Bool
  k4 = and_of k3 f

  hears_request : authentic (members c me) me w.request ≡ Some (asks op)
  hears_request = steps.hears_request self

  genuine : are_genuine c me batch ≡ true
  genuine = steps.genuine self

  hears_proposal : authentic (members c me) me w.pre_prepare ≡ Some (proposes batch)
  hears_proposal = x.proposes.is_authentic_to me (is_among me (others c 0) order.gets)

  -- ---- the certificates

  abbrev At : List Entry → Bool → (ℕ → Bool) → (ℕ → Bool) → Type 0
  At past l p k = Stage clients seed batch me past l p k

  s0 : At [] false none none
  s0 = first_stage clients seed batch me

  s1 : At h1 false none none
  s1 = stage_request clients seed batch me [] (Got me w.request) 256 1 modes.Ordered op false none none s0 (got clients seed batch me [] w.request (asks op) tt hears_request tt)

  s2 : At h2 true none none
  s2 = stage_pre_prepare clients seed batch me h1 (Got me w.pre_prepare) none none genuine s1 (got clients seed batch me h1 w.pre_prepare (proposes batch) s1.plain hears_proposal tt)

  s3 : At h3 true p1 none
  s3 = stage_prepare clients seed batch me h2 (Sent me (w.prepare me)) me true none none order.backup s2 (sent clients seed batch me h2 (w.prepare me) (prepares batch me) (x.prepares me order.within).says tt)

  s4 : At h4 true p2 none
  s4 = events.behind_prepare self h3 a p1 none order.sender_a order.backup_a s3

  s5 : At h5 true p2 k1
  s5 = events.behind_own_commit self h4 p2 none s4

  s6 : At h6 true p3 k1
  s6 = events.behind_prepare self h5 b p2 k1 order.sender_b order.backup_b s5

  s7 : At h7 true p3 k2
  s7 = events.behind_commit self h6 d p3 k1 order.sender_d s6

  s8 : At h8 true p3 k3
  s8 = events.behind_commit self h7 e p3 k2 order.sender_e s7

  s10 : At h10 true p3 k3
  s10 = events.behind_reply self h8 p3 k3 s8

  pub behind : At backup_history true p3 k4
  behind = events.behind_commit self h10 f p3 k3 order.sender_f s10

  pub is_committed : Committed c me backup_history 0 1 batch
  is_committed = committed_full clients seed batch me backup_history true p3 k4 behind order.three_prepares order.four_commits (ap (λ (y : Bool). y || (me == f)) order.own_commit)

  -- ---- the request and the proposal

  not_primary : me ≢ 0
  not_primary own = let bad : not true ≡ true = ap not (sym (eq-eqb me 0 own)) ∙ order.backup in absurd (let worse : false ≡ true = bad in cc)

  step_request : IsStep c me [] first_point (Got me w.request) (waits op)
  step_request = record { own = refl; may = tt; moves = steps.moves_request self }

  may_prepare : MaySend c me h2 (waits op) (Sent me (w.prepare me)) (w.prepare me)
  may_prepare =
      steps.may_send self h2 (waits op) (w.prepare me) (Prepare 0 1 (sha256 batch)) (others c me) (x.prepares me order.within) (λ rs is. is) tt
      (record { is_backup = λ zero. not_primary (sym zero); active = events.active self h2 s2.plain; batch = batch; is_logged = s2.logged_is 0 1; digest_is = refl }) (λ here. here)

  due_request : Due clients seed batch me [] w.request [] h1 first_point (waits op) false false none none none
  due_request = record {
    body = asks op;
    receives = hears_request;
    unanswered = (refl, refl, refl);
    numbers = λ own call waiting. absurd (not_primary own);
    numbers_once = tt;
    prepares = λ was is other. absurd (both_ways false refl is);
    commits = λ was is. absurd (both_ways false refl is);
    executes = inr refl;
    replies = λ y has. absurd has;
    checkpoints = λ n has. absurd has;
    dropped = λ drops. refl;
  }

  due_prepare : Due clients seed batch me h1 w.pre_prepare (Sent me (w.prepare me) ∷ []) h3 (waits op) (waits op) false true none p1 none
  due_prepare = record {
    body = proposes batch;
    receives = hears_proposal;
    unanswered = tt;
    numbers = λ own call waiting. absurd (not_primary own);
    numbers_once = (events.no_pre_prepare self h2 (w.prepare me) (prepares batch me) (x.prepares me order.within).says tt, tt);
    prepares = λ was is other. inl (x.prepares me order.within).says;
    commits = λ was is. absurd (both_ways (ready true p1) order.one_prepare is);
    executes = inr refl;
    replies = λ y has. absurd has;
    checkpoints = λ n has. absurd (events.none_executed self (w.prepare me) n has);
    dropped = λ drops.
        absurd (drops (proposes batch) hears_proposal (
          gives clients seed batch me h1 (Got me w.pre_prepare) (proposes batch) (got clients seed batch me h1 w.pre_prepare (proposes batch) s1.plain hears_proposal tt)
              0 1 (batch_from c me 0 1) true batch (batch_given clients seed batch me genuine 0 1),
          s1.logged_is 0 1,
        ));
  }

  -- ---- the whole, event by event

  no_numbers : (now : List Entry) (new : Point) → events.Numbers self now new
  no_numbers now new own call waiting = absurd (not_primary own)

  to_request : HistoryIsPrompt c me h1 [] (waits op) (waits op)
  to_request = (first_point, step_request, (events.owing self [] w.request [] h1 first_point (waits op) false false none none none none s0 s1 due_request, (refl, refl)))

  to_prepare : HistoryIsPrompt c me h3 [] (waits op) (waits op)
  to_prepare = (
    waits op,
    record { own = refl; may = may_prepare; moves = refl },
    (
      waits op,
      events.step_quiet self h1 w.pre_prepare (proposes batch) hears_proposal refl,
      (events.owing self h1 w.pre_prepare (Sent me (w.prepare me) ∷ []) h3 (waits op) (waits op) false true none p1 none none s1 s3 due_prepare, to_request),
    ),
  )

  to_commit : HistoryIsPrompt c me h5 [] (waits op) (waits op)
  to_commit = (
    waits op,
    events.step_commit self h4 p2 none s4 order.two_prepares (λ here. here),
    (
      waits op,
      events.step_quiet self h3 (w.prepare a) (prepares batch a) (events.hears_prepare self a order.sender_a) refl,
      (
        events.owing self h3 (w.prepare a) (Sent me (w.commit me) ∷ []) h5 (waits op) (waits op) true true p1 p2 none k1 s3 s5
            (events.due_commit self h3 h5 a p1 none k1 order.sender_a order.backup_a s3 order.new_prepare order.one_commit (no_numbers h5 (waits op))),
        to_prepare,
      ),
    ),
  )

  to_second : HistoryIsPrompt c me h6 [] (waits op) (waits op)
  to_second = (
    waits op,
    events.step_quiet self h5 (w.prepare b) (prepares batch b) (events.hears_prepare self b order.sender_b) refl,
    (
      events.owing self h5 (w.prepare b) [] h6 (waits op) (waits op) true true p2 p3 k1 k1 s5 s6
          (events.due_nothing self h5 h6 (w.prepare b) (prepares batch b) (waits op) (waits op) p2 p3 k1 (events.hears_prepare self b order.sender_b) tt (no_numbers h6 (waits op)) refl (inl order.two_prepares) (inr order.one_commit)),
      to_commit,
    ),
  )

  to_commits : HistoryIsPrompt c me h7 [] (waits op) (waits op)
  to_commits = (
    waits op,
    events.step_quiet self h6 (w.commit d) (commits batch d) (events.hears_commit self d order.sender_d) refl,
    (
      events.owing self h6 (w.commit d) [] h7 (waits op) (waits op) true true p3 p3 k1 k2 s6 s7
          (events.due_nothing self h6 h7 (w.commit d) (commits batch d) (waits op) (waits op) p3 p3 k2 (events.hears_commit self d order.sender_d) tt (no_numbers h7 (waits op)) refl (inl order.three_prepares) (inr order.two_commits)),
      to_second,
    ),
  )

  to_reply : HistoryIsPrompt c me h10 [] (ran c op batch) (ran c op batch)
  to_reply = (
    ran c op batch,
    events.step_reply self (Executed me 1 batch ∷ h8) (events.behind_execution self h8 (λ here. here)),
    (
      waits op,
      events.step_executed self h8 p3 k3 s8 order.three_prepares order.three_commits order.own_commit,
      (
        waits op,
        events.step_quiet self h7 (w.commit e) (commits batch e) (events.hears_commit self e order.sender_e) refl,
        (
          events.owing self h7 (w.commit e) (Executed me 1 batch ∷ Sent me (w.reply me) ∷ []) h10 (waits op) (ran c op batch) true true p3 p3 k2 k3 s7 s10
              (events.due_execution self h7 h10 e p3 k2 k3 order.sender_e s7 order.three_prepares order.new_commit),
          to_commits,
        ),
      ),
    ),
  )

  pub proceeds : HistoryIsPrompt c me backup_history [] (done c batch) (done c batch)
  proceeds = (
    ran c op batch,
    events.step_last self h10 f order.sender_f,
    (
      events.owing self h10 (w.commit f) [] backup_history (ran c op batch) (done c batch) true true p3 p3 k3 k4 s10 behind
          (events.due_nothing self h10 backup_history (w.commit f) (commits batch f) (ran c op batch) (done c batch) p3 p3 k4 (events.hears_commit self f order.sender_f) tt (no_numbers backup_history (done c batch)) refl (inl order.three_prepares)
          (inl (steps.after_number self))),
      to_reply,
    ),
  )

  pub is_replica : IsReplica c me backup_history
  is_replica = inl (done c batch, proceeds)
