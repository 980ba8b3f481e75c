-- The definitions accept a replica that answers a fetch in the beginning.
use Rattle.std.proofs.Common.{◌≡◌, ℕ, ◌+◌, Bool, true, false, ◌⊎◌, inl, inr, List, [], ◌∷◌, refl, sym, ap, ◌∙◌, subst, arith, Option, Some}
use Rattle.std.specs.Prelude.{option_and_then}
use Rattle.std.specs.Option.{option_map_or}
use Rattle.protocol.specs.System.Configuration.{Configuration, members}
use Rattle.terms.specs.declared.order.Mode.TheVariants as modes
use Rattle.terms.specs.declared.state.Level.{Level}
use Rattle.terms.specs.declared.state.Level.TheVariants as levels
use Rattle.wire_format.specs.Messages.{BodyData as Body, FrameData as Frame, AuthenticatorData as Authenticator, CheckpointEntryData as CheckpointEntry, macs, signature, request as Request, pre_prepare as PrePrepare, fetch as Fetch, meta as Meta, page as Page, view_change as ViewChange}
use Rattle.signing.specs.AuthenticBody.{authentic}
use Rattle.wire_format.specs.Words.{receivers_of, frame_of}
use Rattle.protocol.specs.System.Trace.{Entry, Has}
use Rattle.protocol.specs.System.Trace.Entry.{Got, Sent}
use Rattle.protocol.specs.Replica.Certificates.{low, lists_checkpoint, checkpoints_of, count_checkpoints}
use Rattle.protocol.specs.Replica.Selection.{is_quorum}
use Rattle.protocol.specs.Replica.State.{State, Call, opening, call_in}
use Rattle.protocol.specs.Replica.RightReplica.{Point, first_point, with_waiting, waiting_after, Executes, IsAddressed, IsStep, MaySend, KeptState, kept_states, digests_at}
use Rattle.protocol.specs.Replica.Owed.{Owes, IsReplica, SendsMessageTo}
use Rattle.evidence.specs.Examples.{four}
use Rattle.evidence.specs.ExamplesOfAnswers.{IsAnswer, FirstFetchIsAnswered}
use Rattle.protocol.proofs.Words.Moving.{no_reason}
use Rattle.protocol.proofs.Words.Starts.{starts_low}
use Rattle.evidence.proofs.FirstBatch.{still}
use Rattle.protocol.proofs.Words.Options.{some_injective}
use Rattle.evidence.proofs.FirstReplicasStages.{none, Stage, first_stage, got, sent, stage_fetch, stage_meta}
use Rattle.evidence.proofs.FirstReplicasOwing.{logs_it, is_prepared}
use Rattle.evidence.proofs.RefusingMarksLow.{low_at_first}
use Rattle.quorum.proofs.Counting.{count_same}
use Rattle.protocol.proofs.Words.Outgoing.{unsigned_have_no_leaf}

module _ (clients : ℕ) (seed : List ℕ) (me other : ℕ) (fetch digests : List ℕ) where
  abbrev c : Configuration
  c = four clients seed

  abbrev asked : Body
  asked = record { sender = other; message = Fetch 0 levels.Root 0 }

  abbrev answer : Body
  answer = record { sender = me; message = Meta 0 levels.Root 0 (digests_at opening levels.Root 0) }

  abbrev now : List Entry
  now = Sent me digests ∷ Got me fetch ∷ []

  module _ (receives : authentic (members c me) me fetch ≡ Some asked) (frame : Frame) (spells : frame_of digests ≡ Some frame) (a : IsAnswer c me other answer.message digests) where
    behind : Stage clients seed [] me (Got me fetch ∷ []) false none none
    behind = stage_fetch clients seed [] me [] (Got me fetch) other 0 0 levels.Root false none none (first_stage clients seed [] me) (got clients seed [] me [] fetch asked tt receives tt)

    stage : Stage clients seed [] me now false none none
    stage = stage_meta clients seed [] me (Got me fetch ∷ []) (Sent me digests) me 0 0 levels.Root (digests_at opening levels.Root 0) false none none behind (sent clients seed [] me (Got me fetch ∷ []) digests answer a.says tt)

    no_quorum : (checkpoint : CheckpointEntry) → is_quorum c (count_checkpoints c now checkpoint) ≡ true → ⊥
    no_quorum checkpoint h =
        let same : count_checkpoints c now checkpoint ≡ 0 = count_same (λ s. lists_checkpoint checkpoint (checkpoints_of c now s)) (λ s. false) (λ s. ap (lists_checkpoint checkpoint) (stage.checkpoints_are s)) 4 in
        absurd (let worse : false ≡ true = subst (λ (n : ℕ). is_quorum c n ≡ true) same h in cc)

    -- the message that the replica receives is this fetch
    abbrev level_is : Level → Bool
    level_is level = elim level [ levels.Root ↦ true | _ ↦ false ]

    abbrev IsFetch : Body → Type 0
    IsFetch body = elim body.message [ Fetch k level index ↦ (body.sender ≡ other) × (k ≡ 0) × (level ≡ levels.Root) × (index ≡ 0) | _ ↦ ⊥ ]

    only_fetch : (body : Body) → authentic (members c me) me fetch ≡ Some body → IsFetch body
    only_fetch body h = subst IsFetch (some_injective asked body (sym receives ∙ h)) (refl, refl, refl, refl)

    same_bytes : (bytes : List ℕ) → Got me fetch ≡ Got me bytes → fetch ≡ bytes
    same_bytes bytes h = cc

    none_executed : (k : ℕ) → Has (λ e. Executes k [] e) (Sent me digests ∷ []) → ⊥
    none_executed k (inl h) = h
    none_executed k (inr h) = h

    kept_at : (past : List Entry) → low c me past ≡ 0 → (P : State → Type 0) → P opening → KeptState c me past first_point 0 P
    kept_at past is P p = subst (λ (n : ℕ). Has (λ st. (st.number ≡ 0) × P st) (kept_states n (opening ∷ []))) (sym is) (inl (refl, p))

    kept_is : (k : ℕ) (st : State) → KeptState c me [] first_point k (λ x. x ≡ st) → opening ≡ st
    kept_is k st h = go (subst (λ (n : ℕ). Has (λ x. (x.number ≡ k) × (x ≡ st)) (kept_states n (opening ∷ []))) (low_at_first c me) h)
      where
        go : ((opening.number ≡ k) × (opening ≡ st)) ⊎ ⊥ → opening ≡ st
        go (inl x) = x.1
        go (inr x) = absurd x

    gives : (s k index : ℕ) (level : Level) (st : State) → (s ≡ other) × (k ≡ 0) × (level ≡ levels.Root) × (index ≡ 0) → opening ≡ st
        → SendsMessageTo me s (Meta k level index (digests_at st level index)) (Sent me digests ∷ [])
    gives s k index level st is same =
        subst (λ (x : State). SendsMessageTo me s (Meta k level index (digests_at x level index)) (Sent me digests ∷ [])) same
        (subst (λ (x : ℕ). SendsMessageTo me x (Meta k level index (digests_at opening level index)) (Sent me digests ∷ [])) (sym is.0)
        (subst (λ (x : ℕ). SendsMessageTo me other (Meta x level index (digests_at opening level index)) (Sent me digests ∷ [])) (sym is.1)
        (subst (λ (x : Level). SendsMessageTo me other (Meta 0 x index (digests_at opening x index)) (Sent me digests ∷ [])) (sym is.2)
        (subst (λ (x : ℕ). SendsMessageTo me other (Meta 0 levels.Root x (digests_at opening levels.Root x)) (Sent me digests ∷ [])) (sym is.3)
        (inl (a.says, ap (λ (o : Option Frame). option_map_or (λ (f : Frame). receivers_of f.authenticator) o []) spells ∙ (a.is_sealed frame spells).1))))))

    root_page : levels.Page ≡ levels.Root → ⊥
    root_page h = let bad : false ≡ true = ap level_is h in absurd cc

    owes : Owes c me [] (Got me fetch) (Sent me digests ∷ []) now first_point first_point
    owes = record {
      numbers = λ v i call active is_primary waits free. absurd waits;
      numbers_once = (λ v i batch says none. absurd (let bad : answer ≡ record { sender = me; message = PrePrepare v i batch } = some_injective answer (record { sender = me; message = PrePrepare v i batch }) (sym a.says ∙ says) in cc), tt);
      prepares = λ v i b none some active backup. absurd (let it = logs_it clients seed [] me now false _ _ stage v i b some in let bad : false ≡ true = it.1 in cc);
      commits = λ v i b none some active. absurd (let it = is_prepared clients seed [] me now false _ _ stage v i b some in let bad : false ≡ true = it.1 in cc);
      executes = λ v b h. absurd (let it = is_prepared clients seed [] me now false _ _ stage v 1 b h.prepared in let bad : false ≡ true = it.1 in cc);
      replies = λ ran h. absurd h;
      checkpoints = λ k h multiple. absurd (none_executed k h);
      again = λ k t o kept asks there same. absurd (only_fetch (record { sender = 256 + k; message = Request t modes.Ordered o }) asks);
      says_again = λ r. absurd r.1;
      reads = λ s t o asks read_only. absurd (only_fetch (record { sender = s; message = Request t modes.ReadOnly o }) asks);
      fetched_digests = λ s k index level children asks st kept. gives s k index level st (only_fetch (record { sender = s; message = Fetch k level index }) asks) (kept_is k st kept);
      fetched_page = λ s k index asks st kept. absurd (root_page (only_fetch (record { sender = s; message = Fetch k levels.Page index }) asks).2);
      goes_on_by_digests = λ s n index level digests brings awaited. absurd (only_fetch (record { sender = s; message = Meta n level index digests }) brings);
      goes_on_by_page = λ s n index text brings awaited. absurd (only_fetch (record { sender = s; message = Page n index text }) brings);
      fetches = λ k root quorum above newer. absurd (no_quorum (record { number = k; digest = root }) quorum);
      fetches_start = λ n starts above newer. absurd (let most = starts_low c me n now starts in let low = (still c me now stage.plain).low_is in omega (arith, most, low, above));
      fetches_again = λ n index level tick asked_for above. absurd tick;
      view_changes = λ vc bytes moves may within says. absurd (no_reason c me [] fetch [] vc.view (λ s x asks. only_fetch (record { sender = s; message = ViewChange x }) asks) moves);
      new_views = λ new can. absurd (let left = can.left in let sent = (still c me now stage.plain).target_is in omega (arith, left, sent));
      dropped = λ bytes same drops. absurd (drops asked (subst (λ (bs : List ℕ). authentic (members c me) me bs ≡ Some asked) (same_bytes bytes same) receives) (kept_at [] (low_at_first c me) (λ st. Rattle.std.specs.Prelude.⊤) tt));
    }

    quiet : first_point ≡ record first_point { ran = []; waiting = waiting_after c me first_point fetch }
    quiet =
        ap (λ (calls : List Call). let p : Point = record first_point { waiting = calls } in p)
        (sym (ap (λ (o : Option Body). option_map_or (with_waiting opening []) (option_and_then (call_in c) o) []) receives))

    addressed : (authenticator : Authenticator) → receivers_of authenticator ≡ other ∷ [] → IsAddressed c me (Got me fetch ∷ []) answer.message authenticator
    addressed (macs entries) h = (other, h, inl receives)
    addressed (signature s) h = tt

    may : MaySend c me (Got me fetch ∷ []) first_point (Sent me digests) digests
    may = record {
      body = answer;
      says = a.says;
      own = refl;
      seen = tt;
      allowed = (kept_at (Got me fetch ∷ []) (still c me (Got me fetch ∷ []) behind.plain).low_is (λ st. digests_at opening levels.Root 0 ≡ digests_at st levels.Root 0) refl, (other, inl receives));
      is_sealed = λ f is. let s = a.is_sealed f is in (s.0, addressed f.authenticator s.1);
      leaf = unsigned_have_no_leaf (Got me fetch ∷ []) digests (answer) (a.says) refl;
      once = λ here. here;
    }

    sends : IsStep c me (Got me fetch ∷ []) first_point (Sent me digests) first_point
    sends = record { own = refl; may = may; moves = refl }

    is_right : IsReplica c me now
    is_right =
        inl (first_point, (first_point, sends, (first_point, record { own = refl; may = tt; moves = quiet }, (owes, (refl, refl)))))

pub first_fetch_is_answered : FirstFetchIsAnswered
first_fetch_is_answered clients seed me other fetch digests frame receives spells a = is_right clients seed me other fetch digests receives frame spells a
