-- The definitions accept a replica that answers in the beginning.
use Rattle.std.proofs.Common.{◌≡◌, ℕ, ◌+◌, ◌-◌, true, false, inl, inr, List, [], ◌∷◌, refl, sym, ap, ◌∙◌, subst, arith, Option, Some}
use Rattle.std.specs.Prelude.{option_and_then}
use Rattle.std.specs.Option.{option_map_or}
use Rattle.tuple_codec.specs.Operations.{Operation}
use Rattle.space.specs.Applying.{no_tuples, outcome, is_read_only}
use Rattle.protocol.specs.System.Configuration.{Configuration, members}
use Rattle.terms.specs.declared.order.Mode.TheVariants as modes
use Rattle.terms.specs.declared.state.Level.TheVariants as levels
use Rattle.wire_format.specs.Messages.{BodyData as Body, MessageData as Message, AuthenticatorData as Authenticator, CheckpointEntryData as CheckpointEntry, macs, signature, request as Request, pre_prepare as PrePrepare, reply as Reply, fetch as Fetch, meta as Meta, page as Page, view_change as ViewChange}
use Rattle.signing.specs.AuthenticBody.{authentic}
use Rattle.wire_format.specs.Words.{receivers_of}
use Rattle.protocol.specs.System.Trace.{Entry, Has}
use Rattle.protocol.specs.System.Trace.Entry.{Got, Sent}
use Rattle.protocol.specs.Replica.Certificates.{lists_checkpoint, checkpoints_of, count_checkpoints}
use Rattle.protocol.specs.Replica.Selection.{is_quorum}
use Rattle.protocol.specs.Replica.State.{Call, opening, call_in}
use Rattle.protocol.specs.Replica.RightReplica.{Point, first_point, with_waiting, waiting_after, Executes, IsAddressed, IsStep, MaySend}
use Rattle.protocol.specs.Replica.Owed.{Owes, IsReplica}
use Rattle.evidence.specs.Examples.{four}
use Rattle.evidence.specs.ExamplesOfAnswers.{IsAnswer, FirstReadIsAnswered}
use Rattle.protocol.proofs.Words.Moving.{no_reason}
use Rattle.protocol.proofs.Words.Starts.{starts_low}
use Rattle.protocol.proofs.Words.Options.{some_injective}
use Rattle.evidence.proofs.FirstBatch.{still}
use Rattle.evidence.proofs.FirstReplicasStages.{none, Stage, first_stage, got, sent, stage_request, stage_reply}
use Rattle.evidence.proofs.FirstReplicasOwing.{logs_it, is_prepared}
use Rattle.quorum.proofs.Counting.{count_same}
use Rattle.protocol.proofs.Words.Outgoing.{unsigned_have_no_leaf}

module _ (clients : ℕ) (seed : List ℕ) (me client timestamp : ℕ) (op : Operation) (read reply : List ℕ) where
  abbrev c : Configuration
  c = four clients seed

  abbrev asked : Body
  asked = record { sender = client; message = Request timestamp modes.ReadOnly op }

  abbrev answer : Body
  answer = record { sender = me; message = Reply client timestamp modes.ReadOnly 0 (outcome no_tuples (client - 256) op) }

  abbrev now : List Entry
  now = Sent me reply ∷ Got me read ∷ []

  module _ (receives : authentic (members c me) me read ≡ Some asked) (is : is_read_only op ≡ true) (a : IsAnswer c me client answer.message reply) where
    behind : Stage clients seed [] me (Got me read ∷ []) false none none
    behind = stage_request clients seed [] me [] (Got me read) client timestamp modes.ReadOnly op false none none (first_stage clients seed [] me) (got clients seed [] me [] read asked tt receives tt)

    stage : Stage clients seed [] me now false none none
    stage = stage_reply clients seed [] me (Got me read ∷ []) (Sent me reply) me client timestamp 0 modes.ReadOnly (outcome no_tuples (client - 256) op) false none none behind (sent clients seed [] me (Got me read ∷ []) reply answer a.says tt)

    heard_is : (other : Body) → authentic (members c me) me read ≡ Some other → asked ≡ other
    heard_is other h = some_injective asked other (sym receives ∙ h)

    no_quorum : (checkpoint : CheckpointEntry) → is_quorum c (count_checkpoints c now checkpoint) ≡ true → ⊥
    no_quorum checkpoint h =
        let same : count_checkpoints c now checkpoint ≡ 0 = count_same (λ s. lists_checkpoint checkpoint (checkpoints_of c now s)) (λ s. false) (λ s. ap (lists_checkpoint checkpoint) (stage.checkpoints_are s)) 4 in
        absurd (let worse : false ≡ true = subst (λ (n : ℕ). is_quorum c n ≡ true) same h in cc)

    -- the message that the replica receives is a read
    abbrev IsRead : Body → Type 0
    IsRead body = elim body.message [ Request t mode o ↦ mode ≡ modes.ReadOnly | _ ↦ ⊥ ]

    only_read : (other : Body) → authentic (members c me) me read ≡ Some other → IsRead other
    only_read other h = subst IsRead (heard_is other h) refl

    same_bytes : (bytes : List ℕ) → Got me read ≡ Got me bytes → read ≡ bytes
    same_bytes bytes h = cc

    none_executed : (k : ℕ) → Has (λ e. Executes k [] e) (Sent me reply ∷ []) → ⊥
    none_executed k (inl h) = h
    none_executed k (inr h) = h

    -- the message that a read brings about
    abbrev answered : Body → Message
    answered body = elim body.message [ Request t mode o ↦ Reply body.sender t modes.ReadOnly 0 (outcome no_tuples (body.sender - 256) o) | _ ↦ body.message ]

    owes : Owes c me [] (Got me read) (Sent me reply ∷ []) now first_point first_point
    owes = record {
      numbers = λ v i call active is_primary waits free. absurd waits;
      numbers_once = (λ v i batch says none. absurd (let bad : answer ≡ record { sender = me; message = PrePrepare v i batch } = some_injective answer (record { sender = me; message = PrePrepare v i batch }) (sym a.says ∙ says) in cc), tt);
      prepares = λ v i b none some active backup. absurd (let it = logs_it clients seed [] me now false _ _ stage v i b some in let bad : false ≡ true = it.1 in cc);
      commits = λ v i b none some active. absurd (let it = is_prepared clients seed [] me now false _ _ stage v i b some in let bad : false ≡ true = it.1 in cc);
      executes = λ v b h. absurd (let it = is_prepared clients seed [] me now false _ _ stage v 1 b h.prepared in let bad : false ≡ true = it.1 in cc);
      replies = λ ran h. absurd h;
      checkpoints = λ k h multiple. absurd (none_executed k h);
      again = λ k t o kept asks there same. absurd (let bad : modes.Ordered ≡ modes.ReadOnly = only_read (record { sender = 256 + k; message = Request t modes.Ordered o }) asks in cc);
      says_again = λ r. absurd r.1;
      reads = λ s t o asks read_only. inl (a.says ∙ ap (λ (x : Body). let y : Body = record { sender = me; message = answered x } in Some y) (heard_is (record { sender = s; message = Request t modes.ReadOnly o }) asks));
      fetched_digests = λ s k index level children asks st kept. absurd (only_read (record { sender = s; message = Fetch k level index }) asks);
      fetched_page = λ s k index asks st kept. absurd (only_read (record { sender = s; message = Fetch k levels.Page index }) asks);
      goes_on_by_digests = λ s n index level digests brings awaited. absurd (only_read (record { sender = s; message = Meta n level index digests }) brings);
      goes_on_by_page = λ s n index text brings awaited. absurd (only_read (record { sender = s; message = Page n index text }) brings);
      fetches = λ k root quorum above newer. absurd (no_quorum (record { number = k; digest = root }) quorum);
      fetches_start = λ n starts above newer. absurd (let most = starts_low c me n now starts in let low = (still c me now stage.plain).low_is in omega (arith, most, low, above));
      fetches_again = λ n index level tick asked_for above. absurd tick;
      view_changes = λ vc bytes moves may within says. absurd (no_reason c me [] read [] vc.view (λ s x asks. only_read (record { sender = s; message = ViewChange x }) asks) moves);
      new_views = λ new can. absurd (let left = can.left in let sent = (still c me now stage.plain).target_is in omega (arith, left, sent));
      dropped = λ bytes same drops. absurd (drops asked (subst (λ (bs : List ℕ). authentic (members c me) me bs ≡ Some asked) (same_bytes bytes same) receives) is);
    }

    quiet : first_point ≡ record first_point { ran = []; waiting = waiting_after c me first_point read }
    quiet =
        ap (λ (calls : List Call). let p : Point = record first_point { waiting = calls } in p)
        (sym (ap (λ (o : Option Body). option_map_or (with_waiting opening []) (option_and_then (call_in c) o) []) receives))

    addressed : (authenticator : Authenticator) → receivers_of authenticator ≡ client ∷ [] → IsAddressed c me (Got me read ∷ []) answer.message authenticator
    addressed (macs entries) h = h
    addressed (signature s) h = tt

    may : MaySend c me (Got me read ∷ []) first_point (Sent me reply) reply
    may = record {
      body = answer;
      says = a.says;
      own = refl;
      seen = tt;
      allowed = record { op = op; is_read = is; authentic = inl receives; answer_is = refl; number_is = refl };
      is_sealed = λ frame spells. let s = a.is_sealed frame spells in (s.0, addressed frame.authenticator s.1);
      leaf = unsigned_have_no_leaf (Got me read ∷ []) reply (answer) (a.says) refl;
      once = λ here. here;
    }

    sends : IsStep c me (Got me read ∷ []) first_point (Sent me reply) first_point
    sends = record { own = refl; may = may; moves = refl }

    is_right : IsReplica c me now
    is_right =
        inl (first_point, (first_point, sends, (first_point, record { own = refl; may = tt; moves = quiet }, (owes, (refl, refl)))))

pub first_read_is_answered : FirstReadIsAnswered
first_read_is_answered clients seed me client timestamp op read reply receives is a = is_right clients seed me client timestamp op read reply receives is a
