-- What a replica owes at a view change or a new view that it gets in the beginning, and what an entry leaves alone.
use Rattle.std.proofs.Common.{◌≡◌, ◌≢◌, ℕ, ◌+◌, ◌≤◌, inl, true, false, List, [], ◌∷◌, refl, sym, ap, ◌∙◌, subst, arith, Option, Some, None}
use Rattle.std.specs.Prelude.{option_and_then, ⊤}
use Rattle.std.specs.Option.{option_map_or}
use Rattle.sha2.specs.Sha256.{sha256}
use Rattle.quorum.specs.Votes.{or_else}
use Rattle.quorum.proofs.Counting.{count_none}
use Rattle.protocol.specs.System.Configuration.{Configuration, primary, members}
use Rattle.terms.specs.declared.order.Mode.TheVariants as modes
use Rattle.terms.specs.declared.state.Level.TheVariants as levels
use Rattle.wire_format.specs.Messages.{BodyData as Body, MessageData as Message, NewViewData, CheckpointEntryData as CheckpointEntry, request as Request, prepare as Prepare, view_change as ViewChange, new_view as NewView, fetch as Fetch, meta as Meta, page as Page}
use Rattle.wire.proofs.Skipping.{none_chosen}
use Rattle.signing.specs.AuthenticBody.{authentic}
use Rattle.protocol.specs.System.Trace.{Entry, Has}
use Rattle.protocol.specs.System.Trace.Entry.{Got}
use Rattle.protocol.specs.Replica.Selection.{is_quorum}
use Rattle.protocol.specs.Replica.Certificates.{brought, target, taken, is_active_in, is_in_marks, low, counts_at, logged, proposal, assigned_proposal, entry_proposal, assigned_batch, batch_from, checkpoints_of, with_checkpoint, checkpoint_from, checkpoint_in, lists_checkpoint, count_checkpoints, Prepared}
use Rattle.protocol.specs.Replica.State.{Call, opening, call_in}
use Rattle.protocol.specs.Replica.RightReplica.{Point, first_point, waiting_after, with_waiting, Executes}
use Rattle.protocol.specs.Replica.Owed.{SendsMessage, AtOutputs, NumbersOnce, HasToMove, CanBeginView, IsDropped, Owes}
use Rattle.evidence.specs.Examples.{four}
use Rattle.protocol.proofs.Words.Options.{some_injective, or_else_alone}
use Rattle.protocol.proofs.Words.Starts.{starts_low}

-- messages of a view change
abbrev pub IsOfChange : Message → Type 0
IsOfChange message = elim message [ ViewChange vc ↦ ⊤ | NewView new ↦ ⊤ | _ ↦ ⊥ ]

-- those, and the prepares that follow
abbrev pub IsNoProposal : Message → Type 0
IsNoProposal message = elim message [ ViewChange vc ↦ ⊤ | NewView new ↦ ⊤ | Prepare v i digest ↦ ⊤ | _ ↦ ⊥ ]

-- ---- what an entry leaves alone

log_next : (c : Configuration) (me : ℕ) (past : List Entry) (e : Entry) (v i : ℕ) → logged c me (e ∷ past) v i ≡ or_else (logged c me past v i) (proposal c me past e v i)
unfolding logged
log_next c me past e v i = refl

checkpoints_next : (c : Configuration) (past : List Entry) (e : Entry) (s : ℕ) → checkpoints_of c (e ∷ past) s ≡ with_checkpoint s (checkpoint_in c e) (checkpoints_of c past s)
unfolding checkpoints_of
checkpoints_next c past e s = refl

pub none_logged : (c : Configuration) (me v i : ℕ) → logged c me [] v i ≡ None
unfolding logged
none_logged c me v i = refl

no_batch : (c : Configuration) (me v i sender : ℕ) (message : Message) → IsNoProposal message → batch_from c me v i (record { sender = sender; message = message }) ≡ None
no_batch c me v i sender (ViewChange vc) h = refl
no_batch c me v i sender (NewView new) h = refl
no_batch c me v i sender (Prepare w k digest) h = refl
no_batch c me v i sender _ h = absurd h

no_checkpoint : (sender : ℕ) (message : Message) → IsNoProposal message → checkpoint_from (record { sender = sender; message = message }) ≡ None
no_checkpoint sender (ViewChange vc) h = refl
no_checkpoint sender (NewView new) h = refl
no_checkpoint sender (Prepare w k digest) h = refl
no_checkpoint sender _ h = absurd h

-- a message other than a checkpoint brings no checkpoint
pub brings_no_checkpoint : (c : Configuration) (e : Entry) (body : Body) → brought c e ≡ Some body → IsNoProposal body.message → checkpoint_in c e ≡ None
brings_no_checkpoint c e body is h = ap (option_and_then checkpoint_from) is ∙ no_checkpoint body.sender body.message h

pub same_checkpoints : (c : Configuration) (past : List Entry) (e : Entry) (body : Body) → brought c e ≡ Some body → IsNoProposal body.message → (s : ℕ) → checkpoints_of c (e ∷ past) s ≡ checkpoints_of c past s
same_checkpoints c past e body is h s =
    checkpoints_next c past e s ∙ ap (λ (o : Option (ℕ × CheckpointEntry)). with_checkpoint s o (checkpoints_of c past s)) (brings_no_checkpoint c e body is h)

-- a message other than a pre-prepare logs at most the batches that a new view begins with
entry_none : (c : Configuration) (me : ℕ) (past : List Entry) (e : Entry) (body : Body) → brought c e ≡ Some body → IsNoProposal body.message → (v i : ℕ) → entry_proposal c me past e v i ≡ None
entry_none c me past e body is h v i =
    none_chosen (counts_at c me past e v i) (option_and_then (batch_from c me v i) (brought c e)) (ap (option_and_then (batch_from c me v i)) is ∙ no_batch c me v i body.sender body.message h)

pub logs_assigned : (c : Configuration) (me : ℕ) (past : List Entry) (e : Entry) (body : Body) → brought c e ≡ Some body → IsNoProposal body.message → (v i : ℕ)
    → logged c me (e ∷ past) v i ≡ or_else (logged c me past v i) (assigned_proposal c me past e v i)
logs_assigned c me past e body is h v i =
    log_next c me past e v i
    ∙ ap (or_else (logged c me past v i)) (ap (or_else (assigned_proposal c me past e v i)) (entry_none c me past e body is h v i) ∙ or_else_alone (assigned_proposal c me past e v i) None refl)

-- such a message logs nothing if the replica takes no new view
pub logs_nothing : (c : Configuration) (me : ℕ) (past : List Entry) (e : Entry) (body : Body) → brought c e ≡ Some body → IsNoProposal body.message → taken c past e ≡ None → (v i : ℕ)
    → logged c me (e ∷ past) v i ≡ logged c me past v i
logs_nothing c me past e body is h none v i =
    logs_assigned c me past e body is h v i
    ∙ or_else_alone (logged c me past v i) (assigned_proposal c me past e v i)
    (none_chosen (is_in_marks c (low c me (e ∷ past)) i) (option_and_then (assigned_batch v i) (taken c past e)) (ap (option_and_then (assigned_batch v i)) none))

-- ---- the points

no_call : (c : Configuration) (sender : ℕ) (message : Message) → IsOfChange message → call_in c (record { sender = sender; message = message }) ≡ None
no_call c sender (ViewChange vc) h = refl
no_call c sender (NewView new) h = refl
no_call c sender _ h = absurd h

-- no request waits after a message of a view change
pub moves_nothing : (c : Configuration) (me : ℕ) (bytes : List ℕ) (body : Body) → authentic (members c me) me bytes ≡ Some body → IsOfChange body.message
    → first_point ≡ record first_point { ran = []; waiting = waiting_after c me first_point bytes }
moves_nothing c me bytes body receives is =
    ap (λ (calls : List Call). let p : Point = record first_point { waiting = calls } in p)
    (sym (ap (λ (o : Option Body). option_map_or (with_waiting opening []) (option_and_then (call_in c) o) []) receives
    ∙ ap (λ (o : Option Call). option_map_or (with_waiting opening []) o []) (no_call c body.sender body.message is)))

-- ---- what the replica owes

-- The proof obligations of an event in which the replica executes nothing and keeps its first point.
pub record Due (c : Configuration) (me : ℕ) (before : List Entry) (bytes : List ℕ) (outputs now : List Entry) : Type 0 where
  pub body : Body
  pub receives : authentic (members c me) me bytes ≡ Some body
  pub of_change : IsOfChange body.message
  pub checkpoints_are : (s : ℕ) → checkpoints_of c now s ≡ []
  pub low_is : low c me now ≡ 0
  pub unprepared : (v i : ℕ) (batch : List ℕ) → Prepared c me now v i batch → ⊥
  pub numbers_once : AtOutputs (NumbersOnce c me) (Got me bytes ∷ before) outputs
  pub prepares : (v i : ℕ) (batch : List ℕ) → logged c me before v i ≡ None → logged c me now v i ≡ Some batch → is_active_in c now v ≡ true → primary c v ≢ me
      → SendsMessage me (Prepare v i (sha256 batch)) outputs
  pub none_executed : (k : ℕ) → Has (λ e. Executes k [] e) outputs → ⊥
  pub view_changes : (v : ℕ) → HasToMove c me before (Got me bytes) [] v → v ≤ target now
  pub no_view : (new : NewViewData) → CanBeginView c me now new → ⊥
  pub dropped : IsDropped c me before first_point bytes → outputs ≡ []

module _ (clients : ℕ) (seed : List ℕ) (me : ℕ) where
  abbrev c : Configuration
  c = four clients seed

  no_quorum : (past : List Entry) → ((s : ℕ) → checkpoints_of c past s ≡ []) → (checkpoint : CheckpointEntry) → is_quorum c (count_checkpoints c past checkpoint) ≡ true → ⊥
  no_quorum past none checkpoint h =
      let zero : count_checkpoints c past checkpoint ≡ 0 = count_none (λ s. lists_checkpoint checkpoint (checkpoints_of c past s)) 4 (λ s. ap (lists_checkpoint checkpoint) (none s)) in
      absurd (let worse : false ≡ true = subst (λ (n : ℕ). is_quorum c n ≡ true) zero h in cc)

  pub owes : (before : List Entry) (bytes : List ℕ) (outputs now : List Entry) → Due c me before bytes outputs now → Owes c me before (Got me bytes) outputs now first_point first_point
  owes before bytes outputs now due = record {
    numbers = λ v i call active is_primary waits free. absurd waits;
    numbers_once = due.numbers_once;
    prepares = due.prepares;
    commits = λ v i b none some active. absurd (due.unprepared v i b some);
    executes = λ v b h. due.unprepared v 1 b h.prepared;
    replies = λ ran h. absurd h;
    checkpoints = λ k h multiple. absurd (due.none_executed k h);
    again = λ k t op kept asks there same. absurd (only (record { sender = 256 + k; message = Request t modes.Ordered op }) asks);
    says_again = λ r. absurd r.1;
    reads = λ s t op asks is. absurd (only (record { sender = s; message = Request t modes.ReadOnly op }) asks);
    fetched_digests = λ s k index level children asks st kept. absurd (only (record { sender = s; message = Fetch k level index }) asks);
    fetched_page = λ s k index asks st kept. absurd (only (record { sender = s; message = Fetch k levels.Page index }) asks);
    goes_on_by_digests = λ s n index level digests brings awaited. absurd (only (record { sender = s; message = Meta n level index digests }) brings);
    goes_on_by_page = λ s n index text brings awaited. absurd (only (record { sender = s; message = Page n index text }) brings);
    fetches = λ k root quorum above newer. absurd (no_quorum now due.checkpoints_are (record { number = k; digest = root }) quorum);
    fetches_start = λ k starts above newer. absurd (let most = starts_low c me k now starts in let low = due.low_is in omega (arith, most, low, above));
    fetches_again = λ k index level tick asked above. absurd tick;
    view_changes = λ vc other moves may within says. inl (due.view_changes vc.view moves);
    new_views = λ new can. absurd (due.no_view new can);
    dropped = λ other is drops. due.dropped (subst (λ (bs : List ℕ). IsDropped c me before first_point bs) (sym (same_bytes other is)) drops);
  }
    where
      -- the message that the replica receives is of a view change
      only : (other : Body) → authentic (members c me) me bytes ≡ Some other → IsOfChange other.message
      only other asks = subst (λ (b : Body). IsOfChange b.message) (some_injective due.body other (sym due.receives ∙ asks)) due.of_change

      same_bytes : (other : List ℕ) → Got me bytes ≡ Got me other → bytes ≡ other
      same_bytes other is = cc
