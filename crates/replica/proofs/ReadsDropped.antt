-- Bytes with the marks of a read that are no read are dropped, and the replica owes nothing for them.
use Rattle.std.proofs.Common.{◌≡◌, ℕ, suc, ◌+◌, inl, inr, true, false, List, [], ◌∷◌, refl, sym, ap, ◌∙◌, subst, arith, Option, Some, None, is_some, ◌<◌}
use Rattle.std.specs.Option.{option_map_or}
use Rattle.std.specs.Prelude.{option_and_then}
use Rattle.tuple_codec.specs.Operations.{Operation}
use Rattle.space.specs.Applying.{is_read_only}
use Rattle.terms.specs.declared.order.Mode.TheVariants as modes
use Rattle.terms.specs.declared.state.Level.TheVariants as levels
use Rattle.wire_format.specs.Messages.{BodyData as Body, MessageData as Message, request as Request, fetch as Fetch, meta as Meta, page as Page, view_change as ViewChange}
use Rattle.wire_format.specs.Words.{said}
use Rattle.signing.specs.AuthenticBody.{authentic}
use Rattle.protocol.specs.System.Configuration.{Configuration, members}
use Rattle.protocol.specs.System.Trace.{Entry, Once, Has}
use Rattle.protocol.specs.System.Trace.Entry.{Got}
use Rattle.protocol.specs.Replica.Selection.{is_quorum}
use Rattle.protocol.specs.Replica.Certificates.{is_in_marks}
use Rattle.protocol.specs.Replica.State.{Call, call_in}
use Rattle.protocol.specs.Replica.RightReplica.{Point, with_waiting, waiting_after}
use Rattle.protocol.specs.Replica.Owed.{StartsAhead, Owes, HistoryIsPrompt, IsNumbered}
use Rattle.replica_histories.specs.Questions.{read_from, ordered_from}
use Rattle.replica_histories.specs.TransfersQuorums.{QuorumsFetched}
use Rattle.replica_histories.proofs.Resting.{Rests, rests}
use Rattle.replica.specs.Idle.{BringsNothing, CertifySame}
use Rattle.replica.specs.Reads.{is_read_request}
use Rattle.protocol.proofs.Words.Moving.{no_reason}
use Rattle.protocol.proofs.Words.Linking.{heard_said}
use Rattle.replica.proofs.IdleEntries.{got_idle, read_is_quiet}
use Rattle.replica.proofs.SameWords.{idle_same, active_same, count_checkpoints_same}
use Rattle.replica.proofs.PartsJoining.{prepared_same, committed_same, idle_starts, can_begin_idle, spent_on}

pub no_call : (c : Configuration) (s : ℕ) (m : Message) → is_read_request (record { sender = s; message = m }) ≡ true → call_in c (record { sender = s; message = m }) ≡ None
no_call c s (Request t modes.ReadOnly op) h = refl
no_call c s (Request t modes.Ordered op) h = absurd cc
no_call c s _ h = absurd cc

module _ (c : Configuration) (me : ℕ) (h : List Entry) (p : Point) (bytes : List ℕ) (proceeds : HistoryIsPrompt c me h [] p p) (fetched : QuorumsFetched c p.state.number h)
    (says : (body : Body) → said bytes ≡ Some body → is_read_request body ≡ true)
    (never : (client timestamp : ℕ) (op : Operation) → authentic (members c me) me bytes ≡ Some (read_from client timestamp op) → is_read_only op ≡ true → ⊥) where
  abbrev now : List Entry
  now = Got me bytes ∷ h

  reads : (body : Body) → authentic (members c me) me bytes ≡ Some body → is_read_request body ≡ true
  reads body is = says body (heard_said c me bytes body is)

  abbrev mid : Point
  mid = record p { ran = []; waiting = waiting_after c me p bytes }

  pub waits : waiting_after c me p bytes ≡ p.waiting
  waits = go (authentic (members c me) me bytes) reads
    where
      go : (o : Option Body) → ((body : Body) → o ≡ Some body → is_read_request body ≡ true) → option_map_or (with_waiting p.state p.waiting) (option_and_then (call_in c) o) p.waiting ≡ p.waiting
      go None r = refl
      go (Some body) r = ap (λ (x : Option Call). option_map_or (with_waiting p.state p.waiting) x p.waiting) (no_call c body.sender body.message (r body refl))

  pub got_quiet : BringsNothing c me (Got me bytes)
  got_quiet = got_idle c me me bytes (λ body is. read_is_quiet body.message body.sender (says body is))

  pub same : CertifySame c me h now
  same = idle_same c me (Got me bytes) got_quiet h

  rest : Rests c me h p
  rest = rests c me h p proceeds

  pub started : (k : ℕ) → Once (StartsAhead c k) now → Once (StartsAhead c k) h
  started k start = idle_starts c me k h (Got me bytes) got_quiet start

  numbered : (v a t : ℕ) → IsNumbered c me h v a t → IsNumbered c me now v a t
  numbered v a t (batch, (inl at), has) = (batch, inl (at.0, same.logged v at.0 ∙ at.1), has)
  numbered v a t (batch, (inr at), has) = (batch, inr (inr at), has)

  owes : Owes c me h (Got me bytes) [] now p mid
  owes = record {
    numbers = λ v i call active own wait free. numbered v call.client call.timestamp
        (rest.numbers v i call (sym (active_same c me (Got me bytes) h now same v) ∙ active) own (subst (λ (xs : List Call). Has (λ x. x ≡ call) xs) waits wait)
        (record {
          in_marks = subst (λ (n : ℕ). is_in_marks c n i ≡ true) same.low free.in_marks;
          near = free.near;
          used = λ j above below. ap is_some (sym (same.logged v j)) ∙ free.used j (subst (λ (n : ℕ). n < j) (sym same.low) above) below;
          unused = λ j above. sym (same.logged v j) ∙ free.unused j above;
        }));
    numbers_once = tt;
    prepares = λ v i batch none some active backup. let bad : None ≡ Some batch = sym none ∙ sym (same.logged v i) ∙ some in absurd cc;
    commits = λ v i batch none some active. absurd (none (prepared_same c me h now v i batch same some));
    executes = λ v batch k. rest.executes v batch (committed_same c me h now v (suc p.state.number) batch same k);
    replies = λ ran k. absurd k;
    checkpoints = λ k e multiple. absurd e;
    again = λ k t o kept other is at. let bad : false ≡ true = reads (record { sender = 256 + k; message = Request t modes.Ordered o }) other in absurd cc;
    says_again = λ waits. let bad : false ≡ true = reads (ordered_from waits.0) waits.2 in absurd cc;
    reads = λ a t o other is. absurd (never a t o other is);
    fetched_digests = λ s k index level is other st kept. let bad : false ≡ true = reads (record { sender = s; message = Fetch k level index }) other in absurd cc;
    fetched_page = λ s k index other st kept. let bad : false ≡ true = reads (record { sender = s; message = Fetch k levels.Page index }) other in absurd cc;
    goes_on_by_digests = λ s k index level digests other awaited. let bad : false ≡ true = reads (record { sender = s; message = Meta k level index digests }) other in absurd cc;
    goes_on_by_page = λ s k index text other awaited. let bad : false ≡ true = reads (record { sender = s; message = Page k index text }) other in absurd cc;
    fetches = λ k root q above later. let most = fetched k root (inl (subst (λ (n : ℕ). is_quorum c n ≡ true) (count_checkpoints_same c h now same.checkpoints (record { number = k; digest = root })) q)) above in absurd (omega (arith, most, later));
    fetches_start = λ k start above later. let most = fetched k [] (inr (started k start)) above in absurd (omega (arith, most, later));
    fetches_again = λ k index level tick asked above. absurd tick;
    new_views = λ other can. spent_on h (Got me bytes) (rest.new_views other (can_begin_idle c me h (Got me bytes) got_quiet same other can));
    view_changes = λ vc other moves may within said. absurd (no_reason c me h bytes p.waiting vc.view (λ s x asks. let bad : false ≡ true = reads (record { sender = s; message = ViewChange x }) asks in absurd cc) moves);
    dropped = λ other got drops. refl;
  }

  pub goes_on : HistoryIsPrompt c me now [] mid mid
  goes_on = (p, record { own = refl; may = tt; moves = refl }, (owes, proceeds))
