-- A read beside ordering keeps what the desk holds; no orderer is mentioned.
use Rattle.std.proofs.Common.{◌≡◌, ℕ, suc, ◌+◌, ◌-◌, ◌≤◌, inl, inr, true, false, List, [], ◌∷◌, map, refl, sym, ap, ◌∙◌, subst, arith, Option, Some, None, is_some, ◌<◌}
use Rattle.std.proofs.lemmas.Option.{none-some}
use Rattle.std.specs.Option.{option_map_or}
use Rattle.std.specs.Prelude.{option_and_then}
use Rattle.tuple_codec.specs.Operations.{Operation, Outcome}
use Rattle.space.specs.Applying.{outcome, is_read_only}
use Rattle.terms.specs.declared.order.Mode.TheVariants as modes
use Rattle.terms.specs.declared.state.Level.TheVariants as levels
use Rattle.wire_format.specs.Messages.{BodyData as Body, AuthenticatorData, macs, signature, request as Request, pre_prepare as PrePrepare, reply as Reply, fetch as Fetch, meta as Meta, page as Page, view_change as ViewChange}
use Rattle.wire_format.specs.Words.{said, receivers_of}
use Rattle.signing.specs.AuthenticBody.{authentic}
use Rattle.protocol.specs.System.Configuration.{Configuration, members, primary}
use Rattle.protocol.specs.System.Frames.{IsOutgoing}
use Rattle.protocol.specs.System.Trace.{Entry, Once, Has}
use Rattle.protocol.specs.System.Trace.Entry.{Got, Sent}
use Rattle.protocol.specs.Replica.Selection.{is_quorum}
use Rattle.protocol.specs.Replica.Certificates.{view, low, is_in_marks}
use Rattle.protocol.specs.Replica.State.{Call, call_in, tuples}
use Rattle.protocol.specs.Replica.RightReplica.{Point, MaySend, IsAddressed, with_waiting, waiting_after, kept_states, Executes}
use Rattle.protocol.specs.Replica.Transfers.{fetching}
use Rattle.protocol.specs.Replica.Owed.{StartsAhead, Owes, HistoryIsPrompt, IsNumbered}
use Rattle.protocol.proofs.Words.Moving.{no_reason}
use Rattle.protocol.proofs.Words.Options.{some_injective}
use Rattle.replica_histories.specs.Questions.{read_from, read_reply, ordered_from}
use Rattle.replica_histories.specs.TransfersQuorums.{QuorumsFetched}
use Rattle.replica_histories.specs.Numbers.{KeepsNumbers}
use Rattle.replica_histories.specs.Desk.{snapshot_of, point_of}
use Rattle.replica_histories.specs.Events.{FitsFrames, FitsSnapshots, IsFetchedOrDue, LowMarkIsReached}
use Rattle.replica_histories.specs.Transfers.{FitsStateTransfer}
use Rattle.desk.specs.State.{DeskData}
use Rattle.desk.specs.DeskOf.{waiting_calls, desk_of}
use Rattle.protocol.proofs.Words.Outgoing.{unsigned_have_no_leaf}
use Rattle.orderer.specs.Flags.{FitsFlags}
use Rattle.replica.specs.Parted.{DeskMatchesHistory}
use Rattle.replica_histories.proofs.Resting.{Rests, rests}
use Rattle.replica.specs.Idle.{BringsNothing, OrdersNothing, CertifySame}
use Rattle.replica.specs.Reads.{is_read_request, is_read_reply}
use Rattle.protocol.proofs.Words.Linking.{heard_said}
use Rattle.replica.proofs.IdleEntries.{got_idle, sent_idle, reply_is_quiet}
use Rattle.replica.proofs.SameWords.{idle_same, same_then, active_same, count_checkpoints_same}
use Rattle.replica.proofs.PartsJoining.{prepared_same, committed_same, taken_none, idle_starts, can_begin_idle, spent_on, turned}

-- an idle entry numbers nothing
pub idle_keeps : (c : Configuration) (me v : ℕ) (past : List Entry) (e : Entry) → BringsNothing c me e → KeepsNumbers c me v past e
idle_keeps c me v past e idle = record {
  batches = λ i. s.logged v i;
  numbered = λ client timestamp. (less client timestamp, more client timestamp);
}
  where
    s : CertifySame c me past (e ∷ past)
    s = idle_same c me e idle past

    more : (client timestamp : ℕ) → IsNumbered c me past v client timestamp → IsNumbered c me (e ∷ past) v client timestamp
    more client timestamp (batch, (inl at), has) = (batch, inl (at.0, s.logged v at.0 ∙ at.1), has)
    more client timestamp (batch, (inr at), has) = (batch, inr (inr at), has)

    less : (client timestamp : ℕ) → IsNumbered c me (e ∷ past) v client timestamp → IsNumbered c me past v client timestamp
    less client timestamp (batch, (inl at), has) = (batch, inl (at.0, sym (s.logged v at.0) ∙ at.1), has)
    less client timestamp (batch, (inr (inl b)), has) = absurd (none-some b.0 (sym (taken_none c me e past idle) ∙ b.1))
    less client timestamp (batch, (inr (inr at)), has) = (batch, inr at, has)

addressed : (c : Configuration) (me : ℕ) (past : List Entry) (client timestamp number : ℕ) (a : Outcome) (proof : AuthenticatorData) → receivers_of proof ≡ client ∷ []
    → IsAddressed c me past (Reply client timestamp modes.ReadOnly number a) proof
addressed c me past client timestamp number a (macs entries) h = h
addressed c me past client timestamp number a (signature s) h = tt

-- ---- an answered read

module _ (c : Configuration) (me : ℕ) (h : List Entry) (p : Point) (bytes answer : List ℕ) (client timestamp : ℕ) (op : Operation) (proceeds : HistoryIsPrompt c me h [] p p) (fetched : QuorumsFetched c p.state.number h)
    (receives : authentic (members c me) me bytes ≡ Some (read_from client timestamp op)) (is_read : is_read_only op ≡ true)
    (frame : IsOutgoing c me (read_reply p.state client timestamp op) (client ∷ []) answer) where
  abbrev now : List Entry
  now = Sent me answer ∷ Got me bytes ∷ h

  abbrev mid : Point
  mid = record p { ran = []; waiting = waiting_after c me p bytes }

  pub waits : waiting_after c me p bytes ≡ p.waiting
  waits = ap (λ (o : Option Body). option_map_or (with_waiting p.state p.waiting) (option_and_then (call_in c) o) p.waiting) receives

  read_only : (b : Body) → authentic (members c me) me bytes ≡ Some b → is_read_request b ≡ true
  read_only b other = ap is_read_request (some_injective b (read_from client timestamp op) (sym other ∙ receives))

  reply_only : (b : Body) → said answer ≡ Some b → is_read_reply b ≡ true
  reply_only b other = ap is_read_reply (some_injective b (record { sender = me; message = read_reply p.state client timestamp op }) (sym other ∙ frame.says))

  pub got_quiet : BringsNothing c me (Got me bytes)
  got_quiet = got_idle c me me bytes (λ body is. subst (λ (b : Body). OrdersNothing b.message) (some_injective (read_from client timestamp op) body (sym (heard_said c me bytes (read_from client timestamp op) receives) ∙ is)) tt)

  pub sent_quiet : BringsNothing c me (Sent me answer)
  sent_quiet = sent_idle c me me answer (λ body is. reply_is_quiet body.message body.sender (reply_only body is))

  pub same : CertifySame c me h now
  same = same_then c me h (Got me bytes ∷ h) now (idle_same c me (Got me bytes) got_quiet h) (idle_same c me (Sent me answer) sent_quiet (Got me bytes ∷ h))

  rest : Rests c me h p
  rest = rests c me h p proceeds

  pub started : (k : ℕ) → Once (StartsAhead c k) now → Once (StartsAhead c k) h
  started k start = idle_starts c me k h (Got me bytes) got_quiet (idle_starts c me k (Got me bytes ∷ h) (Sent me answer) sent_quiet start)

  numbered : (v a t : ℕ) → IsNumbered c me h v a t → IsNumbered c me now v a t
  numbered v a t (batch, (inl at), has) = (batch, inl (at.0, same.logged v at.0 ∙ at.1), has)
  numbered v a t (batch, (inr at), has) = (batch, inr (inr (inr at)), has)

  owes : Owes c me h (Got me bytes) (Sent me answer ∷ []) now p mid
  owes = record {
    numbers = λ v i call active own wait free. numbered v call.client call.timestamp
        (rest.numbers v i call (sym (active_same c me (Got me bytes) h now same v) ∙ active) own (subst (λ (xs : List Call). Has (λ x. x ≡ call) xs) waits wait)
        (record {
          in_marks = subst (λ (n : ℕ). is_in_marks c n i ≡ true) same.low free.in_marks;
          near = free.near;
          used = λ j above below. ap is_some (sym (same.logged v j)) ∙ free.used j (subst (λ (n : ℕ). n < j) (sym same.low) above) below;
          unused = λ j above. sym (same.logged v j) ∙ free.unused j above;
        }));
    numbers_once = (λ v i batch says none. let bad : false ≡ true = reply_only (record { sender = me; message = PrePrepare v i batch }) says in absurd cc, tt);
    prepares = λ v i batch none some active backup. let bad : None ≡ Some batch = sym none ∙ sym (same.logged v i) ∙ some in absurd cc;
    commits = λ v i batch none some active. absurd (none (prepared_same c me h now v i batch same some));
    executes = λ v batch k. rest.executes v batch (committed_same c me h now v (suc p.state.number) batch same k);
    replies = λ ran k. absurd k;
    checkpoints = λ k e multiple. absurd (no_execution k e);
    again = λ k t o kept other is at. let bad : false ≡ true = read_only (record { sender = 256 + k; message = Request t modes.Ordered o }) other in absurd cc;
    says_again = λ waits. let bad : false ≡ true = read_only (ordered_from waits.0) waits.2 in absurd cc;
    reads = λ a t o other is. inl (same_answer a t o (sym receives ∙ other));
    fetched_digests = λ s k index level is other st kept. let bad : false ≡ true = read_only (record { sender = s; message = Fetch k level index }) other in absurd cc;
    fetched_page = λ s k index other st kept. let bad : false ≡ true = read_only (record { sender = s; message = Fetch k levels.Page index }) other in absurd cc;
    goes_on_by_digests = λ s k index level digests other awaited. let bad : false ≡ true = read_only (record { sender = s; message = Meta k level index digests }) other in absurd cc;
    goes_on_by_page = λ s k index text other awaited. let bad : false ≡ true = read_only (record { sender = s; message = Page k index text }) other in absurd cc;
    fetches = λ k root q above later. let most = fetched k root (inl (subst (λ (n : ℕ). is_quorum c n ≡ true) (count_checkpoints_same c h now same.checkpoints (record { number = k; digest = root })) q)) above in absurd (omega (arith, most, later));
    fetches_start = λ k start above later. let most = fetched k [] (inr (started k start)) above in absurd (omega (arith, most, later));
    fetches_again = λ k index level tick asked above. absurd tick;
    new_views = λ other can. spent_on (Got me bytes ∷ h) (Sent me answer) (spent_on h (Got me bytes) (rest.new_views other
        (can_begin_idle c me h (Got me bytes) got_quiet (idle_same c me (Got me bytes) got_quiet h) other
        (can_begin_idle c me (Got me bytes ∷ h) (Sent me answer) sent_quiet (idle_same c me (Sent me answer) sent_quiet (Got me bytes ∷ h)) other can))));
    view_changes = λ vc other moves may within says. absurd (no_reason c me h bytes p.waiting vc.view (λ s x asks. let bad : false ≡ true = read_only (record { sender = s; message = ViewChange x }) asks in absurd cc) moves);
    dropped = λ other got drops. let at : bytes ≡ other = cc in
        absurd (drops (read_from client timestamp op) (subst (λ (b : List ℕ). authentic (members c me) me b ≡ Some (read_from client timestamp op)) at receives) is_read);
  }
    where
      no_execution : (k : ℕ) → Has (λ e. Executes k [] e) (Sent me answer ∷ []) → ⊥
      no_execution k (inl x) = x
      no_execution k (inr x) = x

      same_answer : (a t : ℕ) (o : Operation) → Some (read_from client timestamp op) ≡ Some (read_from a t o)
          → said answer ≡ Some (record { sender = me; message = Reply a t modes.ReadOnly p.state.number (outcome (tuples p.state) (a - 256) o) })
      same_answer a t o is =
          subst (λ (b : Body). said answer ≡ Some (record { sender = me; message = elim b.message [ Request time mode x ↦ Reply b.sender time modes.ReadOnly p.state.number (outcome (tuples p.state) (b.sender - 256) x) | _ ↦ b.message ] }))
          (some_injective (read_from client timestamp op) (record { sender = a; message = Request t modes.ReadOnly o }) is) frame.says

  may_send : MaySend c me (Got me bytes ∷ h) mid (Sent me answer) answer
  may_send = record {
    body = record { sender = me; message = read_reply p.state client timestamp op };
    says = frame.says;
    own = refl;
    seen = tt;
    allowed = record { op = op; is_read = is_read; authentic = inl receives; answer_is = refl; number_is = refl };
    is_sealed = λ f is. let s = frame.is_sealed f is in (s.0, addressed c me (Got me bytes ∷ h) client timestamp p.state.number (outcome (tuples p.state) (client - 256) op) f.authenticator s.1);
    leaf = unsigned_have_no_leaf (Got me bytes ∷ h) answer (record { sender = me; message = read_reply p.state client timestamp op }) frame.says refl;
    once = λ here. here;
  }

  pub goes_on : HistoryIsPrompt c me now [] mid mid
  goes_on = (mid, record { own = refl; may = may_send; moves = refl }, (p, record { own = refl; may = tt; moves = refl }, (owes, proceeds)))

-- ---- what the desk holds

module _ (c : Configuration) (me : ℕ) (d : DeskData) (h : List Entry) (hd : DeskMatchesHistory c me d h) where
  -- idle entries: the point stays, except for what ran
  module _ (now : List Entry) (s : CertifySame c me h now) (later : Point) (proceeds : HistoryIsPrompt c me now [] later later)
      (same_point : later ≡ record hd.holds.point { ran = [] }) (frames : FitsFrames c me (desk_of c d) now) (opened : FitsStateTransfer c me (desk_of c d).transfer d.executed.state.number now)
      (flags : (v used : ℕ) → FitsFlags c me v used d.waiting d.executed.state (waiting_calls c d.waiting.requests) h → FitsFlags c me v used d.waiting d.executed.state (waiting_calls c d.waiting.requests) now)
      (started : (k : ℕ) → Once (StartsAhead c k) now → Once (StartsAhead c k) h) where
    over : CertifySame c me now h
    over = turned c me h now s

    fetched : QuorumsFetched c d.executed.state.number now
    fetched k root (inl q) above =
        subst (λ (n : ℕ). k ≤ n) (sym s.fetching)
        (hd.holds.fetches k root (inl (subst (λ (n : ℕ). is_quorum c n ≡ true) (count_checkpoints_same c h now s.checkpoints (record { number = k; digest = root })) q)) above)
    fetched k root (inr start) above = subst (λ (n : ℕ). k ≤ n) (sym s.fetching) (hd.holds.fetches k root (inr (started k start)) above)

    reached : LowMarkIsReached c me (low c me h) d.executed.state.number [] h → LowMarkIsReached c me (low c me now) d.executed.state.number [] now
    reached (inl below) = inl (subst (λ (n : ℕ). n ≤ d.executed.state.number) (sym s.low) below)
    reached (inr (got, none)) = inr (there got, λ v batch k. none v batch (committed_same c me h now v (suc d.executed.state.number) batch s k))
      where
        there : IsFetchedOrDue (low c me h) [] h → IsFetchedOrDue (low c me now) [] now
        there (inl k) = inl (subst (λ (n : ℕ). n ≤ fetching now) (sym s.low) (subst (λ (n : ℕ). low c me h ≤ n) (sym s.fetching) k))
        there (inr k) = absurd k

    pub holds_on : DeskMatchesHistory c me d now
    holds_on = record {
      is_desk = hd.is_desk;
      holds = record {
        point = later;
        proceeds = proceeds;
        is = same_point ∙ ap (λ (q : Point). record q { ran = [] }) hd.holds.is
            ∙ ap (λ (q : Point). point_of (desk_of c d) q.snapshots q.ran) (sym same_point);
        kept = subst (λ (q : Point). FitsSnapshots c me (desk_of c d) q.snapshots now) (sym same_point)
            (ap (λ (n : ℕ). map snapshot_of (kept_states n hd.holds.point.snapshots)) s.low ∙ hd.holds.kept);
        frames = frames;
        opened = opened;
        fetches = fetched;
      };
      low = reached hd.low;
      flags = λ mine. let f = hd.flags (ap (primary c) (sym s.view) ∙ mine) in
          (f.0, subst (λ (v : ℕ). FitsFlags c me v f.0 d.waiting d.executed.state (waiting_calls c d.waiting.requests) now) (sym s.view) (flags (view c h) f.0 f.1));
    }
