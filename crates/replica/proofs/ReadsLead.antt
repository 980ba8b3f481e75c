-- A desk that answers a read fits the history with the read after it. The read leaves no entry of ordering.
use Rattle.std.proofs.Common.{◌≡◌, ℕ, ◌+◌, inl, inr, true, false, cond, List, [], ◌∷◌, refl, sym, ap, ◌∙◌, subst, Option, Some, None}
use Rattle.std.specs.Prelude.{not}
use Rattle.tuple_codec.specs.Operations.{Operation}
use Rattle.space.specs.Applying.{is_read_only}
use Rattle.wire.specs.Marks.{asks_read}
use Rattle.wire_format.specs.Messages.{BodyData as Body, request as Request}
use Rattle.wire_format.specs.Words.{said}
use Rattle.signing.specs.AuthenticBody.{authentic}
use Rattle.events.specs.declared.output.Output.{Output}
use Rattle.events.specs.Outputs.{entry_of, after_event, AreSentAsMeant}
use Rattle.protocol.specs.System.Configuration.{Configuration, members}
use Rattle.protocol.specs.System.Frames.{IsOutgoing}
use Rattle.protocol.specs.System.Reads.{is_beside, without_reads}
use Rattle.protocol.specs.System.Trace.{Entry}
use Rattle.protocol.specs.System.Trace.Entry.{Got, Sent}
use Rattle.protocol.specs.Replica.State.{State, Call}
use Rattle.protocol.specs.Replica.RightReplica.{Point, waiting_after}
use Rattle.protocol.specs.Replica.Owed.{IsReplica}
use Rattle.protocol.proofs.Words.Options.{some_injective}
use Rattle.replica_histories.specs.Desk.{Desk}
use Rattle.replica_histories.specs.Events.{FitsFrames}
use Rattle.replica_histories.specs.Questions.{read_from, read_reply}
use Rattle.replica_histories.specs.Transfers.{FitsStateTransfer}
use Rattle.replica_histories.specs.TransfersQuorums.{QuorumsFetched}
use Rattle.replica_histories.proofs.Transfers.{open_stays, asks_none}
use Rattle.replica.specs.State.{MemberData, DeskPart, IsDeskPart}
use Rattle.desk.specs.State.{DeskData}
use Rattle.orderer.specs.Flags.{FitsFlags}
use Rattle.replica.specs.Idle.{BringsNothing}
use Rattle.replica.specs.Parted.{DeskMatchesHistory, ReadLeads, ReadSendsAsMeant}
use Rattle.replica.specs.Reads.{is_read_request}
use Rattle.desk.specs.Reading.{AnswersRead, ReceivesNoRead, AnswersBytes}
use Rattle.desk.specs.DeskOf.{waiting_calls, desk_of}
use Rattle.orderer.proofs.Flags.{flags_stay}
use Rattle.replica.proofs.ReadMarks.{marked_are_requests, replies_are_marked}
use Rattle.replica.proofs.ReadsBeside as beside
use Rattle.replica.proofs.ReadsBeside.{idle_keeps, holds_on}
use Rattle.replica.proofs.ReadsDropped as dropped

-- an entry that stands beside ordering is left out
pub unread : (e : Entry) (h : List Entry) → is_beside e ≡ true → without_reads (e ∷ h) ≡ without_reads h
unread e h is = ap (λ b. cond (not b) (e ∷ without_reads h) (without_reads h)) is

-- frames that were seen stay so
frames_on : (c : Configuration) (me : ℕ) (desk : Desk) (h : List Entry) (e : Entry) → FitsFrames c me desk h → FitsFrames c me desk (e ∷ h)
frames_on c me desk h e fits frame has = let f = fits frame has in (inr f.0, f.1)

-- what a read leaves
abbrev pub Left : Configuration → ℕ → DeskData → List Entry → List Entry → Type 0
Left c me d h now = DeskMatchesHistory c me d now × IsReplica c me now × (without_reads now ≡ without_reads h)

module _ (c : Configuration) (me : ℕ) (d : DeskData) (h : List Entry) (bytes : List ℕ) (hd : DeskMatchesHistory c me d h) (marks : asks_read bytes ≡ true) where
  abbrev p : Point
  p = hd.holds.point

  abbrev got : List Entry
  got = Got me bytes ∷ h

  state_is : p.state ≡ d.executed.state
  state_is = ap (λ (q : Point). q.state) hd.holds.is

  fetched : QuorumsFetched c p.state.number h
  fetched = subst (λ (s : State). QuorumsFetched c s.number h) (sym state_is) hd.holds.fetches

  flags_on : (v used : ℕ) (past : List Entry) (e : Entry) → BringsNothing c me e → FitsFlags c me v used d.waiting d.executed.state (waiting_calls c d.waiting.requests) past
      → FitsFlags c me v used d.waiting d.executed.state (waiting_calls c d.waiting.requests) (e ∷ past)
  flags_on v used past e idle = flags_stay c me v used d.waiting d.executed.state (waiting_calls c d.waiting.requests) past e (idle_keeps c me v past e idle)

  opened : FitsStateTransfer c me (desk_of c d).transfer d.executed.state.number got
  opened = open_stays c me (desk_of c d).transfer d.executed.state.number h (Got me bytes) refl tt hd.holds.opened

  -- the point, except for what ran
  abbrev mid : Point
  mid = record p { ran = []; waiting = waiting_after c me p bytes }

  same_point : waiting_after c me p bytes ≡ p.waiting → mid ≡ record p { ran = [] }
  same_point waits = ap (λ (ws : List Call). record p { ran = []; waiting = ws }) waits

  -- ---- answered

  module _ (client t : ℕ) (op : Operation) (answer : List ℕ) (receives : authentic (members c me) me bytes ≡ Some (read_from client t op)) (is_read : is_read_only op ≡ true)
      (frame : IsOutgoing c me (read_reply p.state client t op) (client ∷ []) answer) where
    got_quiet : BringsNothing c me (Got me bytes)
    got_quiet = beside.got_quiet c me h p bytes answer client t op hd.holds.proceeds fetched receives is_read frame

    sent_quiet : BringsNothing c me (Sent me answer)
    sent_quiet = beside.sent_quiet c me h p bytes answer client t op hd.holds.proceeds fetched receives is_read frame

    pub answered : Left c me d h (Sent me answer ∷ got)
    answered = (
      holds_on c me d h hd (Sent me answer ∷ got) (beside.same c me h p bytes answer client t op hd.holds.proceeds fetched receives is_read frame) mid
          (beside.goes_on c me h p bytes answer client t op hd.holds.proceeds fetched receives is_read frame)
          (same_point (beside.waits c me h p bytes answer client t op hd.holds.proceeds fetched receives is_read frame))
          (frames_on c me (desk_of c d) got (Sent me answer) (frames_on c me (desk_of c d) h (Got me bytes) hd.holds.frames))
          (open_stays c me (desk_of c d).transfer d.executed.state.number got (Sent me answer) (asks_none answer me (read_reply p.state client t op) frame.says refl) tt opened)
          (λ v used f. flags_on v used got (Sent me answer) sent_quiet (flags_on v used h (Got me bytes) got_quiet f))
          (beside.started c me h p bytes answer client t op hd.holds.proceeds fetched receives is_read frame),
      inl (mid, beside.goes_on c me h p bytes answer client t op hd.holds.proceeds fetched receives is_read frame),
      unread (Sent me answer) got (replies_are_marked answer (record { sender = me; message = read_reply p.state client t op }) frame.says refl) ∙ unread (Got me bytes) h marks,
    )

  -- ---- dropped

  module _ (never : (client t : ℕ) (op : Operation) → authentic (members c me) me bytes ≡ Some (read_from client t op) → is_read_only op ≡ true → ⊥) where
    says : (body : Body) → said bytes ≡ Some body → is_read_request body ≡ true
    says body is = marked_are_requests bytes body marks is

    pub drops : Left c me d h got
    drops = (
      holds_on c me d h hd got (dropped.same c me h p bytes hd.holds.proceeds fetched says never) mid
          (dropped.goes_on c me h p bytes hd.holds.proceeds fetched says never)
          (same_point (dropped.waits c me h p bytes hd.holds.proceeds fetched says never))
          (frames_on c me (desk_of c d) h (Got me bytes) hd.holds.frames) opened
          (λ v used f. flags_on v used h (Got me bytes) (dropped.got_quiet c me h p bytes hd.holds.proceeds fetched says never) f)
          (dropped.started c me h p bytes hd.holds.proceeds fetched says never),
      inl (mid, dropped.goes_on c me h p bytes hd.holds.proceeds fetched says never),
      unread (Got me bytes) h marks,
    )

  -- ---- whatever the desk gives

  module _ (mine : d.me ≡ me) where
    hears_so : (o : Option Body) → authentic d.membership d.me bytes ≡ o → authentic (members c me) me bytes ≡ o
    hears_so o is = subst (λ (n : ℕ). authentic (members c n) n bytes ≡ o) mine (ap (λ m. authentic m d.me bytes) hd.is_desk.members_are ∙ is)

    answers : (outs : List Output) → AnswersRead d bytes [] outs → Left c me d h (after_event me (Got me bytes) outs h)
    answers outs a = subst (λ (os : List Output). Left c me d h (after_event me (Got me bytes) os h)) (sym a.says.given_is)
        (subst (λ (e : Entry). Left c me d h (e ∷ got)) (sym sends)
        (answered (256 + a.client.number) a.timestamp a.op a.says.sends_frame.bytes (hears_so (Some (read_from (256 + a.client.number) a.timestamp a.op)) a.receives) a.is_read is_outgoing))
      where
        sends : entry_of me a.says.output ≡ Sent me a.says.sends_frame.bytes
        sends = subst (λ (m : ℕ). entry_of m a.says.output ≡ Sent m a.says.sends_frame.bytes) mine a.says.sends_frame.sends

        is_outgoing : IsOutgoing c me (read_reply p.state (256 + a.client.number) a.timestamp a.op) ((256 + a.client.number) ∷ []) a.says.sends_frame.bytes
        is_outgoing = subst (λ (s : State). IsOutgoing c me (read_reply s (256 + a.client.number) a.timestamp a.op) ((256 + a.client.number) ∷ []) a.says.sends_frame.bytes) (sym state_is)
            (subst (λ (m : ℕ). IsOutgoing c m (read_reply d.executed.state (256 + a.client.number) a.timestamp a.op) ((256 + a.client.number) ∷ []) a.says.sends_frame.bytes) mine (a.says.sends_frame.is_outgoing c hd.is_desk.members_are))

    never_heard : ReceivesNoRead d bytes → (client t : ℕ) (op : Operation) → authentic (members c me) me bytes ≡ Some (read_from client t op) → is_read_only op ≡ true → ⊥
    never_heard (inl silent) client t op receives is = absurd (none_some (read_from client t op) (sym (hears_so None silent) ∙ receives))
      where
        none_some : (x : Body) → None ≡ Some x → ⊥
        none_some x e = absurd cc
    never_heard (inr (k, u, o, other, not_read)) client t op receives is =
        let same = some_injective (read_from k u o) (read_from client t op) (sym (hears_so (Some (read_from k u o)) other) ∙ receives) in
        let ops : o ≡ op = operation_same k u client t o op same in
        let bad : false ≡ true = sym not_read ∙ ap is_read_only ops ∙ is in absurd cc
      where
        operation_same : (k u client t : ℕ) (o op : Operation) → read_from k u o ≡ read_from client t op → o ≡ op
        operation_same k u client t o op e = ap (λ (b : Body). elim b.message [ Request time mode x ↦ x | _ ↦ o ]) e

    pub leaves : (outs : List Output) → AnswersBytes d bytes [] outs → Left c me d h (after_event me (Got me bytes) outs h)
    leaves outs (inl a) = answers outs a
    leaves outs (inr (none, same)) = subst (λ (os : List Output). Left c me d h (after_event me (Got me bytes) os h)) (sym same) (drops (never_heard none))

-- ---- a part

-- the desk that answered, unchanged
pub read_leads : (part later : DeskPart) (d : DeskData) (bytes : List ℕ) (outs : List Output) → part.holds ≡ Some d → IsDeskPart part → asks_read bytes ≡ true → later ≡ part
    → AnswersBytes d bytes [] outs → ReadLeads part bytes outs later
read_leads part later d bytes outs holds are marks same answers = subst (ReadLeads part bytes outs) (sym same) leads
  where
    leads : ReadLeads part bytes outs part
    leads c me h f = (
      record {
        me_is = f.me_is;
        member_is = f.member_is;
        right = l.1;
        running = λ x is. subst (λ (y : DeskData). DeskMatchesHistory c me y (after_event me (Got me bytes) outs h)) (some_injective d x (sym holds ∙ is)) l.0;
      },
      l.2,
    )
      where
        l : Left c me d h (after_event me (Got me bytes) outs h)
        l = leaves c me d h bytes (f.running d holds) marks (ap (λ (m : MemberData). m.me) (are d holds) ∙ f.me_is) outs answers

-- a read's answer goes to its client
pub read_sends : (part : DeskPart) (d : DeskData) (bytes : List ℕ) (outs : List Output) → part.holds ≡ Some d → IsDeskPart part → AnswersBytes d bytes [] outs → ReadSendsAsMeant part outs
read_sends part d bytes outs holds are (inl a) c me h f =
    subst (λ (os : List Output). AreSentAsMeant c me os) (sym a.says.given_is)
    (subst (λ (k : ℕ). AreSentAsMeant c k (a.says.output ∷ [])) (ap (λ (m : MemberData). m.me) (are d holds) ∙ f.me_is) (a.says.sends_frame.meant c (f.running d holds).is_desk.members_are, tt))
read_sends part d bytes outs holds are (inr (none, same)) c me h f = subst (λ (os : List Output). AreSentAsMeant c me os) (sym same) tt
