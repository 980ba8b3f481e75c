-- An event sends nothing twice.
use Rattle.std.proofs.Common.{◌≡◌, ℕ, ◌+◌, ◌≤◌, ◌<◌, ◌⊎◌, inl, inr, Bool, true, false, cond, ◌&&◌, List, [], ◌∷◌, ◌++◌, length, fold, refl, sym, ap, ◌∙◌, subst, arith, Option, Some, None, is_some, eqb-true, ◌-◌}
use Rattle.std.specs.Prelude.{◌==◌, nat_le, nat_lt, option_and_then, ⊤}
use Rattle.std.specs.Option.{option_map_or}
use Rattle.std.proofs.lemmas.Bool.{and_parts, leb-true, ltb-true}
use Rattle.std.proofs.lemmas.List.{length-set, get_or-set_same}
use Rattle.quorum.specs.Votes.{or_else}
use Rattle.terms.specs.declared.order.Mode.{Mode}
use Rattle.terms.specs.declared.order.Mode.TheVariants as modes
use Rattle.terms.specs.declared.state.Level.{Level}
use Rattle.terms.specs.declared.state.Level.TheVariants as levels
use Rattle.wire_format.specs.Messages.{BodyData as Body, MessageData as Message, ViewChangeData, NewViewData, request as Request, checkpoint as Checkpoint, view_change as ViewChange, new_view as NewView, reply as Reply, fetch as Fetch}
use Rattle.wire_format.specs.Words.{said}
use Rattle.reply_cache.specs.Replies.{Kept}
use Rattle.ordering.specs.Log.{LogData}
use Rattle.protocol.specs.System.Configuration.{Configuration, is_client}
use Rattle.protocol.specs.System.Frames.{same_mode}
use Rattle.protocol.specs.System.Trace.{Entry, is_output, Once, Always, Has, either}
use Rattle.protocol.specs.System.Trace.Entry.{Sent}
use Rattle.protocol.specs.Replica.Certificates.{greatest, first_given, change_from, change_sent, view, target, is_active_in, taken}
use Rattle.protocol.specs.Replica.State.{State, Call, call_in, call_of, runs, kept_by, ran_call, run_call, run_frame, ran_by, ran_in, last_time}
use Rattle.protocol.specs.Replica.RightReplica.{Point, HistoryReaches, MaySendMessage, MayNewView, MayFetch, IsAskedAgain, SendsBytes, SentBefore, SentInEvent, reply_of}
use Rattle.protocol.specs.Replica.Transfers.{place_from, fetch_sent, fetching, is_fetch, NoneAsked, IsNextPart, in_place}
use Rattle.protocol.specs.Replica.Owed.{IsSending, SendsMessage}
use Rattle.protocol.proofs.Words.Options.{some_injective, and_then_some}
use Rattle.protocol.proofs.Words.Elements.{has_either}
use Rattle.protocol.proofs.Words.Temporal.{once_weaker, once_always, once_stays_from}
use Rattle.protocol.proofs.Agreement.Voting.{RightAt, right_always}
use Rattle.protocol.proofs.Agreement.Marks.{takes, view_grows}
use Rattle.replica_histories.specs.Desk.{Desk, point_of}
use Rattle.replica_histories.specs.Events.{Start, after_outputs, IsOnItsWay, MaySendDue, is_fetching, AreUnsent, SaysOnce, BothFitWithinEvent}
use Rattle.replica_histories.specs.Outputs.{replies_to}
use Rattle.replica_histories.proofs.Words.{apart, given_not}
use Rattle.replica_histories.proofs.NumbersWaiting.{call_raises, frames_raise}

-- ---- the frames that an event sent

pub sends_says : (me : ℕ) (message : Message) (bytes : List ℕ) (past : List Entry) (e : Entry) → said bytes ≡ Some (record { sender = me; message = message }) → SendsBytes bytes past e → IsSending me message e
sends_says me message bytes past (Sent p sent) says h = subst (λ (x : List ℕ). said x ≡ Some (record { sender = me; message = message })) (sym h) says
sends_says me message bytes past _ says h = h

-- the event has not sent a message that it didn't say
pub unsent : (me : ℕ) (s : Start) (message : Message) (bytes : List ℕ) (outputs : List Entry) → is_output s.input ≡ false → said bytes ≡ Some (record { sender = me; message = message })
    → (SendsMessage me message outputs → ⊥) → SentInEvent bytes (after_outputs s outputs) → ⊥
unsent me s message bytes [] begins says none h = subst (λ (b : Bool). either b (SendsBytes bytes s.before s.input ⊎ SentInEvent bytes s.before) ⊥) begins h
unsent me s message bytes (e ∷ outputs) begins says none h = go (unsent me s message bytes outputs begins says (λ given. none (inr given))) (is_output e) h
  where
    go : (SentInEvent bytes (after_outputs s outputs) → ⊥) → (b : Bool) → either b (SendsBytes bytes (after_outputs s outputs) e ⊎ SentInEvent bytes (after_outputs s outputs)) ⊥ → ⊥
    go earlier true (inl now) = none (inl (sends_says me message bytes (after_outputs s outputs) e says now))
    go earlier true (inr before) = earlier before
    go earlier false k = k

sent_before : (bytes : List ℕ) (past : List Entry) → SentInEvent bytes past → SentBefore bytes past
sent_before bytes [] h = h
sent_before bytes (e ∷ past) h = go (sent_before bytes past) (is_output e) h
  where
    go : (SentInEvent bytes past → Once (SendsBytes bytes) past) → (b : Bool) → either b (SendsBytes bytes past e ⊎ SentInEvent bytes past) ⊥ → SendsBytes bytes past e ⊎ Once (SendsBytes bytes) past
    go earlier true (inl now) = inl now
    go earlier true (inr before) = inr (earlier before)
    go earlier false k = absurd k

-- ---- votes, batches, view changes and fetches are new

both_none : {A : Type 0} (o later : Option A) → or_else o later ≡ None → (o ≡ None) × (later ≡ None)
both_none None later h = (refl, h)
both_none (Some x) later h = absurd cc

-- if the bytes would have given something, and nothing was given, they were not sent
never_given : {A : Type 0} (emit : List Entry → Entry → Option A) (bytes : List ℕ) → ((past : List Entry) (p : ℕ) → (x : A) × (emit past (Sent p bytes) ≡ Some x)) → (history : List Entry)
    → first_given emit history ≡ None → SentBefore bytes history → ⊥
never_given emit bytes gives [] none h = h
never_given emit bytes gives (e ∷ past) none (inr h) = never_given emit bytes gives past (both_none (first_given emit past) (emit past e) none).0 h
never_given emit bytes gives (e ∷ past) none (inl h) = now e (both_none (first_given emit past) (emit past e) none).1 h
  where
    now : (e : Entry) → emit past e ≡ None → SendsBytes bytes past e → ⊥
    now (Sent p sent) given k = let g = gives past p in given_not (emit past (Sent p bytes)) g.0 g.1 (subst (λ (x : List ℕ). emit past (Sent p x) ≡ None) k given)
    now _ given k = k

pub new_by : {A : Type 0} (emit : List Entry → Entry → Option A) (bytes : List ℕ) → ((past : List Entry) (p : ℕ) → (x : A) × (emit past (Sent p bytes) ≡ Some x)) → (history : List Entry)
    → first_given emit history ≡ None → SentInEvent bytes history → ⊥
new_by emit bytes gives history none h = never_given emit bytes gives history none (sent_before bytes history h)

-- a sent frame has at most the greatest number
at_most : (number : Entry → ℕ) (bytes : List ℕ) (k : ℕ) → ((p : ℕ) → number (Sent p bytes) ≡ k) → (history : List Entry) → SentBefore bytes history → k ≤ greatest number history
at_most number bytes k is [] h = absurd h
at_most number bytes k is (e ∷ past) (inr h) = let most = at_most number bytes k is past h in omega arith
at_most number bytes k is (e ∷ past) (inl h) = let same = now e h in omega arith
  where
    now : (e : Entry) → SendsBytes bytes past e → number e ≡ k
    now (Sent p sent) same = ap (λ (x : List ℕ). number (Sent p x)) same ∙ is p
    now _ same = absurd same

pub change_is_new : (me : ℕ) (vc : ViewChangeData) (bytes : List ℕ) (history : List Entry) → said bytes ≡ Some (record { sender = me; message = ViewChange vc }) → target history < vc.view → SentInEvent bytes history → ⊥
change_is_new me vc bytes history says newer h =
    let most : vc.view ≤ target history = at_most change_sent bytes vc.view (λ p. ap (λ (o : Option Body). option_map_or change_from o 0) says) history (sent_before bytes history h) in
    absurd (omega (arith, newer, most))

abbrev number_of : Body → ℕ
number_of body = elim body.message [ Fetch k level index ↦ k | _ ↦ 0 ]

-- an event that sent no fetch sent not this one
none_asked : (bytes : List ℕ) → ((p : ℕ) → is_fetch (Sent p bytes) ≡ true) → (past : List Entry) → NoneAsked past → SentInEvent bytes past → ⊥
none_asked bytes is [] none h = h
none_asked bytes is (e ∷ past) none h = go (none_asked bytes is past) (is_output e) none h
  where
    now : (e : Entry) → is_fetch e ≡ false → SendsBytes bytes past e → ⊥
    now (Sent p sent) other same = apart (is_fetch (Sent p bytes)) (is p) (subst (λ (x : List ℕ). is_fetch (Sent p x) ≡ false) same other)
    now _ other same = same

    go : (NoneAsked past → SentInEvent bytes past → ⊥) → (b : Bool) → either b ((is_fetch e ≡ false) × NoneAsked past) ⊤ → either b (SendsBytes bytes past e ⊎ SentInEvent bytes past) ⊥ → ⊥
    go earlier true n (inl k) = now e n.0 k
    go earlier true n (inr k) = earlier n.1 k
    go earlier false n k = k

pub fetch_is_new : (c : Configuration) (me : ℕ) (past : List Entry) (point : Point) (k : ℕ) (level : Level) (index : ℕ) (bytes : List ℕ) → said bytes ≡ Some (record { sender = me; message = Fetch k level index })
    → MayFetch c me past point k level index → SentInEvent bytes past → ⊥
fetch_is_new c me past point k level index bytes says may h = go level says may.next
  where
    asked : (l : Level) → said bytes ≡ Some (record { sender = me; message = Fetch k l index }) → NoneAsked past → ⊥
    asked l is none = none_asked bytes (λ p. ap (λ (o : Option Body). is_some (option_and_then place_from o)) is) past none h

    go : (l : Level) → said bytes ≡ Some (record { sender = me; message = Fetch k l index }) → IsNextPart c me past (in_place c me k past point.state) k may.root l index ⊎ IsAskedAgain past k l index → ⊥
    go levels.Root is (inl above) =
        let most : k ≤ fetching past = at_most fetch_sent bytes k (λ p. ap (λ (o : Option Body). option_map_or number_of o 0) is) past (sent_before bytes past h) in
        absurd (omega (arith, above, most))
    go levels.Inner is (inl next) = asked levels.Inner is next.0
    go levels.Page is (inl next) = asked levels.Page is next.0
    go l is (inr again) = asked l is again.1

-- a new view that the replica takes as it sends it was not sent before: its view would have begun before
pub view_is_new : (c : Configuration) (me : ℕ) (past : List Entry) (point : Point) (new : NewViewData) (bytes : List ℕ) → HistoryReaches c me past point → said bytes ≡ Some (record { sender = me; message = NewView new })
    → taken c past (Sent me bytes) ≡ Some new → SentInEvent bytes past → ⊥
view_is_new c me past point new bytes leaves says t h =
    let above = (takes c me past (Sent me bytes) new t).above in
    let most = there in
    absurd (omega arith)
  where
    -- if it was sent before, its view began
    assigned : (x : List Entry) (e : Entry) → RightAt c me x e → SendsBytes bytes x e → new.view ≤ view c (e ∷ x)
    assigned x (Sent p sent) r same = pick allowed.1
      where
        spoken : said sent ≡ Some (record { sender = me; message = NewView new })
        spoken = subst (λ (ys : List ℕ). said ys ≡ Some (record { sender = me; message = NewView new })) (sym same) says

        allowed : MayNewView c me x (Sent p sent) sent new
        allowed = subst (λ (b : Body). MaySendMessage c me x r.point (Sent p sent) sent b.message) (some_injective r.may.body (record { sender = me; message = NewView new }) (sym r.may.says ∙ spoken)) r.may.allowed

        pick : (taken c x (Sent p sent) ≡ Some new) ⊎ ((is_active_in c x new.view ≡ true) × Once (SendsBytes sent) x) → new.view ≤ view c (Sent p sent ∷ x)
        pick (inl k) = let is = (takes c me x (Sent p sent) new k).view_is in omega arith
        pick (inr k) =
            let is = eqb-true (view c x) new.view (and_parts (view c x == new.view) (nat_le (target x) new.view) k.0).0 in
            let grows = view_grows c (Sent p sent) x in
            omega arith
    assigned x _ r same = absurd same

    there : new.view ≤ view c past
    there =
        once_stays_from (λ x. new.view ≤ view c x) (λ e x k. let grows = view_grows c e x in omega arith) past
        (once_weaker (λ x e. RightAt c me x e × SendsBytes bytes x e × Always (RightAt c me) x) (λ x e. new.view ≤ view c (e ∷ x)) (λ x e k. assigned x e k.0 k.1) past
        (once_always (RightAt c me) (SendsBytes bytes) past (right_always c me past point leaves) (sent_before bytes past h)))

-- ---- due messages

abbrev pub is_ordered : Mode → Bool
is_ordered modes.Ordered = true
is_ordered modes.ReadOnly = false

-- a due message is a reply to an ordered request, a checkpoint or a fetch
abbrev pub is_due_kind : Message → Bool
is_due_kind message = elim message [ Checkpoint k root ↦ true | Reply client timestamp mode number answer ↦ is_ordered mode | Fetch k level index ↦ true | _ ↦ false ]

kind_of_due : (c : Configuration) (me : ℕ) (past : List Entry) (point : Point) (message : Message) → MaySendDue c me past point message → is_due_kind message ≡ true
kind_of_due c me past point (Reply client timestamp modes.Ordered number answer) h = refl
kind_of_due c me past point (Checkpoint k root) h = refl
kind_of_due c me past point (Fetch k level index) h = refl
kind_of_due c me past point _ h = absurd h

-- the frame says one message
pub saying : (me : ℕ) (message other : Message) (bytes : List ℕ) → said bytes ≡ Some (record { sender = me; message = message }) → IsSending me other (Sent me bytes) → message ≡ other
saying me message other bytes says h =
    ap (λ (b : Body). b.message) (some_injective (record { sender = me; message = message }) (record { sender = me; message = other }) (sym says ∙ h))

-- An entry that says none of the due messages leaves them unsaid.
pub unsaid_goes : (me : ℕ) (due : List Message) (outputs : List Entry) (e : Entry) → ((x : Message) → Has (λ y. y ≡ x) due → is_fetching x ≡ false → IsSending me x e → ⊥) → AreUnsent me due outputs → AreUnsent me due (e ∷ outputs)
unsaid_goes me [] outputs e new h = tt
unsaid_goes me (message ∷ due) outputs e new h = (λ other way. go other way, unsaid_goes me due outputs e (λ x has. new x (inr has)) h.1)
  where
    go : is_fetching message ≡ false → IsOnItsWay me due (e ∷ outputs) message → ⊥
    go other (inl has) = h.0 other (inl has)
    go other (inr (inl now)) = new message (inl refl) other now
    go other (inr (inr before)) = h.0 other (inr before)

-- The due messages after a frame: those that it pays go, none come, and each is still said once.
pub record Pays (me : ℕ) (s : Start) (st : State) (due rest : List Message) (outputs : List Entry) (bytes : List ℕ) : Type 0 where
  pub paid : (x : Message) → Has (λ y. y ≡ x) due → Has (λ y. y ≡ x) rest ⊎ IsSending me x (Sent me bytes)
  pub fewer : (x : Message) → Has (λ y. y ≡ x) rest → Has (λ y. y ≡ x) due
  pub says : SaysOnce me s st rest (Sent me bytes ∷ outputs)

module _ (c : Configuration) (me : ℕ) (s : Start) (desk : Desk) (log : LogData) (outputs : List Entry) (message : Message) (bytes : List ℕ) (says : said bytes ≡ Some (record { sender = me; message = message })) where
  -- a frame of another kind pays nothing
  pub pays_none : (due : List Message) → is_due_kind message ≡ false → BothFitWithinEvent c me s desk log due outputs → Pays me s desk.state due due outputs bytes
  pays_none due other f = record {
    paid = λ x h. inl h;
    fewer = λ x h. h;
    says = record {
      begins = f.says.begins;
      unsaid = unsaid_goes me due outputs (Sent me bytes)
          (λ x has fetching now. apart (is_due_kind x) (kind_of_due c me (after_outputs s outputs) (point_of desk f.of_desk.states f.of_desk.ran) x (f.of_desk.rightly x has))
          (subst (λ (y : Message). is_due_kind y ≡ false) (saying me message x bytes says now) other)) f.says.unsaid;
      replies = replies;
    };
  }
    where
      replies : (k : ℕ) (kept : Kept) → IsOnItsWay me due (Sent me bytes ∷ outputs) (reply_of k kept) → kept.timestamp ≤ last_time desk.state k
      replies k kept (inl has) = f.says.replies k kept (inl has)
      replies k kept (inr (inl now)) = absurd (apart (is_due_kind (reply_of k kept)) refl (subst (λ (y : Message). is_due_kind y ≡ false) (saying me message (reply_of k kept) bytes says now) other))
      replies k kept (inr (inr before)) = f.says.replies k kept (inr before)

  -- its frame pays the first due message
  pub pays_first : (rest : List Message) → BothFitWithinEvent c me s desk log (message ∷ rest) outputs → Pays me s desk.state (message ∷ rest) rest outputs bytes
  pays_first rest f = record {
    paid = paid;
    fewer = λ x h. inr h;
    says = record {
      begins = f.says.begins;
      unsaid = unsaid_goes me rest outputs (Sent me bytes)
          (λ x has other now.
          let same = saying me message x bytes says now in
          f.says.unsaid.0 (subst (λ (y : Message). is_fetching y ≡ false) (sym same) other) (inl (subst (λ (y : Message). Has (λ z. z ≡ y) rest) (sym same) has))) f.says.unsaid.1;
      replies = replies;
    };
  }
    where
      paid : (x : Message) → (message ≡ x) ⊎ Has (λ y. y ≡ x) rest → Has (λ y. y ≡ x) rest ⊎ IsSending me x (Sent me bytes)
      paid x (inl e) = inr (subst (λ (y : Message). said bytes ≡ Some (record { sender = me; message = y })) e says)
      paid x (inr h) = inl h

      replies : (k : ℕ) (kept : Kept) → IsOnItsWay me rest (Sent me bytes ∷ outputs) (reply_of k kept) → kept.timestamp ≤ last_time desk.state k
      replies k kept (inl has) = f.says.replies k kept (inl (inr has))
      replies k kept (inr (inl now)) = f.says.replies k kept (inl (inl (saying me message (reply_of k kept) bytes says now)))
      replies k kept (inr (inr before)) = f.says.replies k kept (inr before)

  -- a fetch that isn't due
  pub pays_fetch : (due : List Message) → is_fetching message ≡ true → BothFitWithinEvent c me s desk log due outputs → Pays me s desk.state due due outputs bytes
  pays_fetch due fetches f = record {
    paid = λ x h. inl h;
    fewer = λ x h. h;
    says = record {
      begins = f.says.begins;
      unsaid = unsaid_goes me due outputs (Sent me bytes)
          (λ x has other now. apart (is_fetching message) fetches (subst (λ (y : Message). is_fetching y ≡ false) (sym (saying me message x bytes says now)) other)) f.says.unsaid;
      replies = replies;
    };
  }
    where
      replies : (k : ℕ) (kept : Kept) → IsOnItsWay me due (Sent me bytes ∷ outputs) (reply_of k kept) → kept.timestamp ≤ last_time desk.state k
      replies k kept (inl has) = f.says.replies k kept (inl has)
      replies k kept (inr (inl now)) = absurd (apart (is_fetching message) fetches (subst (λ (y : Message). is_fetching y ≡ false) (sym (saying me message (reply_of k kept) bytes says now)) refl))
      replies k kept (inr (inr before)) = f.says.replies k kept (inr before)

  -- if no message is due, a frame that is no reply to an ordered request
  pub pays_alone : ((k : ℕ) (kept : Kept) → message ≡ reply_of k kept → ⊥) → BothFitWithinEvent c me s desk log [] outputs → Pays me s desk.state [] [] outputs bytes
  pays_alone none f = record {
    paid = λ x h. absurd h;
    fewer = λ x h. h;
    says = record { begins = f.says.begins; unsaid = tt; replies = replies };
  }
    where
      replies : (k : ℕ) (kept : Kept) → IsOnItsWay me [] (Sent me bytes ∷ outputs) (reply_of k kept) → kept.timestamp ≤ last_time desk.state k
      replies k kept (inl has) = absurd has
      replies k kept (inr (inl now)) = absurd (none k kept (saying me message (reply_of k kept) bytes says now))
      replies k kept (inr (inr before)) = f.says.replies k kept (inr before)

  -- the first due message, if it is no fetch, was not sent in the event
  pub first_unsent : (rest : List Message) → is_fetching message ≡ false → BothFitWithinEvent c me s desk log (message ∷ rest) outputs → SentInEvent bytes (after_outputs s outputs) → ⊥
  first_unsent rest other f = unsent me s message bytes outputs f.says.begins says (λ given. f.says.unsaid.0 other (inr given))

-- a message that was sent in the event was said
pub said_so_far : (me : ℕ) (s : Start) (message : Message) (outputs : List Entry) → SendsMessage me message outputs → Once (λ earlier e. IsSending me message e) (after_outputs s outputs)
said_so_far me s message [] h = absurd h
said_so_far me s message (e ∷ outputs) (inl h) = inl h
said_so_far me s message (e ∷ outputs) (inr h) = inr (said_so_far me s message outputs h)

-- a checkpoint, a fetch and a new view are no replies
abbrev pub is_reply : Message → Bool
is_reply message = elim message [ Reply client timestamp mode number answer ↦ true | _ ↦ false ]

pub no_reply : (message : Message) (k : ℕ) (kept : Kept) → is_reply message ≡ false → message ≡ reply_of k kept → ⊥
no_reply message k kept none same = apart (is_reply (reply_of k kept)) refl (subst (λ (m : Message). is_reply m ≡ false) same none)

-- a fetch that may be due
pub fetch_once : (me : ℕ) (s : Start) (st : State) (n : ℕ) (outputs : List Entry) (b : Bool) → is_output s.input ≡ false → ((k : ℕ) (kept : Kept) → SendsMessage me (reply_of k kept) outputs → kept.timestamp ≤ last_time st k)
    → SaysOnce me s st (cond b (Fetch n levels.Root 0 ∷ []) []) outputs
fetch_once me s st n outputs b begins older = record { begins = begins; unsaid = unsaid b; replies = λ k kept way. replies b k kept way }
  where
    unsaid : (b : Bool) → AreUnsent me (cond b (Fetch n levels.Root 0 ∷ []) []) outputs
    unsaid true = (λ other way. apart (is_fetching (Fetch n levels.Root 0)) refl other, tt)
    unsaid false = tt

    replies : (b : Bool) (k : ℕ) (kept : Kept) → IsOnItsWay me (cond b (Fetch n levels.Root 0 ∷ []) []) outputs (reply_of k kept) → kept.timestamp ≤ last_time st k
    replies true k kept (inl (inl same)) = absurd (no_reply (Fetch n levels.Root 0) k kept refl same)
    replies true k kept (inl (inr h)) = absurd h
    replies true k kept (inr given) = older k kept given
    replies false k kept (inl h) = absurd h
    replies false k kept (inr given) = older k kept given

-- ---- replies to requests that run

-- a call comes from one of the clients
call_client : (c : Configuration) (frame : List ℕ) (call : Call) → call_of c frame ≡ Some call → call.client < c.clients
call_client c frame call h =
    let r = and_then_some (call_in c) (said frame) call h in
    client r.0.sender r.0.message r.2
  where
    client : (sender : ℕ) (message : Message) → call_in c (record { sender = sender; message = message }) ≡ Some call → call.client < c.clients
    client sender (Request t mode op) k = go (same_mode mode modes.Ordered) (is_client c sender) refl k
      where
        of : is_client c sender ≡ true → call.client ≡ sender - 256 → call.client < c.clients
        of is own =
            let p = and_parts (nat_le 256 sender) (nat_lt sender (256 + c.clients)) is in
            let least : 256 ≤ sender = leb-true 256 sender p.0 in
            let below : sender < 256 + c.clients = ltb-true sender (256 + c.clients) p.1 in
            omega (arith, own, least, below)

        go : (a b : Bool) → is_client c sender ≡ b → cond (a && b) (Some (record { client = sender - 256; timestamp = t; op = op })) None ≡ Some call → call.client < c.clients
        go true true is m = of is (sym (ap (λ (x : Call). x.client) (some_injective _ call m)))
        go true false is m = absurd cc
        go false true is m = absurd cc
        go false false is m = absurd cc
    client sender _ k = absurd cc

abbrev pub time_of : Option Kept → ℕ
time_of o = option_map_or (λ (kept : Kept). kept.timestamp) o 0

-- after a request that ran, its timestamp is its client's last
ran_time : (st : State) (number : ℕ) (call : Call) → call.client < length st.replies → last_time (ran_call st number call) call.client ≡ call.timestamp
ran_time st number call within = ap time_of (get_or-set_same st.replies call.client (Some (kept_by st number call)) None within)

pub reply_client : (k j : ℕ) (kept other : Kept) → reply_of k kept ≡ reply_of j other → (k ≡ j) × (kept.timestamp ≡ other.timestamp)
reply_client k j kept other h = (let same = ap client_in h in omega arith, ap time_in h)
  where
    client_in : Message → ℕ
    client_in message = elim message [ Reply client timestamp mode number answer ↦ client | _ ↦ 0 ]

    time_in : Message → ℕ
    time_in message = elim message [ Reply client timestamp mode number answer ↦ timestamp | _ ↦ 0 ]

module _ (c : Configuration) (few : c.clients ≤ 256) (number : ℕ) where
  -- The replies to requests that run are newer than their clients' last timestamps before, and no newer than those
  -- after it.
  pub ran_times : (frames : List (List ℕ)) (st : State) (k : ℕ) (kept : Kept) → length st.replies ≡ 256 → Has (λ x. x ≡ reply_of k kept) (replies_to (ran_in c number st frames))
      → (last_time st k < kept.timestamp) × (kept.timestamp ≤ last_time (fold (run_frame c number) st frames) k)
  ran_times [] st k kept all h = absurd h
  ran_times (frame ∷ frames) st k kept all h = go (λ new. ran_times frames new k kept) (call_of c frame) refl h
    where
      ran : ((new : State) → length new.replies ≡ 256 → Has (λ x. x ≡ reply_of k kept) (replies_to (ran_in c number new frames)) → (last_time new k < kept.timestamp) × (kept.timestamp ≤ last_time (fold (run_frame c number) new frames) k))
          → (call : Call) → call.client < c.clients → (b : Bool) → runs st call ≡ b
          → Has (λ x. x ≡ reply_of k kept) (replies_to (cond b (record { call = call; kept = kept_by st number call } ∷ []) [] ++ ran_in c number (cond b (ran_call st number call) st) frames))
          → (last_time st k < kept.timestamp) × (kept.timestamp ≤ last_time (fold (run_frame c number) (cond b (ran_call st number call) st) frames) k)
      ran rest call within false e has = rest st all has
      ran rest call within true e (inl is) =
          let same = reply_client call.client k (kept_by st number call) kept is in
          let newer : last_time st call.client < call.timestamp = ltb-true (last_time st call.client) call.timestamp e in
          let before : last_time st k < call.timestamp = subst (λ (j : ℕ). last_time st j < call.timestamp) same.0 newer in
          let now : last_time (ran_call st number call) call.client ≡ call.timestamp = ran_time st number call (omega (arith, within, few, all)) in
          let here : last_time (ran_call st number call) k ≡ call.timestamp = subst (λ (j : ℕ). last_time (ran_call st number call) j ≡ call.timestamp) same.0 now in
          let later = frames_raise c number frames (ran_call st number call) k in
          let time : call.timestamp ≡ kept.timestamp = same.1 in
          (omega (arith, before, time), omega (arith, here, later, time))
      ran rest call within true e (inr has) =
          let after = rest (ran_call st number call) (length-set st.replies call.client (Some (kept_by st number call)) ∙ all) has in
          let raised : last_time st k ≤ last_time (ran_call st number call) k = subst (λ (b : Bool). last_time st k ≤ last_time (cond b (ran_call st number call) st) k) e (call_raises st number call k) in
          let above = after.0 in
          (omega (arith, raised, above), after.1)

      go : ((new : State) → length new.replies ≡ 256 → Has (λ x. x ≡ reply_of k kept) (replies_to (ran_in c number new frames)) → (last_time new k < kept.timestamp) × (kept.timestamp ≤ last_time (fold (run_frame c number) new frames) k))
          → (o : Option Call) → call_of c frame ≡ o → Has (λ x. x ≡ reply_of k kept) (replies_to (option_map_or (ran_by st number) o [] ++ ran_in c number (option_map_or (run_call st number) o st) frames))
          → (last_time st k < kept.timestamp) × (kept.timestamp ≤ last_time (fold (run_frame c number) (option_map_or (run_call st number) o st) frames) k)
      go rest None is has = rest st all has
      go rest (Some call) is has = ran rest call (call_client c frame call is) (runs st call) refl has

  -- Each of them will be said once, if the others are no newer than the last timestamps before.
  pub unsaid_replies : (me : ℕ) (frames : List (List ℕ)) (st : State) (rest : List Message) (outputs : List Entry) → length st.replies ≡ 256 → AreUnsent me rest outputs
      → ((k : ℕ) (kept : Kept) → IsOnItsWay me rest outputs (reply_of k kept) → kept.timestamp ≤ last_time st k)
      → AreUnsent me (replies_to (ran_in c number st frames) ++ rest) outputs
  unsaid_replies me [] st rest outputs all unsaid older = unsaid
  unsaid_replies me (frame ∷ frames) st rest outputs all unsaid older = go (λ new whole older_too. unsaid_replies me frames new rest outputs whole unsaid older_too) (call_of c frame) refl
    where
      ran : ((new : State) → length new.replies ≡ 256 → ((k : ℕ) (kept : Kept) → IsOnItsWay me rest outputs (reply_of k kept) → kept.timestamp ≤ last_time new k) → AreUnsent me (replies_to (ran_in c number new frames) ++ rest) outputs)
          → (call : Call) → call.client < c.clients → (b : Bool) → runs st call ≡ b
          → AreUnsent me (replies_to (cond b (record { call = call; kept = kept_by st number call } ∷ []) [] ++ ran_in c number (cond b (ran_call st number call) st) frames) ++ rest) outputs
      ran on call within false e = on st all older
      ran on call within true e = (λ other way. clash way, on new whole (λ k kept way. let was = older k kept way in let more = raised k in omega (arith, was, more)))
        where
          new : State
          new = ran_call st number call

          whole : length new.replies ≡ 256
          whole = length-set st.replies call.client (Some (kept_by st number call)) ∙ all

          raised : (k : ℕ) → last_time st k ≤ last_time new k
          raised k = subst (λ (b : Bool). last_time st k ≤ last_time (cond b (ran_call st number call) st) k) e (call_raises st number call k)

          newer : last_time st call.client < call.timestamp
          newer = ltb-true (last_time st call.client) call.timestamp e

          now : last_time new call.client ≡ call.timestamp
          now = ran_time st number call (omega (arith, within, few, all))

          clash : IsOnItsWay me (replies_to (ran_in c number new frames) ++ rest) outputs (reply_of call.client (kept_by st number call)) → ⊥
          clash (inr given) = let was = older call.client (kept_by st number call) (inr given) in let n = newer in absurd (omega (arith, was, n))
          clash (inl has) = among (has_either (λ x. x ≡ reply_of call.client (kept_by st number call)) (replies_to (ran_in c number new frames)) rest has)
            where
              among : Has (λ x. x ≡ reply_of call.client (kept_by st number call)) (replies_to (ran_in c number new frames)) ⊎ Has (λ x. x ≡ reply_of call.client (kept_by st number call)) rest → ⊥
              among (inl more) = let above = (ran_times frames new call.client (kept_by st number call) whole more).0 in let n = now in absurd (omega (arith, above, n))
              among (inr old) = let was = older call.client (kept_by st number call) (inl old) in let n = newer in absurd (omega (arith, was, n))

      go : ((new : State) → length new.replies ≡ 256 → ((k : ℕ) (kept : Kept) → IsOnItsWay me rest outputs (reply_of k kept) → kept.timestamp ≤ last_time new k) → AreUnsent me (replies_to (ran_in c number new frames) ++ rest) outputs)
          → (o : Option Call) → call_of c frame ≡ o → AreUnsent me (replies_to (option_map_or (ran_by st number) o [] ++ ran_in c number (option_map_or (run_call st number) o st) frames) ++ rest) outputs
      go on None is = on st all older
      go on (Some call) is = ran on call (call_client c frame call is) (runs st call) refl
