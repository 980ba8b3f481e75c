-- What a client's ordered request changes at a replica.
use Rattle.std.proofs.Common.{◌≡◌, ℕ, ◌+◌, ◌-◌, ◌<◌, ◌≤◌, ◌⊎◌, inl, inr, Bool, true, false, cond, not, ◌==◌, List, [], ◌∷◌, ◌++◌, filter, Option, Some, None, is_some, refl, sym, ap, ◌∙◌, subst, arith}
use Rattle.std.specs.Prelude.{nat_le, option_and_then}
use Rattle.std.specs.Option.{option_map_or}
use Rattle.std.proofs.lemmas.Bool.{le-leb}
use Rattle.tuple_codec.specs.Operations.{Operation, upgrade as Upgrade}
use Rattle.terms.specs.declared.parties.ClientId.{ClientId}
use Rattle.terms.specs.declared.order.Mode.TheVariants as modes
use Rattle.terms.specs.declared.order.Timestamp.{Timestamp}
use Rattle.wire_format.specs.Messages.{BodyData as Body, MessageData as Message, request as Request}
use Rattle.wire_format.proofs.Saying.{reads_said}
use Rattle.authenticator.specs.Membership.{has_sender}
use Rattle.signing.specs.AuthenticBody.{authentic}
use Rattle.signing.proofs.AuthenticBody.{authentic_was_opened}
use Rattle.events.specs.declared.output.Output.{Output}
use Rattle.reply_cache.specs.Replies.{Kept}
use Rattle.ordering.specs.Log.{LogData}
use Rattle.protocol.specs.System.Configuration.{Configuration, is_client, members}
use Rattle.protocol.specs.System.Trace.{Entry, Has}
use Rattle.protocol.specs.System.Trace.Entry.{Got}
use Rattle.protocol.specs.Replica.Certificates.{taken, new_view_from}
use Rattle.protocol.specs.Replica.State.{State, Call, call_in, call_of, kept_of, last_time}
use Rattle.protocol.specs.Replica.RightReplica.{Point, with_waiting}
use Rattle.protocol.specs.Replica.Owed.{IsNoOlder}
use Rattle.replica_histories.specs.Questions.{AnswersInput}
use Rattle.replica_histories.specs.Desk.{Desk}
use Rattle.replica_histories.specs.Logs.{FitsLog}
use Rattle.replica_histories.specs.Events as histories
use Rattle.replica_histories.specs.Events.{Start, IsTaken}
use Rattle.replica_histories.specs.Inputs.{BytesEnter, IsBesideLog, again_for, replies_again}
use Rattle.replica_histories.proofs.Counting.{requests_count, others_drop}
use Rattle.replica_histories.proofs.Entering.{inputs_fit}
use Rattle.replica_histories.specs.Changes.{FitsChanges, LogPassesEntry, IsNoBatch, IsNoChange}
use Rattle.replica_histories.proofs.ChangesPassing.{inputs_enter}
use Rattle.replica_histories.proofs.ChangesKept.{received_keep, others_bring_none}
use Rattle.replica_histories.proofs.Questions.{new_requests_owe_none}
use Rattle.replica_histories.proofs.Resending.{resending_suffices, waiting_are_new}
use Rattle.protocol.proofs.Words.Linking.{heard_said}
use Rattle.protocol.proofs.Words.Reacting.{proceeds_leaves}
use Rattle.protocol.proofs.Points.Invoking.{call_body}
use Rattle.desk.specs.declared.waiting.WaitingRequest.{WaitingRequest}
use Rattle.replica.specs.declared.taking.DueWork.TheVariants as due_work
use Rattle.orderer.specs.State.{OrdererData}
use Rattle.replica.specs.State.{BothPartsData, AreOne, Gives, heard}
use Rattle.desk.specs.State.{DeskData}
use Rattle.desk.specs.Waiting.{WaitingData, frames_waiting, is_assigned, is_of, request_of, with_request, without_client}
use Rattle.orderer.specs.Flags.{FitsFlags}
use Rattle.replica.specs.Desks.{PartsFitEvent}
use Rattle.orderer.specs.Fitting.{FitsWaiting, FitsEvent, given, changes_held}
use Rattle.replica.proofs.Desking.{PaysAgain}
use Rattle.desk.specs.Desking.{HasReply, RequestWaits}
use Rattle.desk.specs.Arriving.{IsBehind, IsPast, IsWaitingAlready, IsNewer}
use Rattle.desk.specs.DeskOf.{waiting_call, waiting_calls, desk_of, IsDeskOf}
use Rattle.replica.specs.BothParts.{BothPartsMatchHistory, me_of}
use Rattle.replica.specs.Numbering.{AllAgain}
use Rattle.replica.specs.Entering.{event_of, IsLeftToDo, TakesBytes, TakesRequest}
use Rattle.replica.proofs.Beginning.{rests, none_taken, changes_kept}
use Rattle.replica.proofs.GoingOn.{again_stands}
use Rattle.replica.proofs.Parties.{one_self}
use Rattle.orderer.proofs.Flags.{flags_waiting}
use Rattle.orderer.proofs.Staying.{numbers_beside, said_on}
use Rattle.replica.proofs.WaitingOn.{AreOlder, found_call, found_spells, none_waits, older, no_older, no_older_same, is_latest, seen_before, waits_before, latest, calls_replaced, spelled_replaced, differ_replaced, frames_replaced}
use Rattle.orderer.proofs.Parties.{same_log}
use Rattle.orderer.proofs.Again.{all_goes}

-- ---- received requests

abbrev body_of : ℕ → ℕ → Operation → Body
body_of k t op = record { sender = 256 + k; message = Request t modes.Ordered op }

abbrev call_for : ℕ → ℕ → Operation → Call
call_for k t op = record { client = k; timestamp = t; op = op }

back : (k : ℕ) → 256 + k - 256 ≡ k
back k = omega arith

module _ (c : Configuration) (me : ℕ) (bytes : List ℕ) (k t : ℕ) (op : Operation) (h : authentic (members c me) me bytes ≡ Some (body_of k t op)) where
  -- the call of the request
  call_is : call_in c (body_of k t op) ≡ Some (call_for k t op)
  call_is = go (is_client c (256 + k)) known
    where
      known : is_client c (256 + k) ≡ true
      known = let o = authentic_was_opened (members c me) me bytes (body_of k t op) h in
          ap (has_sender (members c me)) (sym o.body_is) ∙ o.opens.sender

      go : (b : Bool) → b ≡ true → cond b (Some (call_for (256 + k - 256) t op)) None ≡ Some (call_for k t op)
      go true e = ap (λ (n : ℕ). Some (call_for n t op)) (back k)
      go false e = absurd cc

  call_heard : option_and_then (call_in c) (authentic (members c me) me bytes) ≡ Some (call_for k t op)
  call_heard = ap (option_and_then (call_in c)) h ∙ call_is

  call_of_bytes : call_of c bytes ≡ Some (call_for k t op)
  call_of_bytes =
      let o = authentic_was_opened (members c me) me bytes (body_of k t op) h in
      ap (option_and_then (call_in c)) (reads_said bytes o.frame o.opens.spelled ∙ ap Some o.body_is) ∙ call_is

  asked_is : (st : State) → replies_again st (authentic (members c me) me bytes) ≡ again_for k t (kept_of st k)
  asked_is st = ap (replies_again st) h ∙ go (nat_le 256 (256 + k)) (le-leb 256 (256 + k) (omega arith))
    where
      go : (b : Bool) → b ≡ true → cond b (again_for (256 + k - 256) t (kept_of st (256 + k - 256))) [] ≡ again_for k t (kept_of st k)
      go true e = ap (λ (n : ℕ). again_for n t (kept_of st n)) (back k)
      go false e = absurd cc

  -- the log takes nothing of it
  enters : (log : LogData) (past : List Entry) (desk new : Desk) → FitsLog c me log past → new.state ≡ desk.state → new.snapshots ≡ desk.snapshots → new.transfer ≡ desk.transfer
      → new.waiting ≡ with_waiting desk.state desk.waiting (call_for k t op)
      → ((frame : List ℕ) → Has (λ x. x ≡ frame) new.frames → Has (λ x. x ≡ frame) desk.frames ⊎ (frame ≡ bytes))
      → BytesEnter c me bytes desk new log log (again_for k t (kept_of desk.state k))
  enters log past desk new fits state snapshots transfer waiting frames = record {
    takes = others_drop c me log past bytes fits (subst IsBesideLog (sym h) tt);
    state = state;
    snapshots = snapshots;
    transfer = transfer;
    waiting = waiting ∙ sym (ap (λ (o : Option Call). option_map_or (with_waiting desk.state desk.waiting) o desk.waiting) call_heard);
    frames = λ frame has. here frame (frames frame has);
    due_is = sym (asked_is desk.state);
  }
    where
      here : (frame : List ℕ) → Has (λ x. x ≡ frame) desk.frames ⊎ (frame ≡ bytes) → Has (λ x. x ≡ frame) desk.frames ⊎ ((frame ≡ bytes) × (is_some (authentic (members c me) me bytes) ≡ true))
      here frame (inl x) = inl x
      here frame (inr x) = inr (x, ap is_some h)

-- a request older than the waiting one is not the waiting one
not_behind : (c : Configuration) (me : ℕ) (bytes : List ℕ) (k t : ℕ) (op : Operation) (r : WaitingRequest) → authentic (members c me) me bytes ≡ Some (body_of k t op) → call_of c r.frame.items ≡ Some (call_for k t op)
    → waiting_call c r ≡ call_for k t op → IsBehind r t bytes → ⊥
not_behind c me bytes k t op r receives spells is (inl below) = let same = ap (λ (x : Call). x.timestamp) is in omega (arith, below, same)
not_behind c me bytes k t op r receives spells is (inr (same, other)) = other (call_body c r.frame.items (call_for k t op) spells ∙ sym (heard_said c me bytes (body_of k t op) receives))

-- ---- a replica gets it

seen_of_kept : (st : State) (k t : ℕ) (kept : Kept) → kept_of st k ≡ Some kept → kept.timestamp ≡ t → t ≤ last_time st k
seen_of_kept st k t kept has same = go (kept_of st k) has
  where
    go : (o : Option Kept) → o ≡ Some kept → t ≤ option_map_or (λ x. x.timestamp) o 0
    go None e = absurd cc
    go (Some x) e = let one : x.timestamp ≡ kept.timestamp = cc in omega (arith, one, same)

module _ (old : BothPartsData) (client : ClientId) (timestamp : Timestamp) (bytes : List ℕ) (one : AreOne old.orderer old.desk) (op : Operation)
    (receives : heard old.orderer bytes ≡ Some (body_of client.number timestamp.0 op)) where
  abbrev k : ℕ
  k = client.number

  abbrev t : ℕ
  t = timestamp.0

  -- the kept reply
  abbrev due : List Message
  due = again_for k t (kept_of old.desk.executed.state k)

  module _ (c : Configuration) (past : List Entry) (runs : BothPartsMatchHistory c old past) (known : Gives c old.orderer) where
    abbrev start : Start
    start = event_of c old past runs bytes

    abbrev input : Entry
    input = Got (me_of old) bytes

    h : authentic (members c (me_of old)) (me_of old) bytes ≡ Some (body_of k t op)
    h = ap (λ m. authentic m (me_of old) bytes) known ∙ receives

    -- it brings no new view
    free : taken c past input ≡ None
    free = none_taken c past input (ap (option_and_then (new_view_from c)) h)

    -- which requests have a number after it
    numbers : FitsWaiting c (me_of old) old.orderer old.desk.waiting (desk_of c old.desk) (input ∷ past)
    numbers = numbers_beside c (me_of old) old.desk.waiting old.orderer (desk_of c old.desk) past input runs.holds.of_log.fits.faults runs.holds.of_log.fits.own
        (record { here = refl; none = free; sends = refl }) runs.numbers

    -- the view-change data stay
    changes : LogPassesEntry c (me_of old) past input old.orderer.log old.orderer.log → FitsChanges c (me_of old) old.orderer.log (changes_held old.orderer) (input ∷ past)
    changes = changes_kept old one c past runs bytes old.orderer.log (same_log old.orderer.log) refl
        (λ passes. received_keep c (me_of old) past bytes free (subst IsNoBatch (sym h) tt) (λ s other. others_bring_none c (me_of old) s past bytes (subst IsNoChange (sym h) tt) other))

    -- the kept reply is due
    stands : (d : DeskData) → d.me ≡ old.desk.me → IsDeskOf c d → BytesEnter c (me_of old) bytes (desk_of c old.desk) (desk_of c d) old.orderer.log old.orderer.log due
        → FitsWaiting c (me_of old) old.orderer d.waiting (desk_of c d) (input ∷ past)
        → PartsFitEvent c start old.orderer d due []
    stands d me is e counted = record {
      is = is;
      fits = subst (λ (n : ℕ). FitsEvent c n start old.orderer (desk_of c d) d.waiting due []) (sym (me ∙ one.0)) (record {
        fits = entered;
        numbers = counted;
        said = said_on (me_of old) old.orderer.last_checkpoint past input runs.said;
        changes = changes (inputs_enter c (me_of old) (desk_of c old.desk) (desk_of c d) old.orderer.log old.orderer.log due past input runs.holds entered);
        meant = tt;
      });
    }
      where
        entered : histories.BothFitWithinEvent c (me_of old) start (desk_of c d) old.orderer.log due []
        entered = inputs_fit c (me_of old) (desk_of c old.desk) (desk_of c d) old.orderer.log old.orderer.log due past bytes runs.holds free e

    -- nothing else changes, if it doesn't wait
    stands_same : is_latest old.desk.executed.state (waiting_calls c old.desk.waiting.requests) (call_for k t op) ≡ false → PartsFitEvent c start old.orderer old.desk due []
    stands_same early =
        stands old.desk refl runs.is_desk
        (enters c (me_of old) bytes k t op h old.orderer.log past (desk_of c old.desk) (desk_of c old.desk) runs.holds.of_log.fits refl refl refl
        (sym (ap (λ (b : Bool). cond b (filter (λ other. not (other.client == k)) (waiting_calls c old.desk.waiting.requests) ++ call_for k t op ∷ []) (waiting_calls c old.desk.waiting.requests)) early)) (λ frame x. inl x))
        numbers

    stands_seen : t ≤ last_time old.desk.executed.state k → PartsFitEvent c start old.orderer old.desk due []
    stands_seen le = stands_same (seen_before old.desk.executed.state (waiting_calls c old.desk.waiting.requests) k t op le)

    stands_waiting : (r : WaitingRequest) → request_of k old.desk.waiting ≡ Some r → t ≤ r.timestamp.0 → PartsFitEvent c start old.orderer old.desk due []
    stands_waiting r found le = stands_same (waits_before c old.desk.executed.state k t op old.desk.waiting.requests r found le)

    stands_past : IsPast old.desk k t bytes → PartsFitEvent c start old.orderer old.desk due []
    stands_past (inl le) = stands_seen le
    stands_past (inr (r, found, behind)) = stands_waiting r found (at_most r behind)
      where
        at_most : (r : WaitingRequest) → IsBehind r t bytes → t ≤ r.timestamp.0
        at_most r (inl below) = omega (arith, below)
        at_most r (inr other) = let same = other.0 in omega (arith, same)

    -- it counts
    counts : ((kept : Kept) × (kept_of old.desk.executed.state k ≡ Some kept) × (kept.timestamp ≡ t)) ⊎ ((last_time old.desk.executed.state k < t) × IsNoOlder (waiting_calls c old.desk.waiting.requests) k t op)
        → IsTaken c (me_of old) start
    counts x = (body_of k t op, h, requests_count c (me_of old) (desk_of c old.desk) old.orderer.log past bytes k t op runs.holds x)

    abbrev point : Point
    point = runs.holds.of_desk.point

    -- it doesn't wait
    abbrev IsFresh : Type 0
    IsFresh = Has (λ x. x ≡ call_for k t op) (waiting_calls c old.desk.waiting.requests) → ⊥

    point_waits : point.waiting ≡ (waiting_calls c old.desk.waiting.requests)
    point_waits = ap (λ (p : Point). p.waiting) runs.holds.of_desk.is

    -- then nothing goes again
    owes_none : IsFresh → (outputs : List Entry) (executed : ℕ) → AnswersInput c (me_of old) past input outputs point executed
    owes_none fresh outputs executed =
        new_requests_owe_none c (me_of old) past input outputs point executed (call_for k t op) h (λ has. fresh (subst (λ (xs : List Call). Has (λ x. x ≡ call_for k t op) xs) point_waits has))

    seen_fresh : t ≤ last_time old.desk.executed.state k → IsFresh
    seen_fresh le has =
        let above = waiting_are_new c (me_of old) past point (call_for k t op) (proceeds_leaves c (me_of old) past [] point point runs.holds.of_desk.proceeds)
        (subst (λ (xs : List Call). Has (λ x. x ≡ call_for k t op) xs) (sym point_waits) has) in
        let at : last_time point.state k ≡ last_time old.desk.executed.state k = ap (λ (st : State). last_time st k) (ap (λ (p : Point). p.state) runs.holds.of_desk.is) in
        omega (arith, above, at, le)

    past_fresh : IsPast old.desk k t bytes → IsFresh
    past_fresh (inl le) has = seen_fresh le has
    past_fresh (inr (r, found, behind)) has =
        not_behind c (me_of old) bytes k t op r h (found_spells c k old.desk.waiting.requests r (call_for k t op) runs.is_desk.calls runs.is_desk.differ found has refl)
        (found_call c k old.desk.waiting.requests r (call_for k t op) runs.is_desk.differ found has refl).1 behind

    -- if nothing is touched
    leaves : (outs : List Output) → AnswersInput c (me_of old) past input (given (me_of old) outs) point old.desk.executed.state.number → (outs ≡ []) ⊎ IsTaken c (me_of old) start → IsLeftToDo c start due_work.Nothing old outs
    leaves outs answered silent = (rests c old past runs, runs.all, answered, silent)

  -- ---- what the replica sends for it

  due_none : (d : DeskData) (c : Configuration) (s : Start) (o : OrdererData) (outs : List Output) → due ≡ [] → PartsFitEvent c s o d due outs → PartsFitEvent c s o d [] outs
  due_none d c s o outs none st = subst (λ (ms : List Message). PartsFitEvent c s o d ms outs) none st

  -- the kept reply goes again
  takes_kept : (outs : List Output) → PaysAgain old.desk client timestamp [] outs → HasReply old.desk client timestamp true → TakesBytes bytes old due_work.Nothing old outs
  takes_kept outs pays (kept, has, same) = record {
    party = one_self old;
    begins = λ c past runs known. (
      pays c (start c past runs known) old.orderer (stands_seen c past runs known (seen_of_kept old.desk.executed.state k t kept has same)),
      leaves c past runs known outs (owes_none c past runs known (seen_fresh c past runs known (seen_of_kept old.desk.executed.state k t kept has same)) (given (me_of old) outs) old.desk.executed.state.number)
          (inr (counts c past runs known (inl (kept, has, same)))),
      runs.nothing_begins,
    );
  }

  -- a past request is dropped
  takes_past : (outs : List Output) → due ≡ [] → outs ≡ [] → IsPast old.desk k t bytes → TakesBytes bytes old due_work.Nothing old outs
  takes_past outs none silent is = record {
    party = one_self old;
    begins = λ c past runs known. (
      subst (λ (xs : List Output). PartsFitEvent c (start c past runs known) old.orderer old.desk [] xs) (sym silent)
          (due_none old.desk c (start c past runs known) old.orderer [] none (stands_past c past runs known is)),
      leaves c past runs known outs (owes_none c past runs known (past_fresh c past runs known is) (given (me_of old) outs) old.desk.executed.state.number) (inl silent),
      runs.nothing_begins,
    );
  }

  -- a request that waits already makes the replica send again what it sent
  takes_again : (outs : List Output) → due ≡ [] → IsWaitingAlready old.desk k t bytes → AllAgain old [] old outs → TakesBytes bytes old due_work.Nothing old outs
  takes_again outs none (lt, r, found, same, says) again = record {
    party = one_self old;
    begins = λ c past runs known. (
      again_stands old outs one again.goes c (start c past runs known) known
          (due_none old.desk c (start c past runs known) old.orderer [] none (stands_waiting c past runs known r found (omega (arith, same)))),
      leaves c past runs known outs (given_again c past runs known) (inr (counts c past runs known (inr (
        lt,
        no_older_same c k t op old.desk.waiting.requests r runs.is_desk.calls runs.is_desk.differ found
            (ap (option_and_then (call_in c)) says ∙ call_of_bytes c (me_of old) bytes k t op (h c past runs known)),
      )))),
      runs.nothing_begins,
    );
  }
    where
      given_again : (c : Configuration) (past : List Entry) (runs : BothPartsMatchHistory c old past) (known : Gives c old.orderer)
          → AnswersInput c (me_of old) past (Got (me_of old) bytes) (given (me_of old) outs) runs.holds.of_desk.point old.desk.executed.state.number
      given_again c past runs known =
          resending_suffices c (me_of old) (desk_of c old.desk) old.orderer.log past (Got (me_of old) bytes) (given (me_of old) outs) (changes_held old.orderer) (call_for k t op) old.desk.executed.state.number runs.holds runs.changes (h c past runs known)
          (all_goes c old.orderer outs known runs.holds.of_log.fits.own old.desk.executed.state.number again.active again.inactive)

  -- a newer request waits
  module _ (outs : List Output) (desk : DeskData) (none : due ≡ []) (silent : outs ≡ []) (newer : IsNewer old.desk k t) (waits : RequestWaits client timestamp bytes old.desk desk) where
    abbrev more : WaitingData
    more = with_request client timestamp waits.0 (without_client k old.desk.waiting)

    abbrev r : WaitingRequest
    r = record { client = client; timestamp = timestamp; frame = waits.0; numbered = is_assigned old.desk.waiting.assigned k t }

    abbrev waiting_desk : DeskData
    waiting_desk = record old.desk { waiting = more }

    module _ (c : Configuration) (past : List Entry) (runs : BothPartsMatchHistory c old past) (known : Gives c old.orderer) where
      abbrev calls : List Call
      calls = waiting_calls c old.desk.waiting.requests

      spelled : call_of c r.frame.items ≡ Some (call_for k t op)
      spelled = ap (call_of c) waits.1 ∙ call_of_bytes c (me_of old) bytes k t op (h c past runs known)

      are_older : AreOlder k t old.desk.waiting.requests
      are_older = older k t old.desk.waiting.requests runs.is_desk.differ newer.1

      same_call : waiting_call c r ≡ call_for k t op
      same_call = ap (λ (o : Option Call). record { client = k; timestamp = t; op = option_map_or (λ x. x.op) o Upgrade }) spelled

      is_new : IsDeskOf c waiting_desk
      is_new = record {
        members_are = runs.is_desk.members_are;
        period_is = runs.is_desk.period_is;
        rests = runs.is_desk.rests;
        calls = spelled_replaced c k old.desk.waiting.requests r runs.is_desk.calls (spelled ∙ ap Some (sym same_call));
        differ = differ_replaced k old.desk.waiting.requests r refl runs.is_desk.differ;
      }

      frames_are : (frame : List ℕ) → Has (λ x. x ≡ frame) (frames_waiting more) → Has (λ x. x ≡ frame) (frames_waiting old.desk.waiting) ⊎ (frame ≡ bytes)
      frames_are frame x = go (frames_replaced (λ x. not (is_of k x)) old.desk.waiting.requests r frame x)
        where
          go : Has (λ x. x ≡ frame) (frames_waiting old.desk.waiting) ⊎ (frame ≡ r.frame.items) → Has (λ x. x ≡ frame) (frames_waiting old.desk.waiting) ⊎ (frame ≡ bytes)
          go (inl y) = inl y
          go (inr y) = inr (y ∙ waits.1)

      is_first : is_latest old.desk.executed.state calls (waiting_call c r) ≡ true
      is_first = subst (λ (x : Call). is_latest old.desk.executed.state calls x ≡ true) (sym same_call) (latest c old.desk.executed.state k t op old.desk.waiting.requests newer.0 are_older)

      waiting_is : with_waiting old.desk.executed.state calls (waiting_call c r) ≡ waiting_calls c more.requests
      waiting_is = ap (λ (b : Bool). cond b (filter (λ x. not (x.client == k)) calls ++ waiting_call c r ∷ []) calls) is_first ∙ sym (calls_replaced c k old.desk.waiting.requests r)

      new_numbers : FitsWaiting c (me_of old) old.orderer more (desk_of c waiting_desk) (Got (me_of old) bytes ∷ past)
      new_numbers own = subst (λ (xs : List Call). FitsFlags c (me_of old) old.orderer.log.view old.orderer.used more old.desk.executed.state xs (Got (me_of old) bytes ∷ past)) waiting_is
          (flags_waiting c (me_of old) old.orderer.log.view old.orderer.used old.desk.waiting old.desk.executed.state calls (Got (me_of old) bytes ∷ past) r refl is_first (numbers c past runs known own))

      stands_new : PartsFitEvent c (start c past runs known) old.orderer waiting_desk due []
      stands_new = stands c past runs known waiting_desk refl is_new
          (enters c (me_of old) bytes k t op (h c past runs known) old.orderer.log past (desk_of c old.desk) (desk_of c waiting_desk) runs.holds.of_log.fits refl refl refl
          (sym (ap (with_waiting old.desk.executed.state calls) (sym same_call) ∙ waiting_is)) frames_are)
          new_numbers

    takes_new_so : TakesBytes bytes old due_work.Waiting (record old { desk = waiting_desk }) outs
    takes_new_so = record {
      party = record { endpoint = refl; me = refl; membership = refl };
      begins = λ c past runs known. (
        subst (λ (xs : List Output). PartsFitEvent c (start c past runs known) old.orderer waiting_desk [] xs) (sym silent)
            (due_none waiting_desk c (start c past runs known) old.orderer [] none (stands_new c past runs known)),
        (
          rests c old past runs,
          (
            counts c past runs known (inr (
              newer.0,
              no_older c k t op old.desk.waiting.requests (are_older c past runs known),
            )),
            owes_none c past runs known (λ has. none_waits c k t op old.desk.waiting.requests (are_older c past runs known) has),
          ),
        ),
        runs.nothing_begins,
      );
    }

    takes_new : TakesBytes bytes old due_work.Waiting (record old { desk = desk }) outs
    takes_new = subst (λ (d : DeskData). TakesBytes bytes old due_work.Waiting (record old { desk = d }) outs) (sym waits.2) takes_new_so

-- ---- what a request does

-- what the same replica sends again, from the first output on
pub all_again : (before old new : BothPartsData) (x y : List Output) → before ≡ old → AllAgain before x new y → x ≡ [] → AllAgain old [] old y
all_again before old new x y same says first =
    let own : AllAgain old [] new y = subst (λ (xs : List Output). AllAgain old xs new y) first (subst (λ (r : BothPartsData). AllAgain r x new y) same says) in
    subst (λ (r : BothPartsData). AllAgain old [] r y) own.same own

abbrev Silent : BothPartsData → ClientId → Timestamp → Type 0
Silent old client timestamp = again_for client.number timestamp.0 (kept_of old.desk.executed.state client.number) ≡ []

pub request_kept : (old : BothPartsData) (client : ClientId) (timestamp : Timestamp) (bytes : List ℕ) (new : BothPartsData) (outs : List Output) → AreOne old.orderer old.desk → new ≡ old
    → PaysAgain old.desk client timestamp [] outs → HasReply old.desk client timestamp true → TakesRequest client timestamp bytes old due_work.Nothing new outs
request_kept old client timestamp bytes new outs one same pays has op receives =
    subst (λ (r : BothPartsData). TakesBytes bytes old due_work.Nothing r outs) (sym same) (takes_kept old client timestamp bytes one op receives outs pays has)

pub request_past : (old : BothPartsData) (client : ClientId) (timestamp : Timestamp) (bytes : List ℕ) (new : BothPartsData) (outs : List Output) → AreOne old.orderer old.desk → new ≡ old
    → Silent old client timestamp → outs ≡ [] → IsPast old.desk client.number timestamp.0 bytes → TakesRequest client timestamp bytes old due_work.Nothing new outs
request_past old client timestamp bytes new outs one same none silent is op receives =
    subst (λ (r : BothPartsData). TakesBytes bytes old due_work.Nothing r outs) (sym same) (takes_past old client timestamp bytes one op receives outs none silent is)

pub request_again : (old : BothPartsData) (client : ClientId) (timestamp : Timestamp) (bytes : List ℕ) (new : BothPartsData) (outs : List Output) → AreOne old.orderer old.desk → new ≡ old
    → Silent old client timestamp → IsWaitingAlready old.desk client.number timestamp.0 bytes → AllAgain old [] old outs → TakesRequest client timestamp bytes old due_work.Nothing new outs
request_again old client timestamp bytes new outs one same none is says op receives =
    subst (λ (r : BothPartsData). TakesBytes bytes old due_work.Nothing r outs) (sym same) (takes_again old client timestamp bytes one op receives outs none is says)

pub request_new : (old : BothPartsData) (client : ClientId) (timestamp : Timestamp) (bytes : List ℕ) (desk : DeskData) (outs : List Output) → AreOne old.orderer old.desk
    → Silent old client timestamp → outs ≡ [] → IsNewer old.desk client.number timestamp.0 → RequestWaits client timestamp bytes old.desk desk
    → TakesRequest client timestamp bytes old due_work.Waiting (record old { desk = desk }) outs
request_new old client timestamp bytes desk outs one none silent newer waits op receives = takes_new old client timestamp bytes one op receives outs desk none silent newer waits
