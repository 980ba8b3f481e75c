-- What an input asks: a part, a read, what the replica sent for a waiting request, or whether it has to move.
use Rattle.std.proofs.Common.{◌≡◌, ℕ, ◌+◌, ◌-◌, inl, inr, Bool, true, false, List, Option, None, Some, refl, sym, ap, ◌∙◌, subst, arith}
use Rattle.tuple_codec.specs.Operations.{Operation}
use Rattle.terms.specs.declared.order.Mode.TheVariants as modes
use Rattle.terms.specs.declared.state.Level.{Level}
use Rattle.wire_format.specs.Messages.{BodyData as Body, fetch as Fetch, meta as Meta, page as Page, MessageData as Message, request as Request, view_change as ViewChange}
use Rattle.signing.specs.AuthenticBody.{authentic}
use Rattle.protocol.specs.System.Configuration.{Configuration, members}
use Rattle.protocol.specs.System.Frames.{same_mode}
use Rattle.protocol.specs.System.Trace.{Entry, Has, Receives}
use Rattle.protocol.specs.System.Trace.Entry.{Got}
use Rattle.protocol.specs.Replica.Owed.{HasToMove}
use Rattle.protocol.specs.Replica.RightReplica.{Point}
use Rattle.protocol.specs.Replica.State.{Call}
use Rattle.protocol.specs.Replica.Transfers.{place_from}
use Rattle.protocol.proofs.Words.Moving.{no_time}
use Rattle.protocol.proofs.Words.Options.{some_injective}
use Rattle.replica_histories.specs.Questions.{is_question, is_part, has_question, brings_question, OthersOweNone, OwesReadReply, AnswersDigests, AnswersPages, read_from, asks_part, has_part, brings_part, OwesViewChange, OthersOweNoPart, NewRequestsOweNone, AnswersWaiting, ordered_from}
use Rattle.replica_histories.specs.TransfersAnswers.{AnswersFetches}
use Rattle.replica_histories.proofs.TransfersAnswering.{hears_one}

-- a body is a view change
abbrev pub is_change : Body → Bool
is_change body = elim body.message [ ViewChange vc ↦ true | _ ↦ false ]

-- The body of an input tells whether it asks for a part, or is a request.
part_so : (c : Configuration) (me : ℕ) (body : Body) (before : List Entry) (input : Entry) → Receives c me body before input → brings_part c me input ≡ asks_part body
part_so c me body before (Got p bytes) h = ap has_part h
part_so c me body before _ h = absurd h

pub others_owe_no_part : OthersOweNoPart
others_owe_no_part c me before input outputs old executed none = (
  λ s k index level receives st is. absurd (let bad : false ≡ true = sym none ∙ part_so c me (record { sender = s; message = Fetch k level index }) before input receives in cc),
  λ client t op receives is. absurd (let bad : false ≡ true = sym none ∙ part_so c me (read_from client t op) before input receives in cc),
  λ s k index level digests receives awaited. absurd (let bad : false ≡ true = sym none ∙ part_so c me (record { sender = s; message = Meta k level index digests }) before input receives in cc),
  λ s k index text receives awaited. absurd (let bad : false ≡ true = sym none ∙ part_so c me (record { sender = s; message = Page k index text }) before input receives in cc),
  λ waits. absurd (let bad : false ≡ true = sym none ∙ part_so c me (ordered_from waits.0) before input waits.2 in cc),
)

-- Received bytes that ask nothing give no reason to move.
no_question : (c : Configuration) (me p : ℕ) (before : List Entry) (bytes : List ℕ) (waiting : List Call) (v : ℕ) → has_question (authentic (members c me) me bytes) ≡ false → HasToMove c me before (Got p bytes) waiting v → ⊥
no_question c me p before bytes waiting v none (inl t) = no_time c me p before bytes waiting v t
no_question c me p before bytes waiting v none (inr (taken, joins)) = absurd (let bad : false ≡ true = sym none ∙ ap has_question taken.2 in cc)

pub no_move_owed : (c : Configuration) (me : ℕ) (before : List Entry) (input : Entry) (outputs : List Entry) (old : Point) → brings_question c me input ≡ false → OwesViewChange c me before input outputs old
no_move_owed c me before (Got p bytes) outputs old none = λ vc other reason may within says. absurd (no_question c me p before bytes old.waiting vc.view none reason)
no_move_owed c me before _ outputs old none = absurd cc

-- an input that asks nothing asks for no part
part_of : (sender : ℕ) (message : Message) → is_question (record { sender = sender; message = message }) ≡ false → asks_part (record { sender = sender; message = message }) ≡ false
part_of sender (Request t mode op) h = h
part_of sender (Fetch k level index) h = h
part_of sender (Meta k level index digests) h = h
part_of sender (Page k index text) h = h
part_of sender _ h = refl

no_part : (c : Configuration) (me : ℕ) (input : Entry) → brings_question c me input ≡ false → brings_part c me input ≡ false
no_part c me (Got p bytes) none = go (authentic (members c me) me bytes) none
  where
    go : (o : Option Body) → has_question o ≡ false → has_part o ≡ false
    go None h = refl
    go (Some body) h = part_of body.sender body.message h
no_part c me _ none = refl

pub others_owe_none : OthersOweNone
others_owe_none c me before input outputs old executed none =
    let parts = others_owe_no_part c me before input outputs old executed (no_part c me input none) in (parts.0, parts.1, parts.2, parts.3, parts.4, no_move_owed c me before input outputs old none)

-- An input that asks for a part or a read asks for no move.
no_change_heard : (c : Configuration) (me p : ℕ) (body : Body) (before : List Entry) (bytes : List ℕ) (waiting : List Call) (v : ℕ) → authentic (members c me) me bytes ≡ Some body → is_change body ≡ false
    → HasToMove c me before (Got p bytes) waiting v → ⊥
no_change_heard c me p body before bytes waiting v receives none (inl t) = no_time c me p before bytes waiting v t
no_change_heard c me p body before bytes waiting v receives none (inr (taken, joins)) =
    absurd (let bad : false ≡ true = sym none ∙ ap is_change (some_injective body (record { sender = taken.0; message = ViewChange taken.1 }) (sym receives ∙ taken.2)) in cc)

pub hears_no_move : (c : Configuration) (me : ℕ) (body : Body) (before : List Entry) (input : Entry) (outputs : List Entry) (old : Point) → Receives c me body before input → is_change body ≡ false
    → OwesViewChange c me before input outputs old
hears_no_move c me body before (Got p bytes) outputs old receives none = λ vc other reason may within says. absurd (no_change_heard c me p body before bytes old.waiting vc.view receives none reason)
hears_no_move c me body before _ outputs old receives none = absurd receives

-- ---- the replica owes nothing to a transfer if the input is no part

module _ (c : Configuration) (me : ℕ) (body : Body) (before : List Entry) (input : Entry) (receives : Receives c me body before input) where
  -- all bodies of the input are parts, or none is
  same_kind : (other : Body) → Receives c me other before input → is_part body ≡ is_part other
  same_kind other h = ap is_part (hears_one c me body other before input receives h)

  pub others_bring_no_part : (outputs : List Entry) (old : Point) (executed : ℕ) → is_part body ≡ false → AnswersDigests c me before input outputs old executed × AnswersPages c me before input outputs old executed
  others_bring_no_part outputs old executed none = (
    λ s k index level digests h awaited. absurd (let bad : false ≡ true = sym none ∙ same_kind (record { sender = s; message = Meta k level index digests }) h in cc),
    λ s k index text h awaited. absurd (let bad : false ≡ true = sym none ∙ same_kind (record { sender = s; message = Page k index text }) h in cc),
  )

  -- and a part asks for nothing else
  part_only : (b : Body) → is_part b ≡ true → is_change b ≡ false
  part_only b part = go b.sender b.message part
    where
      go : (sender : ℕ) (message : Message) → is_part (record { sender = sender; message = message }) ≡ true → is_change (record { sender = sender; message = message }) ≡ false
      go sender (Meta k level index digests) h = refl
      go sender (Page k index text) h = refl
      go sender _ h = absurd cc

  pub parts_ask_nothing : (outputs : List Entry) (old : Point) → is_part body ≡ true → AnswersFetches c me before input outputs old × OwesReadReply c me before input outputs old × AnswersWaiting c me before input outputs old × OwesViewChange c me before input outputs old
  parts_ask_nothing outputs old part = (
    λ s k index level h st is. absurd (let bad : true ≡ false = sym part ∙ same_kind (record { sender = s; message = Fetch k level index }) h in cc),
    λ client t op h is. absurd (let bad : true ≡ false = sym part ∙ same_kind (read_from client t op) h in cc),
    λ waits. absurd (let bad : true ≡ false = sym part ∙ same_kind (ordered_from waits.0) waits.2 in cc),
    hears_no_move c me body before input outputs old receives (part_only body part),
  )

-- ---- fetches and reads

-- a fetch is no read, and a read is no fetch
pub fetches_owe_no_read : (c : Configuration) (me s k index : ℕ) (level : Level) (before : List Entry) (input : Entry) (outputs : List Entry) (old : Point) → Receives c me (record { sender = s; message = Fetch k level index }) before input
    → OwesReadReply c me before input outputs old
fetches_owe_no_read c me s k index level before input outputs old receives client t op other is =
    absurd (let bad : Some (k, (level, index)) ≡ None = ap place_from (hears_one c me (record { sender = s; message = Fetch k level index }) (read_from client t op) before input receives other) in cc)

pub reads_owe_no_part : (c : Configuration) (me client t : ℕ) (op : Operation) (before : List Entry) (input : Entry) (outputs : List Entry) (old : Point) → Receives c me (read_from client t op) before input
    → AnswersFetches c me before input outputs old
reads_owe_no_part c me client t op before input outputs old receives s k index level other st is =
    absurd (let bad : None ≡ Some (k, (level, index)) = ap place_from (hears_one c me (read_from client t op) (record { sender = s; message = Fetch k level index }) before input receives other) in cc)

-- ---- an ordered request is neither

abbrev is_read_body : Body → Bool
is_read_body body = elim body.message [ Request t mode op ↦ same_mode mode modes.ReadOnly | _ ↦ false ]

pub fetches_owe_nothing_again : (c : Configuration) (me s k index : ℕ) (level : Level) (before : List Entry) (input : Entry) (outputs : List Entry) (old : Point) → Receives c me (record { sender = s; message = Fetch k level index }) before input
    → AnswersWaiting c me before input outputs old
fetches_owe_nothing_again c me s k index level before input outputs old receives waits =
    absurd (let bad : Some (k, (level, index)) ≡ None = ap place_from (hears_one c me (record { sender = s; message = Fetch k level index }) (ordered_from waits.0) before input receives waits.2) in cc)

pub reads_owe_nothing_again : (c : Configuration) (me client t : ℕ) (op : Operation) (before : List Entry) (input : Entry) (outputs : List Entry) (old : Point) → Receives c me (read_from client t op) before input
    → AnswersWaiting c me before input outputs old
reads_owe_nothing_again c me client t op before input outputs old receives waits =
    absurd (let bad : true ≡ false = ap is_read_body (hears_one c me (read_from client t op) (ordered_from waits.0) before input receives waits.2) in cc)

pub requests_owe_no_part : (c : Configuration) (me : ℕ) (call : Call) (before : List Entry) (input : Entry) (outputs : List Entry) (old : Point) → Receives c me (ordered_from call) before input
    → AnswersFetches c me before input outputs old
requests_owe_no_part c me call before input outputs old receives s k index level other st is =
    absurd (let bad : None ≡ Some (k, (level, index)) = ap place_from (hears_one c me (ordered_from call) (record { sender = s; message = Fetch k level index }) before input receives other) in cc)

pub requests_owe_no_read : (c : Configuration) (me : ℕ) (call : Call) (before : List Entry) (input : Entry) (outputs : List Entry) (old : Point) → Receives c me (ordered_from call) before input
    → OwesReadReply c me before input outputs old
requests_owe_no_read c me call before input outputs old receives client t op other is =
    absurd (let bad : false ≡ true = ap is_read_body (hears_one c me (ordered_from call) (read_from client t op) before input receives other) in cc)

-- a request is of one call
abbrev call_from : Call → Body → Call
call_from other body = elim body.message [ Request t mode op ↦ record { client = body.sender - 256; timestamp = t; op = op } | _ ↦ other ]

call_back : (call : Call) → call_from call (ordered_from call) ≡ call
call_back call = ap (λ (n : ℕ). let x : Call = record { client = n; timestamp = call.timestamp; op = call.op } in x) (back call.client)
  where
    back : (n : ℕ) → 256 + n - 256 ≡ n
    back n = omega arith

same_call : (call other : Call) → ordered_from call ≡ ordered_from other → call ≡ other
same_call call other same = sym (call_back call) ∙ ap (call_from call) same ∙ call_back other

pub new_requests_owe_none : NewRequestsOweNone
new_requests_owe_none c me before input outputs old executed call receives new =
    let parts = others_bring_no_part c me (ordered_from call) before input receives outputs old executed refl in (
      requests_owe_no_part c me call before input outputs old receives,
      requests_owe_no_read c me call before input outputs old receives,
      parts.0,
      parts.1,
      λ waits. absurd (new (subst (λ (x : Call). Has (λ y. y ≡ x) old.waiting)
          (same_call waits.0 call (hears_one c me (ordered_from waits.0) (ordered_from call) before input waits.2 receives)) waits.1)),
      hears_no_move c me (ordered_from call) before input outputs old receives refl,
    )
