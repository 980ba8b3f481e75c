-- The histories of a correct client (Castro and Liskov, TOCS 2002, on the client and on read-only operations). A client
-- has one open call at a time, and its past determines its output. That it waits for 2f + 1 replies that agree in
-- answer and number, for writes and reads alike, is our own. So are its lives: a client that is started again knows
-- nothing of its earlier calls, and its timestamps begin above all of theirs.
use Rattle.std.specs.Prelude.{◌≡◌, ℕ, suc, ◌≤◌, ◌<◌, ◌⊎◌, Bool, true, false, ◌&&◌, ◌||◌, not, List, [], ◌∷◌, ◌++◌, nat_le, ◌==◌, if◌then◌else◌, Option, Some, None, is_some, option_and_then, bytes_eq, ⊤}
use Rattle.std.specs.Bool.{then_some}
use Rattle.std.specs.List.{range_with_len}
use Rattle.std.specs.Option.{option_map_or}
use Rattle.tuple_codec.specs.Operations.{Operation, Outcome, IsOperation}
use Rattle.tuple_codec.specs.Spelling.{outcome_spelling}
use Rattle.space.specs.Applying.{is_read_only}
use Rattle.quorum.specs.Quorum.{count_below}
use Rattle.protocol.specs.System.Configuration.{Configuration, replicas, members}
use Rattle.terms.specs.declared.order.Mode.{Mode}
use Rattle.terms.specs.declared.order.Mode.TheVariants as modes
use Rattle.wire_format.specs.Messages.{BodyData as Body, MessageData as Message, request as Request, reply as Reply}
use Rattle.signing.specs.AuthenticBody.{authentic}
use Rattle.wire_format.specs.Words.{said}
use Rattle.protocol.specs.System.Frames.{same_mode, IsOutgoing}
use Rattle.protocol.specs.System.Trace.{Entry, party_of, is_output, Always, either}
use Rattle.protocol.specs.System.Trace.Entry.{Invoke, Got, Tick, Sent, Accepted}
use Rattle.protocol.specs.Replica.Selection.{is_quorum}

-- ---- the open call

-- the timestamp of the last call of a life that begins above the timestamp start, which it is before the first call
abbrev pub last_call_above : ℕ → List Entry → ℕ
last_call_above start [] = start
last_call_above start (Invoke client timestamp op ∷ past) = timestamp
last_call_above start (_ ∷ past) = last_call_above start past

-- the timestamp of the client's last call, 0 before the first
abbrev pub last_call : List Entry → ℕ
last_call past = last_call_above 0 past

-- a call whose answer the client has not accepted yet
pub record OpenCall : Type 0 where
  pub timestamp : ℕ
  pub op : Operation

-- the last call, until its answer is accepted
abbrev pub open_call : List Entry → Option OpenCall
open_call [] = None
open_call (Invoke client timestamp op ∷ past) = Some (record { timestamp = timestamp; op = op })
open_call (Accepted client timestamp answer ∷ past) = None
open_call (_ ∷ past) = open_call past

-- ---- the replies that count

-- a reply: its mode, its number and its answer
pub record Vote : Type 0 where
  pub mode : Mode
  pub number : ℕ
  pub answer : Outcome

-- the vote in a body, if it is replica s's reply to the client's call of this timestamp
abbrev pub reply_vote : ℕ → ℕ → ℕ → Body → Option Vote
reply_vote me timestamp s body = elim body.message [
  | Reply client t mode number answer ↦ then_some ((body.sender == s) && (client == me) && (t == timestamp))
      (record { mode = mode; number = number; answer = answer })
  | _ ↦ None
]

-- the later reply if it has the given mode, else the earlier
abbrev pub later_vote : Mode → Option Vote → Option Vote → Option Vote
later_vote mode None earlier = earlier
later_vote mode (Some vote) earlier = if same_mode vote.mode mode then Some vote else earlier

-- replica s's latest reply of the mode to the call of this timestamp, received since the latest invocation
unfoldable pub latest : Configuration → ℕ → List Entry → ℕ → Mode → ℕ → Option Vote
latest c me [] timestamp mode s = None
latest c me (Invoke client t op ∷ past) timestamp mode s = None
latest c me (Got p bytes ∷ past) timestamp mode s =
    later_vote mode (option_and_then (reply_vote me timestamp s) (authentic (members c me) me bytes))
    (latest c me past timestamp mode s)
latest c me (_ ∷ past) timestamp mode s = latest c me past timestamp mode s

-- the reply agrees with the vote in number and answer (outcomes of one spelling are one)
abbrev pub is_alike : Vote → Option Vote → Bool
is_alike vote other =
    option_map_or (λ o. (o.number == vote.number)
    && bytes_eq (outcome_spelling o.answer) (outcome_spelling vote.answer)) other false

-- how many replicas' latest replies of the vote's mode agree with it in number and answer
abbrev pub count_alike : Configuration → ℕ → List Entry → ℕ → Vote → ℕ
count_alike c me past timestamp vote =
    count_below (λ s. is_alike vote (latest c me past timestamp vote.mode s)) (replicas c)

-- a quorum of replies agrees with the vote, which ends the call
abbrev pub is_complete : Configuration → ℕ → List Entry → ℕ → Vote → Bool
is_complete c me past timestamp vote = is_quorum c (count_alike c me past timestamp vote)

-- the vote in the reply to the call of this timestamp that the newest entry receives, if it receives one
abbrev pub newest_vote : Configuration → ℕ → List Entry → ℕ → Option Vote
newest_vote c me past timestamp = elim past [
  | [] ↦ None
  | e ∷ earlier ↦ (elim e [
    | Got p bytes ↦ option_and_then (λ body. reply_vote me timestamp body.sender body) (authentic (members c me) me bytes)
    | _ ↦ None
  ])
]

-- ---- a client's outputs

-- a client's output in an event: nothing, a request of its call, or the acceptance of an answer
pub data Reaction : Type 0 where
  nothing : Reaction
  asks : (mode : Mode) (call : OpenCall) → Reaction
  accepts : (timestamp : ℕ) (answer : Outcome) → Reaction

-- a message is an ordered request of this timestamp
abbrev pub is_ordered_request_of : ℕ → Body → Bool
is_ordered_request_of timestamp body =
    elim body.message [ Request t mode op ↦ (t == timestamp) && same_mode mode modes.Ordered | _ ↦ false ]

-- the client has sent the open call's request as an ordered one
abbrev pub went_ordered : List Entry → ℕ → Bool
went_ordered [] timestamp = false
went_ordered (Invoke client t op ∷ past) timestamp = false
went_ordered (Sent p bytes ∷ past) timestamp =
    option_map_or (is_ordered_request_of timestamp) (said bytes) false || went_ordered past timestamp
went_ordered (_ ∷ past) timestamp = went_ordered past timestamp

-- the client has a read-only reply from each replica
abbrev pub is_answered : Configuration → ℕ → List Entry → ℕ → Bool
is_answered c me past timestamp =
    nat_le (replicas c) (count_below (λ s. is_some (latest c me past timestamp modes.ReadOnly s)) (replicas c))

-- a read falls back to an ordered request once each replica has answered it and no quorum agrees
abbrev pub fallback : Configuration → ℕ → List Entry → OpenCall → Reaction
fallback c me now call =
    if not (went_ordered now call.timestamp) && is_answered c me now call.timestamp then asks modes.Ordered call
    else nothing

-- the client accepts an answer once a quorum of replies agrees with it
abbrev pub on_reply : Configuration → ℕ → List Entry → OpenCall → Vote → Reaction
on_reply c me now call vote =
    if is_complete c me now call.timestamp vote then accepts call.timestamp vote.answer else fallback c me now call

-- a frame that brings no reply to the open call causes no output
abbrev pub on_got : Configuration → ℕ → List Entry → OpenCall → Reaction
on_got c me now call = option_map_or (on_reply c me now call) (newest_vote c me now call.timestamp) nothing

-- at a tick the client sends an open call's request as an ordered one, again if it did so before
abbrev pub on_tick : List Entry → Reaction
on_tick past = option_map_or (asks modes.Ordered) (open_call past) nothing

-- the mode in which an operation is asked for first
abbrev pub first_mode : Operation → Mode
first_mode op = if is_read_only op then modes.ReadOnly else modes.Ordered

-- The client's output for an input, which is the newest entry. It sends a read as a read-only request first.
abbrev pub reaction : Configuration → ℕ → List Entry → Reaction
reaction c me [] = nothing
reaction c me (Invoke client timestamp op ∷ past) = asks (first_mode op) (record { timestamp = timestamp; op = op })
reaction c me (Got p bytes ∷ past) = option_map_or (on_got c me (Got p bytes ∷ past)) (open_call past) nothing
reaction c me (Tick p ∷ past) = on_tick past
reaction c me (_ ∷ past) = nothing

-- ---- histories

-- the bytes are a request of the call, sealed for all replicas
abbrev pub IsRequest : Configuration → ℕ → Mode → OpenCall → List ℕ → Type 0
IsRequest c me mode call bytes =
    IsOutgoing c me (Request call.timestamp mode call.op) (range_with_len 0 (replicas c)) bytes

-- the outputs of an event, the oldest first, are those of the reaction
abbrev pub IsReaction : Configuration → ℕ → Reaction → List Entry → Type 0
IsReaction c me nothing outputs = outputs ≡ []
IsReaction c me (asks mode call) outputs =
    (bytes : List ℕ) × (outputs ≡ Sent me bytes ∷ []) × IsRequest c me mode call bytes
IsReaction c me (accepts timestamp answer) outputs = (k : ℕ) × (outputs ≡ Accepted k timestamp answer ∷ [])

-- a call begins only if none is open, with the life's next timestamp; frames and ticks may always come
abbrev pub MayInput : ℕ → List Entry → Entry → Type 0
MayInput start past (Invoke client timestamp op) =
    (timestamp ≡ suc (last_call_above start past)) × (open_call past ≡ None) × IsOperation op
MayInput start past (Got p bytes) = ⊤
MayInput start past (Tick p) = ⊤
MayInput start past _ = ⊥

-- Each event's outputs are its reaction's. outputs: the newest event's that come after this list, the oldest first.
abbrev pub Reacts : Configuration → ℕ → ℕ → (List Entry → Reaction) → List Entry → List Entry → Type 0
Reacts c me start react outputs [] = outputs ≡ []
Reacts c me start react outputs (e ∷ past) =
    (party_of e ≡ me)
    × either (is_output e) (Reacts c me start react (e ∷ outputs) past)
    (MayInput start past e × IsReaction c me (react (e ∷ past)) outputs × Reacts c me start react [] past)

-- Each event's outputs are its reaction's; or the client stopped, and gives no output from some input on.
abbrev pub IsClientBy : Configuration → ℕ → ℕ → (List Entry → Reaction) → List Entry → Type 0
IsClientBy c me start react [] = ⊤
IsClientBy c me start react (e ∷ past) =
    Reacts c me start react [] (e ∷ past)
    ⊎ ((party_of e ≡ me) × MayInput start past e × IsClientBy c me start react past)

-- The history is one life of a correct client. Its timestamps are start + 1, start + 2, ..
abbrev pub IsLife : Configuration → ℕ → ℕ → List Entry → Type 0
IsLife c me start history = IsClientBy c me start (reaction c me) history

-- The client has not stopped: the outputs of each event, to the end of its history, are its reaction's.
abbrev pub IsPromptClient : Configuration → ℕ → List Entry → Type 0
IsPromptClient c me history = Reacts c me 0 (reaction c me) [] history

-- the history is a correct client's that has one life, with the timestamps 1, 2, ..
abbrev pub IsClient : Configuration → ℕ → List Entry → Type 0
IsClient c me history = IsLife c me 0 history

-- The history is a correct client's over its lives. Each is a life by itself, whatever came before, but for its
-- timestamps, which are above all earlier ones. So a call that an earlier life left open stays without an answer.
pub data IsClientOfLives (c : Configuration) (me : ℕ) : List Entry → Type 0 where
  unborn : IsClientOfLives c me []
  lives : (start : ℕ) (life earlier : List Entry)
      → IsClientOfLives c me earlier → last_call earlier ≤ start → IsLife c me start life
      → IsClientOfLives c me (life ++ earlier)

-- ---- safe histories: what each entry may be; the laws over all runs use no more

-- the newest entry receives a reply to the open call, and a quorum of replies agrees with it
abbrev pub MayAccept : Configuration → ℕ → List Entry → ℕ → Outcome → Type 0
MayAccept c me past timestamp answer =
    (call : OpenCall) × (vote : Vote) × (open_call past ≡ Some call) × (call.timestamp ≡ timestamp)
    × (vote.answer ≡ answer)
    × (newest_vote c me past timestamp ≡ Some vote) × (is_complete c me past call.timestamp vote ≡ true)

-- the request is the open call's, and read-only only if the operation is a read
abbrev pub MayRequest : List Entry → ℕ → Mode → Operation → Type 0
MayRequest past timestamp mode op =
    (open_call past ≡ Some (record { timestamp = timestamp; op = op }))
    × (mode ≡ modes.ReadOnly → is_read_only op ≡ true)

-- a client sends only requests
abbrev pub MayAsk : List Entry → Message → Type 0
MayAsk past message = elim message [ Request timestamp mode op ↦ MayRequest past timestamp mode op | _ ↦ ⊥ ]

-- The entries that a client may have, over all its lives: its requests, acceptances by the given rule, and inputs. A
-- call, the first of a life or a later one, has a timestamp above all earlier ones.
abbrev pub MayClient : (List Entry → ℕ → Outcome → Type 0) → ℕ → List Entry → Entry → Type 0
MayClient Accepting me past (Sent p bytes) =
    (body : Body) × (said bytes ≡ Some body) × (body.sender ≡ me) × MayAsk past body.message
MayClient Accepting me past (Accepted client timestamp answer) = Accepting past timestamp answer
MayClient Accepting me past (Invoke client timestamp op) = (last_call past < timestamp) × IsOperation op
MayClient Accepting me past (Got p bytes) = ⊤
MayClient Accepting me past (Tick p) = ⊤
MayClient Accepting me past _ = ⊥

-- each entry is one that the client may have
abbrev pub RightBy : (List Entry → ℕ → Outcome → Type 0) → ℕ → List Entry → Type 0
RightBy Accepting me history = Always (λ past e. (party_of e ≡ me) × MayClient Accepting me past e) history

-- The history is safe: each entry is one that a correct client may have.
abbrev pub SafeClient : Configuration → ℕ → List Entry → Type 0
SafeClient c me history = RightBy (MayAccept c me) me history
