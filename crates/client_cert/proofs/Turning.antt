-- The consequence of a reply is that of the definition.
use Rattle.std.proofs.Common.{◌≡◌, ℕ, zero, suc, ◌+◌, ◌*◌, Bool, true, false, cond, ◌&&◌, not, List, ◌∷◌, Option, Some, None, refl, sym, ap, ◌∙◌}
use Rattle.std.specs.Prelude.{nat_le, is_some, option_map, option_and_then}
use Rattle.std.specs.Bool.{then_some}
use Rattle.std.specs.Option.{option_map_or}
use Rattle.std.proofs.lemmas.Bool.{eq-eqb}
use Rattle.tuple_codec.specs.Operations.{Operation, Outcome}
use Rattle.terms.specs.declared.order.Mode.{Mode}
use Rattle.terms.specs.declared.order.Mode.TheVariants as modes
use Rattle.wire_format.specs.Messages.{BodyData as Body, reply as Reply}
use Rattle.quorum.specs.Quorum.{count_below}
use Rattle.signing.specs.AuthenticBody.{authentic}
use Rattle.protocol.specs.System.Configuration.{Configuration, members, replicas}
use Rattle.protocol.specs.System.Trace.{Entry}
use Rattle.protocol.specs.System.Trace.Entry.{Got, Tick}
use Rattle.protocol.specs.Client.RightClient.{Vote, reply_vote, latest, newest_vote, went_ordered, is_alike, count_alike as count_votes, is_complete, is_answered, Reaction, reaction, on_reply, on_got}
use Rattle.protocol.specs.Client.RightClient.Reaction.{nothing, asks, accepts}
use Rattle.client_cert.specs.State.{CallState, ballot_of, ballots_of, held, is_like, count_like, count_alike, count_held, Turn, turn_of}
use Rattle.client_cert.specs.State.Turn.{waits, asks_ordered, accepts_it}
use Rattle.client_cert.specs.Fits.{FitsCall, FitsWithinEvents}
use Rattle.client_cert.proofs.Holding.{vote_heard}

-- the reaction that a turn is
abbrev pub turns : Turn → ℕ → Operation → Outcome → Reaction
turns waits t op answer = nothing
turns asks_ordered t op answer = asks modes.Ordered (record { timestamp = t; op = op })
turns accepts_it t op answer = accepts t answer

same_count : (f g : ℕ → Bool) (n : ℕ) → ((s : ℕ) → f s ≡ g s) → count_below f n ≡ count_below g n
same_count f g zero e = refl
same_count f g (suc n) e = ap (λ b. cond b (suc (count_below f n)) (count_below f n)) (e n) ∙ ap (λ k. cond (g n) (suc k) k) (same_count f g n e)

like_alike : (vote : Vote) (other : Option Vote) → is_like (ballot_of vote) (option_map ballot_of other) ≡ is_alike vote other
like_alike vote None = refl
like_alike vote (Some o) = refl

some_mapped : (other : Option Vote) → is_some (option_map ballot_of other) ≡ is_some other
some_mapped None = refl
some_mapped (Some o) = refl

branches : (complete answered : Bool) (t : ℕ) (op : Operation) (answer : Outcome)
    → cond complete (accepts t answer) (cond answered (asks modes.Ordered (record { timestamp = t; op = op })) nothing)
    ≡ turns (cond complete accepts_it (cond answered asks_ordered waits)) t op answer
branches true answered t op answer = refl
branches false true t op answer = refl
branches false false t op answer = refl

-- the consequence of the counts
abbrev turn_by : ℕ → Bool → ℕ → ℕ → Turn
turn_by faults ordered alike answered =
    cond (nat_le (2 * faults + 1) alike) accepts_it (cond (not ordered && nat_le (3 * faults + 1) answered) asks_ordered waits)

module _ (c : Configuration) (me t : ℕ) (now : List Entry) (call : CallState) (h : FitsCall c me now t call) where
  likes : (vote : Vote) → count_like (ballots_of vote.mode call) (replicas c) (ballot_of vote) ≡ count_votes c me now t vote
  likes vote =
      same_count (λ s. is_like (ballot_of vote) (held (ballots_of vote.mode call) s)) (λ s. is_alike vote (latest c me now t vote.mode s)) (replicas c)
      (λ s. ap (is_like (ballot_of vote)) (h.ballots_are vote.mode s) ∙ like_alike vote (latest c me now t vote.mode s))

  counts : (vote : Vote) (sender : ℕ) → held (ballots_of vote.mode call) sender ≡ Some (ballot_of vote)
      → count_alike (ballots_of vote.mode call) (replicas c) sender ≡ count_votes c me now t vote
  counts vote sender is = ap (λ b. option_map_or (count_like (ballots_of vote.mode call) (replicas c)) b 0) is ∙ likes vote

  answered : count_held call.read_ballots (replicas c) ≡ count_below (λ s. is_some (latest c me now t modes.ReadOnly s)) (replicas c)
  answered =
      same_count (λ s. is_some (held call.read_ballots s)) (λ s. is_some (latest c me now t modes.ReadOnly s)) (replicas c)
      (λ s. ap is_some (h.ballots_are modes.ReadOnly s) ∙ some_mapped (latest c me now t modes.ReadOnly s))

  replied : (vote : Vote) (sender : ℕ) → held (ballots_of vote.mode call) sender ≡ Some (ballot_of vote)
      → on_reply c me now (record { timestamp = t; op = call.op }) vote ≡ turns (turn_of c.faults call vote.mode sender) t call.op vote.answer
  replied vote sender is =
      branches (is_complete c me now t vote) (not (went_ordered now t) && is_answered c me now t) t call.op vote.answer
      ∙ ap (λ x. turns x t call.op vote.answer)
      (sym (ap (λ x. turn_by c.faults call.ordered x (count_held call.read_ballots (replicas c))) (counts vote sender is)
      ∙ ap (turn_by c.faults call.ordered (count_votes c me now t vote)) answered
      ∙ ap (λ o. turn_by c.faults o (count_votes c me now t vote) (count_below (λ s. is_some (latest c me now t modes.ReadOnly s)) (replicas c))) (sym h.ordered_is)))

newest_is : (c : Configuration) (me p t : ℕ) (bytes : List ℕ) (history : List Entry) (sender : ℕ) (mode : Mode) (number : ℕ) (answer : Outcome)
    → authentic (members c me) me bytes ≡ Some (record { sender = sender; message = Reply me t mode number answer })
    → newest_vote c me (Got p bytes ∷ history) t ≡ Some (record { mode = mode; number = number; answer = answer })
newest_is c me p t bytes history sender mode number answer is =
    ap (option_and_then (λ body. reply_vote me t body.sender body)) is ∙ vote_heard me t sender sender mode number answer
    ∙ ap (λ b. then_some b (let v : Vote = record { mode = mode; number = number; answer = answer } in v)) (eq-eqb sender sender refl)

-- a reply to the call, once it is kept
pub reaction_is : (c : Configuration) {start : ℕ} (me p t : ℕ) (bytes : List ℕ) (history : List Entry) (call : CallState) (sender : ℕ) (mode : Mode) (number : ℕ) (answer : Outcome)
    → authentic (members c me) me bytes ≡ Some (record { sender = sender; message = Reply me t mode number answer })
    → FitsWithinEvents c me start (Got p bytes ∷ history) t (Some call)
    → held (ballots_of mode call) sender ≡ Some (ballot_of (record { mode = mode; number = number; answer = answer }))
    → reaction c me (Got p bytes ∷ history) ≡ turns (turn_of c.faults call mode sender) t call.op answer
reaction_is c me p t bytes history call sender mode number answer is h kept =
    ap (λ o. option_map_or (on_got c me (Got p bytes ∷ history)) o nothing) h.call_is.open_is
    ∙ ap (λ v. option_map_or (on_reply c me (Got p bytes ∷ history) (record { timestamp = t; op = call.op })) v nothing) (newest_is c me p t bytes history sender mode number answer is)
    ∙ replied c me t (Got p bytes ∷ history) call h.call_is (record { mode = mode; number = number; answer = answer }) sender kept

-- anything else
pub no_reaction : (c : Configuration) {start : ℕ} (me p t : ℕ) (bytes : List ℕ) (history : List Entry) (call : CallState)
    → ((s : ℕ) → option_and_then (reply_vote me t s) (authentic (members c me) me bytes) ≡ None) → FitsWithinEvents c me start history t (Some call) → reaction c me (Got p bytes ∷ history) ≡ nothing
no_reaction c me p t bytes history call unheard h =
    ap (λ o. option_map_or (on_got c me (Got p bytes ∷ history)) o nothing) h.call_is.open_is
    ∙ ap (λ v. option_map_or (on_reply c me (Got p bytes ∷ history) (record { timestamp = t; op = call.op })) v nothing) (none (authentic (members c me) me bytes) unheard)
  where
    none : (o : Option Body) → ((s : ℕ) → option_and_then (reply_vote me t s) o ≡ None) → option_and_then (λ body. reply_vote me t body.sender body) o ≡ None
    none None unheard = refl
    none (Some body) unheard = unheard body.sender

-- without a call
pub no_call_reaction : (c : Configuration) {start : ℕ} (me p t : ℕ) (bytes : List ℕ) (history : List Entry) → FitsWithinEvents c me start history t None → reaction c me (Got p bytes ∷ history) ≡ nothing
no_call_reaction c me p t bytes history h = ap (λ o. option_map_or (on_got c me (Got p bytes ∷ history)) o nothing) h.call_is

-- ticks
pub tick_reaction : (c : Configuration) {start : ℕ} (me p t : ℕ) (history : List Entry) (call : CallState) → FitsWithinEvents c me start history t (Some call)
    → reaction c me (Tick p ∷ history) ≡ asks modes.Ordered (record { timestamp = t; op = call.op })
tick_reaction c me p t history call h = ap (λ o. option_map_or (asks modes.Ordered) o nothing) h.call_is.open_is

pub no_tick_reaction : (c : Configuration) {start : ℕ} (me p t : ℕ) (history : List Entry) → FitsWithinEvents c me start history t None → reaction c me (Tick p ∷ history) ≡ nothing
no_tick_reaction c me p t history h = ap (λ o. option_map_or (asks modes.Ordered) o nothing) h.call_is
