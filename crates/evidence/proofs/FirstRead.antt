-- The history of a client that accepts a read at three read-only replies is a client's.
use Rattle.std.proofs.Common.{◌≡◌, ℕ, ◌<◌, Bool, true, false, not, cond, List, [], ◌∷◌, inl, refl, sym, ap, subst, ◌∙◌, arith, ◌&&◌, Option, Some, None}
use Rattle.std.specs.Prelude.{◌==◌, option_and_then, nat_le, is_some}
use Rattle.std.specs.List.{range_with_len}
use Rattle.tuple_codec.specs.Operations.{Operation, Outcome}
use Rattle.std.specs.Bool.{then_some}
use Rattle.std.proofs.lemmas.Bool.{eq-eqb}
use Rattle.terms.specs.declared.order.Mode.TheVariants as modes
use Rattle.wire_format.specs.Messages.{BodyData as Body, FrameData as Frame, reply as Reply}
use Rattle.protocol.specs.System.Configuration.{Configuration, members}
use Rattle.signing.specs.AuthenticBody.{authentic}
use Rattle.wire_format.specs.Words.{receivers_of}
use Rattle.protocol.specs.System.Frames.{IsSealed}
use Rattle.protocol.specs.System.Trace.{Entry}
use Rattle.protocol.specs.System.Trace.Entry.{Invoke, Got, Sent, Accepted}
use Rattle.protocol.specs.Client.RightClient.{OpenCall, Vote, reply_vote, later_vote, latest, is_alike, is_complete, newest_vote, is_answered, went_ordered, Reaction, on_got, reaction, IsRequest, IsReaction, Reacts}
use Rattle.protocol.specs.Client.RightClient.Reaction.{nothing, asks, accepts}
use Rattle.evidence.specs.Examples.{four}
use Rattle.evidence.specs.ExamplesOfClients.{AreReadFrames, FirstReadIsAccepted}
use Rattle.protocol.proofs.Words.Options.{some_injective}
use Rattle.evidence.proofs.FirstClient.{alike_of_four}
use Rattle.evidence.proofs.RefusingRuns.{alike}

module _ (clients number : ℕ) (seed : List ℕ) (op : Operation) (answer : Outcome) (request : List ℕ) (reply : ℕ → List ℕ) (x : AreReadFrames (four clients seed) op number answer request reply) where
  abbrev c : Configuration
  c = four clients seed

  abbrev call : OpenCall
  call = record { timestamp = 1; op = op }

  -- what each reply says
  abbrev vote : Vote
  vote = record { mode = modes.ReadOnly; number = number; answer = answer }

  abbrev asked : List Entry
  asked = Sent 256 request ∷ Invoke 0 1 op ∷ []

  abbrev one : List Entry
  one = Got 256 (reply 0) ∷ asked

  abbrev two : List Entry
  two = Got 256 (reply 1) ∷ one

  abbrev three : List Entry
  three = Got 256 (reply 2) ∷ two

  receives : (r : ℕ) → r < 4 → authentic (members c 256) 256 (reply r) ≡ Some (record { sender = r; message = Reply 256 1 modes.ReadOnly number answer })
  receives r l = (x.replies r l).is_authentic_to 256 (inl refl)

  -- ---- the latest replies

  abbrev is_of : ℕ → ℕ → Bool
  is_of r s = ((r == s) && true) && true

  latest_asked : (s : ℕ) → latest c 256 asked 1 modes.ReadOnly s ≡ None
  unfolding latest
  latest_asked s = refl

  latest_next : (r : ℕ) → r < 4 → (s : ℕ) (past : List Entry) (o : Option Vote) → latest c 256 past 1 modes.ReadOnly s ≡ o
      → latest c 256 (Got 256 (reply r) ∷ past) 1 modes.ReadOnly s ≡ cond (is_of r s) (Some vote) o
  unfolding latest
  latest_next r l s past o e = rw (receives r l, e) (go (is_of r s))
    where
      go : (b : Bool) → later_vote modes.ReadOnly (then_some b vote) o ≡ cond b (Some vote) o
      go true = refl
      go false = refl

  latest_one : (s : ℕ) → latest c 256 one 1 modes.ReadOnly s ≡ cond (is_of 0 s) (Some vote) None
  latest_one s = latest_next 0 (omega arith) s asked None (latest_asked s)

  latest_two : (s : ℕ) → latest c 256 two 1 modes.ReadOnly s ≡ cond (is_of 1 s) (Some vote) (cond (is_of 0 s) (Some vote) None)
  latest_two s = latest_next 1 (omega arith) s one (cond (is_of 0 s) (Some vote) None) (latest_one s)

  latest_three : (s : ℕ) → latest c 256 three 1 modes.ReadOnly s ≡ cond (is_of 2 s) (Some vote) (cond (is_of 1 s) (Some vote) (cond (is_of 0 s) (Some vote) None))
  latest_three s = latest_next 2 (omega arith) s two (cond (is_of 1 s) (Some vote) (cond (is_of 0 s) (Some vote) None)) (latest_two s)

  -- ---- one and two replies are not enough, and three are

  abbrev counts : List Entry → ℕ → Bool
  counts now s = is_alike vote (latest c 256 now 1 modes.ReadOnly s)

  abbrev answers : List Entry → ℕ → Bool
  answers now s = is_some (latest c 256 now 1 modes.ReadOnly s)

  at : (now : List Entry) (s : ℕ) → latest c 256 now 1 modes.ReadOnly s ≡ Some vote → counts now s ≡ true
  at now s e = ap (is_alike vote) e ∙ alike vote

  off : (now : List Entry) (s : ℕ) → latest c 256 now 1 modes.ReadOnly s ≡ None → counts now s ≡ false
  off now s e = ap (is_alike vote) e

  one_waits : is_complete c 256 one 1 vote ≡ false
  one_waits = ap (nat_le 3) (alike_of_four (counts one) true false false false (at one 0 (latest_one 0)) (off one 1 (latest_one 1)) (off one 2 (latest_one 2)) (off one 3 (latest_one 3)))

  two_wait : is_complete c 256 two 1 vote ≡ false
  two_wait = ap (nat_le 3) (alike_of_four (counts two) true true false false (at two 0 (latest_two 0)) (at two 1 (latest_two 1)) (off two 2 (latest_two 2)) (off two 3 (latest_two 3)))

  three_are_complete : is_complete c 256 three 1 vote ≡ true
  three_are_complete =
      ap (nat_le 3) (alike_of_four (counts three) true true true false (at three 0 (latest_three 0)) (at three 1 (latest_three 1)) (at three 2 (latest_three 2)) (off three 3 (latest_three 3)))

  -- nor have all answered
  one_answers : is_answered c 256 one 1 ≡ false
  one_answers =
      ap (nat_le 4) (alike_of_four (answers one) true false false false (ap is_some (latest_one 0)) (ap is_some (latest_one 1)) (ap is_some (latest_one 2)) (ap is_some (latest_one 3)))

  two_answer : is_answered c 256 two 1 ≡ false
  two_answer =
      ap (nat_le 4) (alike_of_four (answers two) true true false false (ap is_some (latest_two 0)) (ap is_some (latest_two 1)) (ap is_some (latest_two 2)) (ap is_some (latest_two 3)))

  -- ---- what the client gives

  newest : (r : ℕ) → r < 4 → (past : List Entry) → newest_vote c 256 (Got 256 (reply r) ∷ past) 1 ≡ Some vote
  newest r l past =
      ap (option_and_then (λ (body : Body). reply_vote 256 1 body.sender body)) (receives r l) ∙ ap (λ (b : Bool). then_some ((b && true) && true) vote) (eq-eqb r r refl)

  waits : (now : List Entry) → newest_vote c 256 now 1 ≡ Some vote → is_complete c 256 now 1 vote ≡ false → is_answered c 256 now 1 ≡ false
      → on_got c 256 now call ≡ nothing
  waits now e g f = rw e (rw g (ap (λ (b : Bool). cond (not (went_ordered now 1) && b) (asks modes.Ordered call) nothing) f ∙ rests (went_ordered now 1)))
    where
      rests : (b : Bool) → cond (not b && false) (asks modes.Ordered call) nothing ≡ nothing
      rests true = refl
      rests false = refl

  is_request : IsRequest c 256 modes.ReadOnly call request
  is_request = record {
    says = x.asks.says;
    is_sealed = λ frame is.
        subst (λ (f : Frame). IsSealed c f × (receivers_of f.authenticator ≡ range_with_len 0 4)) (some_injective x.asks.frame frame (sym x.asks.spells ∙ is)) (x.asks.is_sealed, x.asks.is_for);
  }

  calls : reaction c 256 (Invoke 0 1 op ∷ []) ≡ asks modes.ReadOnly call
  calls = ap (λ (b : Bool). asks (cond b modes.ReadOnly modes.Ordered) call) x.reads

  first : reaction c 256 one ≡ nothing
  first = waits one (newest 0 (omega arith) asked) one_waits one_answers

  second : reaction c 256 two ≡ nothing
  second = waits two (newest 1 (omega arith) one) two_wait two_answer

  third : reaction c 256 three ≡ accepts 1 answer
  third = rw (newest 2 (omega arith) two) (rw three_are_complete refl)

  reacts : (r s : Reaction) (outputs : List Entry) → r ≡ s → IsReaction c 256 s outputs → IsReaction c 256 r outputs
  reacts r s outputs e h = rw e h

  after_call : Reacts c 256 0 (reaction c 256) [] asked
  after_call = (refl, (refl, ((refl, refl, x.operation), reacts (reaction c 256 (Invoke 0 1 op ∷ [])) (asks modes.ReadOnly call) (Sent 256 request ∷ []) calls (request, refl, is_request), refl)))

  after_two : Reacts c 256 0 (reaction c 256) [] two
  after_two = (refl, (tt, reacts (reaction c 256 two) nothing [] second refl, (refl, (tt, reacts (reaction c 256 one) nothing [] first refl, after_call))))

  after_three : Reacts c 256 0 (reaction c 256) [] (Accepted 0 1 answer ∷ three)
  after_three = (refl, (refl, (tt, reacts (reaction c 256 three) (accepts 1 answer) (Accepted 0 1 answer ∷ []) third (0, refl), after_two)))

pub first_read_is_accepted : FirstReadIsAccepted
first_read_is_accepted clients number seed op answer request reply x = inl (after_three clients number seed op answer request reply x)
