-- The history of the client that calls the first operation is a client's.
use Rattle.std.proofs.Common.{◌≡◌, ℕ, ◌<◌, Bool, true, false, not, cond, List, [], ◌∷◌, inl, refl, sym, ap, subst, ◌∙◌, arith, ◌&&◌, ◌||◌, Option, Some, None}
use Rattle.std.specs.Prelude.{◌==◌, option_and_then, nat_le}
use Rattle.std.specs.Option.{option_map_or}
use Rattle.std.proofs.lemmas.Slice.Eq.{bytes_eq-Decides}
use Rattle.tuple_codec.specs.Operations.{Operation}
use Rattle.tuple_codec.specs.Spelling.{outcome_spelling}
use Rattle.quorum.specs.Quorum.{count_below}
use Rattle.std.specs.Bool.{then_some}
use Rattle.std.specs.List.{range_with_len}
use Rattle.std.proofs.lemmas.Bool.{eq-eqb}
use Rattle.terms.specs.declared.order.Mode.TheVariants as modes
use Rattle.wire_format.specs.Messages.{BodyData as Body, FrameData as Frame, reply as Reply}
use Rattle.protocol.specs.System.Configuration.{Configuration, members}
use Rattle.signing.specs.AuthenticBody.{authentic}
use Rattle.wire_format.specs.Words.{receivers_of}
use Rattle.protocol.specs.System.Frames.{IsSealed}
use Rattle.protocol.specs.System.Trace.{Entry, history_of}
use Rattle.protocol.specs.System.Trace.Entry.{Invoke, Got, Sent, Accepted}
use Rattle.protocol.specs.Client.RightClient.{OpenCall, Vote, reply_vote, later_vote, latest, is_alike, is_complete, newest_vote, is_ordered_request_of, went_ordered, is_answered, Reaction, on_got, fallback, reaction, IsRequest, IsReaction, Reacts, IsClient}
use Rattle.protocol.specs.Client.RightClient.Reaction.{nothing, asks, accepts}
use Rattle.evidence.specs.Examples.{four}
use Rattle.evidence.specs.FirstOperation.{FirstFrames, AreFirstFrames, first_answer, first_trace}
use Rattle.protocol.proofs.Words.Options.{some_injective}

-- how many replies are alike, from the known facts on each replica's latest reply
pub alike_of_four : (test : ℕ → Bool) (a b d e : Bool) → test 0 ≡ a → test 1 ≡ b → test 2 ≡ d → test 3 ≡ e
    → count_below test 4 ≡ count_below (λ s. cond (s == 0) a (cond (s == 1) b (cond (s == 2) d e))) 4
alike_of_four test a b d e h i j k = rw (h, i, j, k) refl

module _ (clients : ℕ) (seed : List ℕ) (op : Operation) (batch : List ℕ) (w : FirstFrames) (x : AreFirstFrames (four clients seed) op batch w) where
  abbrev c : Configuration
  c = four clients seed

  abbrev call : OpenCall
  call = record { timestamp = 1; op = op }

  -- what each reply says
  abbrev vote : Vote
  vote = record { mode = modes.Ordered; number = 1; answer = first_answer op }

  abbrev asked : List Entry
  asked = Sent 256 w.request ∷ Invoke 0 1 op ∷ []

  abbrev one : List Entry
  one = Got 256 (w.reply 0) ∷ asked

  abbrev two : List Entry
  two = Got 256 (w.reply 1) ∷ one

  abbrev three : List Entry
  three = Got 256 (w.reply 2) ∷ two

  receives : (r : ℕ) → r < 4 → authentic (members c 256) 256 (w.reply r) ≡ Some (record { sender = r; message = Reply 256 1 modes.Ordered 1 (first_answer op) })
  receives r l = (x.replies r l).is_authentic_to 256 (inl refl)

  goes_ordered : went_ordered asked 1 ≡ true
  goes_ordered = ap (λ (o : Option Body). option_map_or (is_ordered_request_of 1) o false || false) x.asks.says

  -- ---- the latest replies

  abbrev is_of : ℕ → ℕ → Bool
  is_of r s = ((r == s) && true) && true

  latest_asked : (s : ℕ) → latest c 256 asked 1 modes.Ordered s ≡ None
  unfolding latest
  latest_asked s = refl

  latest_next : (r : ℕ) → r < 4 → (s : ℕ) (past : List Entry) (o : Option Vote) → latest c 256 past 1 modes.Ordered s ≡ o
      → latest c 256 (Got 256 (w.reply r) ∷ past) 1 modes.Ordered s ≡ cond (is_of r s) (Some vote) o
  unfolding latest
  latest_next r l s past o e = rw (receives r l, e) (go (is_of r s))
    where
      go : (b : Bool) → later_vote modes.Ordered (then_some b vote) o ≡ cond b (Some vote) o
      go true = refl
      go false = refl

  pub latest_one : (s : ℕ) → latest c 256 one 1 modes.Ordered s ≡ cond (is_of 0 s) (Some vote) None
  latest_one s = latest_next 0 (omega arith) s asked None (latest_asked s)

  pub latest_two : (s : ℕ) → latest c 256 two 1 modes.Ordered s ≡ cond (is_of 1 s) (Some vote) (cond (is_of 0 s) (Some vote) None)
  latest_two s = latest_next 1 (omega arith) s one (cond (is_of 0 s) (Some vote) None) (latest_one s)

  latest_three : (s : ℕ) → latest c 256 three 1 modes.Ordered s ≡ cond (is_of 2 s) (Some vote) (cond (is_of 1 s) (Some vote) (cond (is_of 0 s) (Some vote) None))
  latest_three s = latest_next 2 (omega arith) s two (cond (is_of 1 s) (Some vote) (cond (is_of 0 s) (Some vote) None)) (latest_two s)

  -- ---- one and two replies are not enough, and three are

  abbrev alike : List Entry → ℕ → Bool
  alike now s = is_alike vote (latest c 256 now 1 modes.Ordered s)

  at : (now : List Entry) (s : ℕ) → latest c 256 now 1 modes.Ordered s ≡ Some vote → alike now s ≡ true
  at now s e = ap (is_alike vote) e ∙ ((bytes_eq-Decides (outcome_spelling (first_answer op)) (outcome_spelling (first_answer op))).1 refl)

  off : (now : List Entry) (s : ℕ) → latest c 256 now 1 modes.Ordered s ≡ None → alike now s ≡ false
  off now s e = ap (is_alike vote) e

  one_waits : is_complete c 256 one 1 vote ≡ false
  one_waits = ap (nat_le 3) (alike_of_four (alike one) true false false false (at one 0 (latest_one 0)) (off one 1 (latest_one 1)) (off one 2 (latest_one 2)) (off one 3 (latest_one 3)))

  two_wait : is_complete c 256 two 1 vote ≡ false
  two_wait = ap (nat_le 3) (alike_of_four (alike two) true true false false (at two 0 (latest_two 0)) (at two 1 (latest_two 1)) (off two 2 (latest_two 2)) (off two 3 (latest_two 3)))

  three_are_complete : is_complete c 256 three 1 vote ≡ true
  three_are_complete =
      ap (nat_le 3) (alike_of_four (alike three) true true true false (at three 0 (latest_three 0)) (at three 1 (latest_three 1)) (at three 2 (latest_three 2)) (off three 3 (latest_three 3)))

  -- ---- what the client gives

  pub newest : (r : ℕ) → r < 4 → (past : List Entry) → newest_vote c 256 (Got 256 (w.reply r) ∷ past) 1 ≡ Some vote
  newest r l past =
      ap (option_and_then (λ (body : Body). reply_vote 256 1 body.sender body)) (receives r l) ∙ ap (λ (b : Bool). then_some ((b && true) && true) vote) (eq-eqb r r refl)

  gives : (now : List Entry) (b : Bool) → newest_vote c 256 now 1 ≡ Some vote → went_ordered now 1 ≡ true → is_complete c 256 now 1 vote ≡ b
      → on_got c 256 now call ≡ cond b (accepts 1 (first_answer op)) nothing
  gives now b e f g = rw e (rw g (go b))
    where
      go : (b : Bool) → cond b (accepts 1 (first_answer op)) (fallback c 256 now call) ≡ cond b (accepts 1 (first_answer op)) nothing
      go true = refl
      go false = ap (λ (o : Bool). cond (not o && is_answered c 256 now 1) (asks modes.Ordered call) nothing) f

  pub is_request : IsRequest c 256 modes.Ordered call w.request
  is_request = record {
    says = x.asks.says;
    is_sealed = λ frame is.
        subst (λ (f : Frame). IsSealed c f × (receivers_of f.authenticator ≡ range_with_len 0 4)) (some_injective x.asks.frame frame (sym x.asks.spells ∙ is)) (x.asks.is_sealed, x.asks.is_for);
  }

  calls : reaction c 256 (Invoke 0 1 op ∷ []) ≡ asks modes.Ordered call
  calls = ap (λ (b : Bool). asks (cond b modes.ReadOnly modes.Ordered) call) x.writes

  first : reaction c 256 one ≡ nothing
  first = gives one false (newest 0 (omega arith) asked) goes_ordered one_waits

  second : reaction c 256 two ≡ nothing
  second = gives two false (newest 1 (omega arith) one) goes_ordered two_wait

  third : reaction c 256 three ≡ accepts 1 (first_answer op)
  third = gives three true (newest 2 (omega arith) two) goes_ordered three_are_complete

  reacts : (r s : Reaction) (outputs : List Entry) → r ≡ s → IsReaction c 256 s outputs → IsReaction c 256 r outputs
  reacts r s outputs e h = rw e h

  after_call : Reacts c 256 0 (reaction c 256) [] asked
  after_call = (refl, (refl, ((refl, refl, x.operation), reacts (reaction c 256 (Invoke 0 1 op ∷ [])) (asks modes.Ordered call) (Sent 256 w.request ∷ []) calls (w.request, refl, is_request), refl)))

  after_two : Reacts c 256 0 (reaction c 256) [] two
  after_two = (refl, (tt, reacts (reaction c 256 two) nothing [] second refl, (refl, (tt, reacts (reaction c 256 one) nothing [] first refl, after_call))))

  after_all : Reacts c 256 0 (reaction c 256) [] (Got 256 (w.reply 3) ∷ Accepted 0 1 (first_answer op) ∷ three)
  after_all = (refl, (tt, refl, (refl, (refl, (tt, reacts (reaction c 256 three) (accepts 1 (first_answer op)) (Accepted 0 1 (first_answer op) ∷ []) third (0, refl), after_two)))))

  pub is_client : IsClient c 256 (history_of 256 (first_trace op batch w))
  is_client = inl after_all
