-- Batches leave states.
use Rattle.std.proofs.Common.{◌≡◌, ℕ, zero, suc, ◌+◌, ◌-◌, ◌*◌, ◌^◌, ◌≤◌, ◌<◌, ◌⊎◌, inl, inr, Bool, true, false, cond, List, [], ◌∷◌, length, refl, sym, ap, ◌∙◌, subst, arith, ◌&&◌, Option, Some, None}
use Rattle.std.specs.Prelude.{fold, replicate}
use Rattle.std.specs.Option.{option_map_or}
use Rattle.std.proofs.lemmas.Bool.{ltb-true}
use Rattle.std.proofs.lemmas.List.{length-set}
use Rattle.tuple_codec.specs.Operations.{IsOperation}
use Rattle.space.specs.Births.{IsState as IsSpace}
use Rattle.space.specs.declared.version.Version.TheVariants as versions
use Rattle.space.proofs.Answering.{answers_are_valid}
use Rattle.space.proofs.Keeping.{IsState-state_after, IsState-empty}
use Rattle.space.proofs.Batches.{next_after}
use Rattle.protocol.specs.System.Configuration.{Configuration, is_client}
use Rattle.wire_format.specs.Messages.{MessageData as Message, request as Request}
use Rattle.wire_format.specs.Words.{requests_of, said}
use Rattle.terms.specs.declared.order.Mode.TheVariants as modes
use Rattle.protocol.specs.System.Frames.{same_mode}
use Rattle.reply_cache.specs.Replies.{Kept, Replies, no_replies, last_of, with_reply, IsKeptReply, IsReply, AreReplies}
use Rattle.reply_cache.proofs.Slots.{AreReplies-none}
use Rattle.protocol.specs.Replica.State.{State, IsReplicatedState, Call, opening, kept_of, last_time, call_in, call_of, runs, kept_by, ran_call, run_call, run_frame, execute, after_batches}
use Rattle.protocol.specs.Laws.Histories.{BatchesLeaveStates}
use Rattle.protocol.proofs.Words.Options.{and_then_some, some_injective}
use Rattle.protocol.proofs.Words.Bodies.{said_fits, FitsMessage, requests_few}

-- ---- kept replies

-- the last reply to a client is the one that was put, or the one before
pub last_put : (replies : Replies) (i client : ℕ) (kept : Kept)
    → ((last_of (with_reply replies i kept) client ≡ Some kept) × (i ≡ client)) ⊎ (last_of (with_reply replies i kept) client ≡ last_of replies client)
last_put [] i client kept = inr refl
last_put (o ∷ replies) zero zero kept = inl (refl, refl)
last_put (o ∷ replies) zero (suc client) kept = inr refl
last_put (o ∷ replies) (suc i) zero kept = inr refl
last_put (o ∷ replies) (suc i) (suc client) kept = go (last_put replies i client kept)
  where
    go : ((last_of (with_reply replies i kept) client ≡ Some kept) × (i ≡ client)) ⊎ (last_of (with_reply replies i kept) client ≡ last_of replies client)
        → ((last_of (with_reply replies i kept) client ≡ Some kept) × (suc i ≡ suc client)) ⊎ (last_of (with_reply replies i kept) client ≡ last_of replies client)
    go (inl k) = inl (k.0, ap suc k.1)
    go (inr k) = inr k

put_replies : (replies : Replies) (i : ℕ) (kept : Kept) → IsKeptReply kept → AreReplies replies → AreReplies (with_reply replies i kept)
put_replies replies i kept is are = record { all = length-set replies i (Some kept) ∙ are.all; each = λ client. go client (last_put replies i client kept) }
  where
    go : (client : ℕ) → ((last_of (with_reply replies i kept) client ≡ Some kept) × (i ≡ client)) ⊎ (last_of (with_reply replies i kept) client ≡ last_of replies client)
        → IsReply (last_of (with_reply replies i kept) client)
    go client (inl k) = subst IsReply (sym k.0) is
    go client (inr k) = subst IsReply (sym k) (are.each client)

-- no client has a reply at first
pub none_kept : (client : ℕ) → kept_of opening client ≡ None
unfolding no_replies
none_kept client = go 256 client
  where
    go : (n i : ℕ) → last_of (replicate n None) i ≡ None
    go zero i = refl
    go (suc n) zero = refl
    go (suc n) (suc i) = go n i

-- ---- through a batch

-- the invariant between the requests of a batch
record Running (st : State) (most : ℕ) : Type 0 where
  space : IsSpace st.space
  births : st.space.next ≤ most
  replies : AreReplies st.replies

call_fits : (c : Configuration) (frame : List ℕ) (call : Call) → call_of c frame ≡ Some call → (call.timestamp < 2 ^ 64) × IsOperation call.op
call_fits c frame call h =
    let r = and_then_some (call_in c) (said frame) call h in
    go r.0.sender r.0.message (said_fits frame r.0 r.1) r.2
  where
    go : (sender : ℕ) (message : Message) → FitsMessage message → call_in c (record { sender = sender; message = message }) ≡ Some call → (call.timestamp < 2 ^ 64) × IsOperation call.op
    go sender (Request t mode op) f h = pick (same_mode mode modes.Ordered && is_client c sender) h
      where
        pick : (b : Bool) → cond b (Some (let x : Call = record { client = sender - 256; timestamp = t; op = op } in x)) None ≡ Some call → (call.timestamp < 2 ^ 64) × IsOperation call.op
        pick true h =
            subst (λ (x : Call). (x.timestamp < 2 ^ 64) × IsOperation x.op)
            (some_injective {A = Call} (record { client = sender - 256; timestamp = t; op = op }) call h) f
        pick false h = absurd cc
    go sender _ f h = absurd cc

call_leaves : (number : ℕ) → number < 2 ^ 64 → (st : State) (most : ℕ) (call : Call) → (call.timestamp < 2 ^ 64) × IsOperation call.op → Running st most → Running (run_call st number call) (most + 256)
call_leaves number small st most call fits r = go (runs st call) refl
  where
    kept : runs st call ≡ true → IsKeptReply (kept_by st number call)
    kept e =
        let l = ltb-true (last_time st call.client) call.timestamp e in
        record { first = omega arith; timestamp_fits = fits.0; number_fits = small; answer = answers_are_valid st.space call.client call.op r.space fits.1 }

    go : (b : Bool) → runs st call ≡ b → Running (cond b (ran_call st number call) st) (most + 256)
    go true e =
        let n = next_after st.space call.client call.op in
        let was = r.births in
        record {
          space = IsState-state_after st.space call.client call.op r.space fits.1;
          births = omega arith;
          replies = put_replies st.replies call.client (kept_by st number call) (kept e) r.replies;
        }
    go false e = let was = r.births in record { space = r.space; births = omega arith; replies = r.replies }

more_room : (st : State) (a b : ℕ) → a ≤ b → Running st a → Running st b
more_room st a b l r = let was = r.births in record { space = r.space; births = omega arith; replies = r.replies }

frames_leave : (c : Configuration) (number : ℕ) → number < 2 ^ 64 → (frames : List (List ℕ)) (st : State) (most : ℕ) → Running st most → Running (fold (run_frame c number) st frames) (most + 256 * length frames)
frames_leave c number small [] st most r = let l : most ≤ most + 256 * 0 = omega arith in more_room st most (most + 256 * 0) l r
frames_leave c number small (frame ∷ frames) st most r =
    let rest = frames_leave c number small frames (run_frame c number st frame) (most + 256) (one (call_of c frame) refl) in
    let l : most + 256 + 256 * length frames ≤ most + 256 * suc (length frames) = omega arith in
    more_room (fold (run_frame c number) (run_frame c number st frame) frames) (most + 256 + 256 * length frames) (most + 256 * suc (length frames)) l rest
  where
    one : (o : Option Call) → call_of c frame ≡ o → Running (option_map_or (run_call st number) o st) (most + 256)
    one None is = let l : most ≤ most + 256 = omega arith in more_room st most (most + 256) l r
    one (Some call) is = call_leaves number small st most call (call_fits c frame call is) r

-- a batch leaves a state, of the next number
pub execute_leaves : (c : Configuration) (st : State) (batch : List ℕ) → st.number + 1 < 2 ^ 48 → IsReplicatedState st → IsReplicatedState (execute c st batch)
unfolding execute
execute_leaves c st batch below is =
    let small : suc st.number < 2 ^ 64 = omega arith in
    let first : Running st (4096 * st.number) = record { space = is.space.state; births = is.space.births; replies = is.replies } in
    let r = frames_leave c (suc st.number) small (requests_of batch) st (4096 * st.number) first in
    let few = requests_few batch in
    let births = r.births in
    record {
      space = record { state = r.space; births = omega arith; few = omega arith };
      replies = r.replies;
    }

pub opening_is : IsReplicatedState opening
opening_is = record {
  space = record { state = IsState-empty versions.One; births = omega arith; few = omega arith };
  replies = AreReplies-none;
}

pub leaves_from : (c : Configuration) (batches : List (List ℕ)) (st : State) → st.number + length batches < 2 ^ 48 → IsReplicatedState st → IsReplicatedState (after_batches c st batches)
unfolding execute
leaves_from c [] st below is = is
leaves_from c (batch ∷ batches) st below is =
    let one : st.number + 1 < 2 ^ 48 = omega arith in
    let rest : suc st.number + length batches < 2 ^ 48 = omega arith in
    leaves_from c batches (execute c st batch) rest (execute_leaves c st batch one is)

pub batches_leave_states : BatchesLeaveStates
batches_leave_states c batches valid few = let l : 0 + length batches < 2 ^ 48 = omega arith in leaves_from c batches opening l opening_is

-- ---- the number

pub executed_number : (c : Configuration) (st : State) (batch : List ℕ) → (execute c st batch).number ≡ suc st.number
unfolding execute
executed_number c st batch = refl
