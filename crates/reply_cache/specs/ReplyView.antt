-- The model of the program's replies.
use Rattle.std.specs.Prelude.{ℕ, ◌-◌, ◌≤◌, List, ◌++◌, length, map, replicate, slice_index_or, Option, Some, None}
use Rattle.terms.specs.declared.parties.TheConstants.{MAX_CLIENTS}
use Rattle.terms.specs.declared.parties.ClientId.{ClientId}
use Rattle.tuple_codec.specs.OperationView.{outcome_of}
use Rattle.tuple_codec.specs.declared.operations.Answer.{Answer}
use Rattle.reply_cache.specs.Replies.{Kept, Replies, IsReply, with_reply}
use Rattle.reply_cache.specs.declared.cache.Reply.{Reply}

abbrev pub kept_of_reply : Reply → Kept
kept_of_reply r = record { timestamp = r.timestamp; number = r.number; outcome = outcome_of r.answer }

-- the replies with one more to a client, of these parts
abbrev pub with_answer : {A : Type 0} → Replies → ClientId → ℕ → ℕ → Answer A → Replies
with_answer rs client timestamp number answer =
    with_reply rs client.number
    (record { timestamp = timestamp; number = number; outcome = outcome_of answer })

abbrev pub kept_if_any : Option Reply → Option Kept
kept_if_any None = None
kept_if_any (Some r) = Some (kept_of_reply r)

-- Slots for the clients below some number stand for those of all 256 clients.
unfoldable pub padded : List (Option Reply) → Replies
padded slots = map kept_if_any slots ++ replicate (MAX_CLIENTS - length slots) None

-- the invariant of the slots
pub record AreSlots (slots : List (Option Reply)) : Type 0 where
  pub few : length slots ≤ MAX_CLIENTS
  pub each : (client : ℕ) → IsReply (kept_if_any (slice_index_or slots client None))
