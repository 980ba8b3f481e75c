-- The last reply to each client. A client's request runs only if its timestamp is above that of the client's last reply
-- (Castro and Liskov, Practical Byzantine fault tolerance and proactive recovery, TOCS 2002, on the client and on
-- normal-case operation).
use Rattle.std.specs.Prelude.{◌≡◌, ℕ, ◌^◌, ◌≤◌, ◌<◌, List, length, replicate, slice_index_or, slice_set, Option, Some}
use Rattle.std.specs.Prelude.{None}
use Rattle.std.specs.Option.{option_map_or}
use Rattle.terms.specs.declared.parties.TheConstants.{MAX_CLIENTS}
use Rattle.tuple_codec.specs.Operations.{Outcome, IsOutcome}

-- the request's timestamp, the number of the batch in which it ran, and its answer
pub record Kept : Type 0 where
  pub timestamp : ℕ
  pub number : ℕ
  pub outcome : Outcome

-- the last reply to each of the 256 clients, by the client's number
abbrev pub Replies : Type 0
Replies = List (Option Kept)

-- the replies before any client has one
unfoldable pub no_replies : Replies
no_replies = replicate MAX_CLIENTS None

-- the last reply to a client, if there is one
abbrev pub last_of : Replies → ℕ → Option Kept
last_of rs client = slice_index_or rs client None

-- The timestamp of the last reply, 0 if there is none.
abbrev pub seen_of : Replies → ℕ → ℕ
seen_of rs client = option_map_or (λ k. k.timestamp) (last_of rs client) 0

-- the replies with this one as the client's last
abbrev pub with_reply : Replies → ℕ → Kept → Replies
with_reply rs client k = slice_set rs client (Some k)

-- The client has a higher number than each that has a reply.
abbrev pub IsAbove : ℕ → Replies → Type 0
IsAbove client rs = (other : ℕ) → client ≤ other → last_of rs other ≡ None

-- The timestamp is at least 1, timestamp and number have 64 bits, and the answer is within the limits.
pub record IsKeptReply (k : Kept) : Type 0 where
  pub first : 1 ≤ k.timestamp
  pub timestamp_fits : k.timestamp < 2 ^ 64
  pub number_fits : k.number < 2 ^ 64
  pub answer : IsOutcome k.outcome

-- There is no reply, or it is within the limits.
abbrev pub IsReply : Option Kept → Type 0
IsReply None = Unit {0}
IsReply (Some k) = IsKeptReply k

-- There is a place for each of the 256 clients, and each reply is within the limits.
pub record AreReplies (rs : Replies) : Type 0 where
  pub all : length rs ≡ MAX_CLIENTS
  pub each : (client : ℕ) → IsReply (last_of rs client)
