-- The state that batches leave, its pages and its root (Castro and Liskov, TOCS 2002, on normal-case
-- operation and, of pages and root, on hierarchical state partitions).
use Rattle.std.specs.Prelude.{ℕ, suc, ◌+◌, ◌-◌, Bool, ◌&&◌, List, [], ◌∷◌, ◌++◌, map, nat_lt, ◌==◌, if◌then◌else◌, Option, Some, None, option_and_then, fold}
use Rattle.std.specs.List.{range_with_len}
use Rattle.std.specs.Option.{option_map_or}
use Rattle.partition_tree.specs.declared.tree.TheConstants.{PAGES}
use Rattle.space.specs.declared.births.TheConstants.{PAGES as TUPLE_PAGES}
use Rattle.terms.specs.Parties.{client_number}
use Rattle.tuple_codec.specs.Operations.{Operation}
use Rattle.space.specs.Applying.{Contents, outcome}
use Rattle.space.specs.Births.{SpaceState, empty_state, tuples_of, state_after}
use Rattle.space.specs.Pages.{IsStateAt, header_text, tuple_page_text as tuple_page}
use Rattle.partition_tree.specs.Digests.{root_of as root_of_pages}
use Rattle.protocol.specs.System.Configuration.{Configuration, is_client}
use Rattle.terms.specs.declared.order.Mode.TheVariants as modes
use Rattle.wire_format.specs.Messages.{BodyData as Body, request as Request}
use Rattle.wire_format.specs.Words.{requests_of, said}
use Rattle.terms.specs.declared.parties.TheConstants.{MAX_CLIENTS}
use Rattle.protocol.specs.System.Frames.{same_mode}
use Rattle.reply_cache.specs.Replies.{Kept, Replies, no_replies, last_of, seen_of, with_reply, AreReplies}
use Rattle.reply_cache.specs.Pages.{reply_text}

-- The space, the number of the last batch, and for each client the reply to its last request that ran.
pub record State : Type 0 where
  pub space : SpaceState
  pub number : ℕ
  pub replies : Replies

-- the state before the first batch
abbrev pub opening : State
opening = record { space = empty_state; number = 0; replies = no_replies }

-- the version of the space and its tuples, the oldest first
abbrev pub tuples : State → Contents
tuples st = tuples_of st.space

-- the reply that is kept for a client
abbrev pub kept_of : State → ℕ → Option Kept
kept_of st client = last_of st.replies client

-- the timestamp of a client's last request that ran, 0 before the first
abbrev pub last_time : State → ℕ → ℕ
last_time st client = seen_of st.replies client

-- ---- requests

-- an ordered request of one of the clients
pub record Call : Type 0 where
  pub client : ℕ
  pub timestamp : ℕ
  pub op : Operation

-- the call in a body, if it is an ordered request of a client
abbrev pub call_in : Configuration → Body → Option Call
call_in c body = elim body.message [
  | Request timestamp mode op ↦ if same_mode mode modes.Ordered && is_client c body.sender
      then Some (record { client = client_number body.sender; timestamp = timestamp; op = op }) else None
  | _ ↦ None
]

-- the call that a frame of a batch spells; a frame that spells none does nothing
abbrev pub call_of : Configuration → List ℕ → Option Call
call_of c frame = option_and_then (call_in c) (said frame)

-- A request runs if its timestamp is above its client's last.
abbrev pub runs : State → Call → Bool
runs st call = nat_lt (last_time st call.client) call.timestamp

-- the reply that a request that runs leaves for its client
abbrev pub kept_by : State → ℕ → Call → Kept
kept_by st number call =
    record { timestamp = call.timestamp; number = number; outcome = outcome (tuples st) call.client call.op }

-- the state after a request that runs
abbrev pub ran_call : State → ℕ → Call → State
ran_call st number call =
    record {
      space = state_after st.space call.client call.op;
      number = st.number;
      replies = with_reply st.replies call.client (kept_by st number call);
    }

-- the state after a request in the batch of this number, whether it runs or not
abbrev pub run_call : State → ℕ → Call → State
run_call st number call = if runs st call then ran_call st number call else st

-- the state after a frame of the batch of this number
abbrev pub run_frame : Configuration → ℕ → State → List ℕ → State
run_frame c number st frame = option_map_or (run_call st number) (call_of c frame) st

-- the state after the next batch: each of its requests in order, and its number
unfoldable pub execute : Configuration → State → List ℕ → State
execute c st batch = record (fold (run_frame c (suc st.number)) st (requests_of batch)) { number = suc st.number }

-- the state after these batches, the oldest first
abbrev pub after_batches : Configuration → State → List (List ℕ) → State
after_batches c st [] = st
after_batches c st (batch ∷ batches) = after_batches c (execute c st batch) batches

-- a request that ran, with the reply that it left
pub record Ran : Type 0 where
  pub call : Call
  pub kept : Kept

-- the request with its reply if it runs, else nothing
abbrev pub ran_by : State → ℕ → Call → List Ran
ran_by st number call = if runs st call then record { call = call; kept = kept_by st number call } ∷ [] else []

-- the requests of these frames that run, one after another
abbrev pub ran_in : Configuration → ℕ → State → List (List ℕ) → List Ran
ran_in c number st [] = []
ran_in c number st (frame ∷ frames) =
    option_map_or (ran_by st number) (call_of c frame) [] ++ ran_in c number (run_frame c number st frame) frames

-- ---- well-formed states

-- The state is well formed: its space is one after that many batches, and each client has a reply or none.
pub record IsReplicatedState (st : State) : Type 0 where
  pub space : IsStateAt st.space st.number
  pub replies : AreReplies st.replies

-- ---- pages: first those of tuples, then one for the reply to each client, then the header; all others are empty

-- the index of the header's page, behind the pages of tuples and those of replies
abbrev pub header_page : ℕ
header_page = TUPLE_PAGES + MAX_CLIENTS

-- the text of a page
unfoldable pub page_text : State → ℕ → List ℕ
page_text st page =
    if nat_lt page TUPLE_PAGES then tuple_page st.space page else
    if nat_lt page header_page then reply_text (kept_of st (page - TUPLE_PAGES)) else
    if page == header_page then header_text st.space st.number else
    []

-- the texts of all 1,024 pages
unfoldable pub all_pages : (ℕ → List ℕ) → List (List ℕ)
all_pages page = map page (range_with_len 0 PAGES)

-- the pages of a state
abbrev pub pages_of : State → List (List ℕ)
pages_of st = all_pages (page_text st)

-- the root of the partition tree over a state's pages, which a checkpoint has
abbrev pub root_of : State → List ℕ
root_of st = root_of_pages (pages_of st)
