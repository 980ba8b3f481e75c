-- The pages of replies, one for each client: empty without a reply, else the timestamp and the number in 8 bytes each,
-- high byte first, and the spelling of the answer.
use Rattle.std.specs.Prelude.{◌≡◌, ℕ, ◌<◌, List, [], ◌++◌, length, slice_index_or, Option, Some, None}
use Rattle.std.specs.Int.{w64, to_be_bytes}
use Rattle.terms.specs.declared.parties.TheConstants.{MAX_CLIENTS}
use Rattle.tuple_codec.specs.Spelling.{outcome_spelling}
use Rattle.reply_cache.specs.Replies.{Kept, Replies, last_of, AreReplies}

-- how a reply stands on its page: timestamp, number and answer
abbrev pub kept_text : Kept → List ℕ
kept_text k =
    to_be_bytes w64 k.timestamp ++ (to_be_bytes w64 k.number ++ outcome_spelling k.outcome)

-- the text of a client's page: empty without a reply
abbrev pub reply_text : Option Kept → List ℕ
reply_text None = []
reply_text (Some k) = kept_text k

abbrev pub reply_page_text : Replies → ℕ → List ℕ
reply_page_text rs client = reply_text (last_of rs client)

-- The texts are the pages of these replies.
pub record ArePagesOfReplies (texts : List (List ℕ)) (rs : Replies) : Type 0 where
  pub replies : AreReplies rs
  pub all : length texts ≡ MAX_CLIENTS
  pub each : (client : ℕ) → client < MAX_CLIENTS → slice_index_or texts client [] ≡ reply_page_text rs client
