-- Laws of replies and their pages.
use Rattle.std.specs.Prelude.{◌≡◌, ℕ, ◌<◌}
use Rattle.terms.specs.declared.parties.TheConstants.{MAX_CLIENTS}
use Rattle.reply_cache.specs.Replies.{Kept, Replies, IsKeptReply, AreReplies, with_reply}
use Rattle.reply_cache.specs.Pages.{reply_page_text}

-- Replies with equal pages are equal.
abbrev pub PagesDetermineReplies : Type 0
PagesDetermineReplies =
    (rs qs : Replies) → AreReplies rs → AreReplies qs
    → ((client : ℕ) → client < MAX_CLIENTS → reply_page_text rs client ≡ reply_page_text qs client) → rs ≡ qs

-- A reply that is added to replies leaves replies.
abbrev pub RepliesStay : Type 0
RepliesStay =
    (rs : Replies) (client : ℕ) (k : Kept) → AreReplies rs → IsKeptReply k → client < MAX_CLIENTS
    → AreReplies (with_reply rs client k)
