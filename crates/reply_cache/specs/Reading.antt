-- Words of the functions that read pages.
use Rattle.std.specs.Prelude.{◌≡◌, ℕ, ◌<◌, List, [], length, map, slice_index_or, Option, None}
use Rattle.std.specs.Borrow.{Bor}
use Rattle.reply_cache.specs.Replies.{Kept, Replies, IsReply}
use Rattle.reply_cache.specs.Pages.{reply_text, ArePagesOfReplies}
use Rattle.reply_cache.specs.ReplyView.{kept_if_any}
use Rattle.reply_cache.specs.declared.cache.Reply.{Reply}

-- the text of a page spells this reply
pub record SpellsReply (text : List ℕ) (o : Option Kept) : Type 0 where
  pub valid : IsReply o
  pub spelled : text ≡ reply_text o

-- each of the first texts spells a reply or none
abbrev pub EachSpelled : List (List ℕ) → ℕ → Type 0
EachSpelled texts count =
    (client : ℕ) → client < count
    → (o : Option Kept) × SpellsReply (slice_index_or texts client []) o

-- the first texts spell these slots
pub record AreRead (texts : List (List ℕ)) (slots : List (Option Reply)) (count : ℕ) : Type 0 where
  pub long : length slots ≡ count
  pub each : (client : ℕ) → client < count
      → SpellsReply (slice_index_or texts client []) (kept_if_any (slice_index_or slots client None))

-- the text of each page
abbrev pub texts_of : List (Bor (List ℕ)) → List (List ℕ)
texts_of pages = map (λ page. page.now) pages

-- the texts are the pages of some replies
abbrev pub AreSomePages : List (List ℕ) → Type 0
AreSomePages texts = (rs : Replies) × ArePagesOfReplies texts rs
