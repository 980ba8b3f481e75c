-- Words of the private functions that note and renew pages: which pages may have changed.
use Rattle.std.specs.Prelude.{◌≡◌, ℕ, ◌+◌, ◌-◌, ◌<◌, ◌⊎◌, Bool, true, false, List, [], ◌∷◌, length, slice_index_or, nat_lt, if◌then◌else◌, All, refl}
use Rattle.std.specs.Coded.{Coded, code_by, coded×, coded_list, coded_bool}
use Rattle.space.specs.declared.births.TheConstants.{PAGES as TUPLE_PAGES}
use Rattle.partition_tree.specs.declared.tree.TheConstants.{PAGES}
use Rattle.terms.specs.declared.parties.TheConstants.{MAX_CLIENTS}
use Rattle.space.specs.Births.{IsState as IsSpace}
use Rattle.space.specs.Watching.{WatchedState, IsWrittenAs, KeepsWritten, is_touched as is_space_touched}
use Rattle.reply_cache.specs.Replies.{Replies, AreReplies}
use Rattle.reply_cache.specs.RepliesCode.{replies_code}
use Rattle.reply_cache.specs.Pages.{reply_page_text as reply_page}
use Rattle.partition_tree.specs.declared.page.Page.{Page}
use Rattle.protocol.specs.Replica.State.{State, page_text, header_page}

-- replies, and which of them may have changed
pub record RepliesState : Type 0 where
  pub replies : Replies
  pub touched : List Bool

abbrev pub replies_state_code : Coded RepliesState
replies_state_code =
    code_by (Replies × List Bool) (coded× replies_code (coded_list coded_bool)) (λ r. (r.replies, r.touched))
    (λ p. record { replies = p.0; touched = p.1 }) (λ _. refl)

abbrev pub is_touched : RepliesState → ℕ → Bool
is_touched r client = slice_index_or r.touched client false

-- A page that isn't touched afterwards wasn't touched before, and has the same text.
abbrev pub TouchesReplies : RepliesState → RepliesState → Type 0
TouchesReplies old new =
    (client : ℕ) → client < MAX_CLIENTS → is_touched new client ≡ false
    → (is_touched old client ≡ false) × (reply_page new.replies client ≡ reply_page old.replies client)

-- How requests change both: they touch what they change, and leave a space and replies.
pub record ChangesAreTouched (w : WatchedState) (r : RepliesState) (w' : WatchedState) (r' : RepliesState) : Type 0
  where
    pub space : KeepsWritten w w'
    pub replies : TouchesReplies r r'
    pub is_space : IsSpace w.state → IsSpace w'.state
    pub are_replies : AreReplies r.replies → AreReplies r'.replies

-- ---- the tree

-- The tree has the written text of each page of tuples, the text of each page of replies that isn't touched, and
-- nothing behind the header.
pub record HasPages (tree : List (List ℕ)) (w : WatchedState) (r : RepliesState) : Type 0 where
  pub long : length tree ≡ PAGES
  pub tuples : (page : ℕ) → page < TUPLE_PAGES → IsWrittenAs w page (slice_index_or tree page [])
  pub replies : (client : ℕ) → client < MAX_CLIENTS → is_touched r client ≡ false
      → slice_index_or tree (TUPLE_PAGES + client) [] ≡ reply_page r.replies client
  pub rest : (page : ℕ) → header_page < page → slice_index_or tree page [] ≡ []

-- whether a page, 0 to 512, may have changed
abbrev pub is_page_touched : WatchedState → RepliesState → ℕ → Bool
is_page_touched w r page =
    if nat_lt page TUPLE_PAGES then is_space_touched w page else
    if nat_lt page header_page then is_touched r (page - TUPLE_PAGES) else
    true

-- one of these has the index
abbrev pub PageIsAmong : ℕ → List Page → Type 0
PageIsAmong index [] = ⊥
PageIsAmong index (page ∷ pages) = (page.index ≡ index) ⊎ PageIsAmong index pages

-- The pages have the state's texts, and those below the end that are touched are among them.
pub record AreRenewed (st : State) (touched : ℕ → Bool) (pages : List Page) (end : ℕ) : Type 0 where
  pub texts : All (λ page. page.text.items ≡ page_text st page.index) pages
  pub among : (index : ℕ) → index < end → touched index ≡ true → PageIsAmong index pages

-- If the earlier pages have those below an index, the later ones have that of the index too.
abbrev pub RenewsPages : State → (ℕ → Bool) → ℕ → List Page → List Page → Type 0
RenewsPages st touched index old new = AreRenewed st touched old index → AreRenewed st touched new (index + 1)
