-- A replica that is behind fetches page after page, and each page that it fetches adds itself alone to the texts whose
-- digests must differ. Its frames are left symbolic: their spelling and their authenticity are given. Such frames
-- exist.
use Rattle.std.specs.Prelude.{◌≡◌, ◌≢◌, ◌↔◌, ℕ, zero, suc, ◌+◌, ◌/◌, ◌%◌, ◌≤◌, ◌<◌, ◌⊎◌, List, [], ◌∷◌, length, nat_lt, ◌==◌, if◌then◌else◌, Some, None}
use Rattle.sha2.specs.Sha256.{sha256}
use Rattle.partition_tree.specs.Digests.{page_digests, inner_digest, inner_digests, root_of as root_of_pages}
use Rattle.terms.specs.declared.state.Level.TheVariants as levels
use Rattle.tuple_tree.specs.Values.{AreBytes}
use Rattle.wire_format.specs.Messages.{checkpoint as Checkpoint, fetch as Fetch, meta as Meta, page as Page}
use Rattle.wire_format.specs.Words.{said}
use Rattle.protocol.specs.System.Configuration.{Configuration, replicas}
use Rattle.protocol.specs.System.Trace.{Entry}
use Rattle.protocol.specs.System.Trace.Entry.{Got, Installed, Sent}
use Rattle.protocol.specs.Replica.State.{State, IsReplicatedState, opening, root_of, all_pages, page_text}
use Rattle.protocol.specs.Replica.Transfers.{took}
use Rattle.protocol.specs.Replica.RightReplica.{others}
use Rattle.protocol.specs.Replica.Owed.{IsPromptReplica}
use Rattle.protocol.specs.System.Run.{IsRun}
use Rattle.protocol.specs.System.Texts.{IsText}
use Rattle.evidence.specs.Examples.{four}
use Rattle.evidence.specs.FirstOperation.{IsFrameFrom}
use Rattle.evidence.specs.Listed.{texts_added}

-- The frames: by their replica the checkpoints; the fetch of the root, and what answers it; and the same by their inner
-- part, and by their page.
pub record FetchFrames : Type 0 where
  pub checkpoint : ℕ → List ℕ
  pub fetch_root : List ℕ
  pub below_root : List ℕ
  pub fetch_inner : ℕ → List ℕ
  pub below_inner : ℕ → List ℕ
  pub fetch_page : ℕ → List ℕ
  pub page : ℕ → List ℕ

-- The replicas 1 to 3 have checkpoints of number 16 with the root of the pages, replica 0 asks, and replica 1 answers.
pub record AreFetchFrames (c : Configuration) (page : ℕ → List ℕ) (w : FetchFrames) : Type 0 where
  pub checkpoints : (r : ℕ) → 0 < r → r < replicas c
      → IsFrameFrom c r (Checkpoint 16 (root_of_pages (all_pages page))) (others c r) (w.checkpoint r)
  pub asks_root : IsFrameFrom c 0 (Fetch 16 levels.Root 0) (others c 0) w.fetch_root
  pub gives_root : IsFrameFrom c 1 (Meta 16 levels.Root 0 (inner_digests (all_pages page))) (0 ∷ []) w.below_root
  pub asks_inner : (j : ℕ) → j < 32 → IsFrameFrom c 0 (Fetch 16 levels.Inner j) (others c 0) (w.fetch_inner j)
  pub gives_inner : (j : ℕ) → j < 32
      → IsFrameFrom c 1 (Meta 16 levels.Inner j (page_digests (all_pages page) j)) (0 ∷ []) (w.below_inner j)
  pub asks_page : (i : ℕ) → i < 1024 → IsFrameFrom c 0 (Fetch 16 levels.Page i) (others c 0) (w.fetch_page i)
  pub gives_page : (i : ℕ) → i < 1024 → IsFrameFrom c 1 (Page 16 i (page i)) (0 ∷ []) (w.page i)

-- Each page is bytes, and fits a frame.
abbrev pub FitFrames : (ℕ → List ℕ) → Type 0
FitFrames page = (i : ℕ) → i < 1024 → AreBytes (page i) × (length (page i) ≤ 4000000)

-- There are such frames, whatever the pages.
abbrev pub FetchFramesExist : Type 0
FetchFramesExist =
    (clients : ℕ) (seed : List ℕ) (page : ℕ → List ℕ) → FitFrames page
    → (w : FetchFrames) × AreFetchFrames (four clients seed) page w

-- the pages below n with the opening state's others
abbrev pub with_first : (ℕ → List ℕ) → ℕ → ℕ → List ℕ
with_first page n i = if nat_lt i n then page i else page_text opening i

-- Each of the pages 0 to n is another than the replica's own. The digests that the replica compares do not collide:
-- that of a page with its own one's, and that of an inner part with its own one's once the pages before that page came.
pub record AreDifferentPages (page : ℕ → List ℕ) (n : ℕ) : Type 0 where
  pub differ : (i : ℕ) → i ≤ n → page i ≢ page_text opening i
  pub pages_apart : (i : ℕ) → i ≤ n → sha256 (page i) ≡ sha256 (page_text opening i) → page i ≡ page_text opening i
  pub parts_apart : (i : ℕ) → i ≤ n
      → inner_digest (all_pages page) (i / 32) ≡ inner_digest (all_pages (with_first page i)) (i / 32)
      → page_digests (all_pages page) (i / 32) ≡ page_digests (all_pages (with_first page i)) (i / 32)

-- The fetch of a page, the newest entry. If the page is the first of its inner part, the fetch of that part and the
-- digests of its pages come before.
abbrev pub fetching_page : FetchFrames → List Entry → ℕ → List Entry
fetching_page w past i =
    Sent 0 (w.fetch_page i)
    ∷ (if i % 32 == 0 then Got 0 (w.below_inner (i / 32)) ∷ Sent 0 (w.fetch_inner (i / 32)) ∷ past else past)

-- The history of replica 0, the newest first, in which it gets the pages below n and asks for the page n: at the third
-- checkpoint it asks for the root, and at each part for the next.
abbrev pub fetching_pages : FetchFrames → ℕ → List Entry
fetching_pages w zero =
    fetching_page w
    (Got 0 w.below_root ∷ Sent 0 w.fetch_root
    ∷ Got 0 (w.checkpoint 3) ∷ Got 0 (w.checkpoint 2) ∷ Got 0 (w.checkpoint 1) ∷ []) 0
fetching_pages w (suc n) = fetching_page w (Got 0 (w.page n) ∷ fetching_pages w n) (suc n)

-- The laws below show this of the history, for each number of pages below 1,024 and whatever the pages.
abbrev pub OfFetching : (Configuration → (ℕ → List ℕ) → ℕ → List Entry → Type 0) → Type 0
OfFetching P =
    (clients : ℕ) (seed : List ℕ) (page : ℕ → List ℕ) (w : FetchFrames) (n : ℕ) → n < 1024 → AreDifferentPages page n
    → AreFetchFrames (four clients seed) page w → P (four clients seed) page n (fetching_pages w n)

-- The history is a correct replica's that has not stopped, with all that it owes, and alone it is a run.
abbrev pub FetchingIsRun : Type 0
FetchingIsRun = OfFetching (λ c page n trace. IsRun c trace × IsPromptReplica c 0 trace)

-- Each of the pages is taken: the transfer has it in place.
abbrev pub FetchedAreTaken : Type 0
FetchedAreTaken = OfFetching (λ c page n trace. (i : ℕ) → i < n → took c 0 None trace i ≡ Some (page i))

-- They add themselves alone: the texts whose digests must differ stand in a list of one for each page and at most 1,091
-- others.
abbrev pub FetchedAddThemselves : Type 0
FetchedAddThemselves = OfFetching (λ c page n trace. length (texts_added c trace trace) ≤ n + 1091)

-- a law below shows this of a trace in which a replica installs
abbrev pub OfInstalling : Configuration → List Entry → Type 0
OfInstalling c trace = IsRun c trace × IsPromptReplica c 0 trace × (length (texts_added c trace trace) ≤ 1622)

-- If they are all 513 pages of a state of number 16, the replica installs that state once the last page comes, and does
-- all that it owes. The list has 1,058 texts of the null batch and the opening state, those 513, 18 of digests that
-- were fetched, and the 33 of digests above the pages in place.
abbrev pub FetchedAreInstalled : Type 0
FetchedAreInstalled =
    (clients : ℕ) (seed : List ℕ) (st : State) (w : FetchFrames) → IsReplicatedState st → st.number ≡ 16
    → AreDifferentPages (page_text st) 512 → AreFetchFrames (four clients seed) (page_text st) w
    → OfInstalling (four clients seed) (Installed 0 16 (root_of st) ∷ Got 0 (w.page 512) ∷ fetching_pages w 512)

-- After any trace, whatever else is in it, a page that a party gets adds its own text and no other.
abbrev pub PagesAddThemselves : Type 0
PagesAddThemselves =
    (c : Configuration) (trace : List Entry) (p sender k i : ℕ) (bytes text : List ℕ)
    → said bytes ≡ Some (record { sender = sender; message = Page k i text })
    → (x : List ℕ) → IsText c (Got p bytes ∷ trace) x ↔ ((x ≡ text) ⊎ IsText c trace x)
