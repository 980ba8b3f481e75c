-- A history in which a replica that is behind begins to fetch the others' state, and which the definitions accept, with
-- frames left symbolic: their spelling and their authenticity are given.
use Rattle.std.specs.Prelude.{◌≢◌, ℕ, zero, suc, ◌<◌, List, [], ◌∷◌}
use Rattle.sha2.specs.Sha256.{sha256}
use Rattle.partition_tree.specs.Digests.{digest_of_children, inner_digest}
use Rattle.terms.specs.declared.state.Level.TheVariants as levels
use Rattle.wire_format.specs.Messages.{checkpoint as Checkpoint, fetch as Fetch, meta as Meta, page as Page}
use Rattle.protocol.specs.System.Configuration.{Configuration, replicas}
use Rattle.protocol.specs.System.Trace.{Entry}
use Rattle.protocol.specs.System.Trace.Entry.{Got, Sent}
use Rattle.protocol.specs.Replica.State.{opening, all_pages, page_text, pages_of}
use Rattle.protocol.specs.Replica.RightReplica.{others}
use Rattle.protocol.specs.Replica.Owed.{IsReplica}
use Rattle.evidence.specs.Examples.{four}
use Rattle.evidence.specs.FirstOperation.{IsFrameFrom}

-- What there is to fetch: the text of page 0, the digest of page 1, those of the other pages of inner part 0, and those
-- of the other inner parts.
pub record Parts : Type 0 where
  pub text : List ℕ
  pub next_digest : List ℕ
  pub other_page_digests : List (List ℕ)
  pub other_inner_digests : List (List ℕ)

-- the digests of the pages of inner part 0
abbrev pub digests_of_pages : Parts → List (List ℕ)
digests_of_pages x = sha256 x.text ∷ x.next_digest ∷ x.other_page_digests

-- the digests of the inner parts
abbrev pub digests_of_inner_parts : Parts → List (List ℕ)
digests_of_inner_parts x = digest_of_children (digests_of_pages x) ∷ x.other_inner_digests

-- the digest of the whole
abbrev pub root_of_parts : Parts → List ℕ
root_of_parts x = digest_of_children (digests_of_inner_parts x)

-- the opening state's pages, with page 0 as it was fetched
abbrev pub with_page_0 : Parts → ℕ → List ℕ
with_page_0 x zero = x.text
with_page_0 x (suc i) = page_text opening (suc i)

-- Inner part 0 differs from the opening state's, also once its page 0 came, and its pages 0 and 1 differ.
pub record AreDifferentParts (x : Parts) : Type 0 where
  pub part : digest_of_children (digests_of_pages x) ≢ inner_digest (pages_of opening) 0
  pub page : sha256 x.text ≢ sha256 (page_text opening 0)
  pub part_still : digest_of_children (digests_of_pages x) ≢ inner_digest (all_pages (with_page_0 x)) 0
  pub next : x.next_digest ≢ sha256 (page_text opening 1)

-- The frames: by their replica the checkpoints; the fetches of the root, of inner part 0, of page 0 and of page 1; and
-- what answers the first three of them.
pub record TransferFrames : Type 0 where
  pub checkpoint : ℕ → List ℕ
  pub fetch_root : List ℕ
  pub below_root : List ℕ
  pub fetch_inner : List ℕ
  pub below_inner : List ℕ
  pub fetch_page : List ℕ
  pub page : List ℕ
  pub fetch_next : List ℕ

-- The replicas 1 to 3 have checkpoints of number 16 with the root, replica 0 asks, and replica 1 answers.
pub record AreTransferFrames (c : Configuration) (x : Parts) (w : TransferFrames) : Type 0 where
  pub checkpoints : (r : ℕ) → 0 < r → r < replicas c
      → IsFrameFrom c r (Checkpoint 16 (root_of_parts x)) (others c r) (w.checkpoint r)
  pub asks_root : IsFrameFrom c 0 (Fetch 16 levels.Root 0) (others c 0) w.fetch_root
  pub gives_root : IsFrameFrom c 1 (Meta 16 levels.Root 0 (digests_of_inner_parts x)) (0 ∷ []) w.below_root
  pub asks_inner : IsFrameFrom c 0 (Fetch 16 levels.Inner 0) (others c 0) w.fetch_inner
  pub gives_inner : IsFrameFrom c 1 (Meta 16 levels.Inner 0 (digests_of_pages x)) (0 ∷ []) w.below_inner
  pub asks_page : IsFrameFrom c 0 (Fetch 16 levels.Page 0) (others c 0) w.fetch_page
  pub gives_page : IsFrameFrom c 1 (Page 16 0 x.text) (0 ∷ []) w.page
  pub asks_next : IsFrameFrom c 0 (Fetch 16 levels.Page 1) (others c 0) w.fetch_next

-- The history of replica 0, the newest first: at the third checkpoint it asks for the root, and at each part for the
-- next.
abbrev pub transfer : TransferFrames → List Entry
transfer w =
    Sent 0 w.fetch_next ∷ Got 0 w.page ∷ Sent 0 w.fetch_page ∷ Got 0 w.below_inner ∷ Sent 0 w.fetch_inner
    ∷ Got 0 w.below_root ∷ Sent 0 w.fetch_root
    ∷ Got 0 (w.checkpoint 3) ∷ Got 0 (w.checkpoint 2) ∷ Got 0 (w.checkpoint 1) ∷ []

-- Such a replica is a right one, with all that it owes. So the third checkpoint, the digests and the page count, since
-- a replica sends nothing at an input that does not count.
abbrev pub TransferBegins : Type 0
TransferBegins =
    (clients : ℕ) (seed : List ℕ) (x : Parts) (w : TransferFrames) → AreDifferentParts x
    → AreTransferFrames (four clients seed) x w
    → IsReplica (four clients seed) 0 (transfer w)
