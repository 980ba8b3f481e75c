-- A history in which a replica that is behind installs the others' state, and which the definitions accept, with frames
-- left symbolic: what a party receives from them is given.
use Rattle.std.specs.Prelude.{◌≡◌, ℕ, ◌+◌, ◌*◌, ◌<◌, List, [], ◌∷◌, Some}
use Rattle.sha2.specs.Sha256.{sha256}
use Rattle.partition_tree.specs.Digests.{digest_of_children, inner_digest}
use Rattle.space.specs.Pages.{header_text}
use Rattle.terms.specs.declared.state.Level.TheVariants as levels
use Rattle.wire_format.specs.Messages.{checkpoint as Checkpoint, fetch as Fetch, meta as Meta, page as Page}
use Rattle.protocol.specs.System.Configuration.{Configuration, replicas, members}
use Rattle.signing.specs.AuthenticBody.{authentic}
use Rattle.protocol.specs.System.Trace.{Entry}
use Rattle.protocol.specs.System.Trace.Entry.{Got, Installed, Sent}
use Rattle.protocol.specs.Replica.State.{State, opening, root_of, page_text, pages_of}
use Rattle.protocol.specs.Replica.Transfers.{IsFirstToDiffer}
use Rattle.protocol.specs.Replica.RightReplica.{Point, HistoryReaches, others, digests_at}
use Rattle.evidence.specs.Examples.{four}
use Rattle.evidence.specs.FirstOperation.{IsFrameFrom}

-- The state after 16 batches in which nothing ran. Of its pages the header alone differs from the opening state's.
abbrev pub later_state : State
later_state = record opening { number = 16 }

-- The frames: by their replica the checkpoints; the fetches of the root, of inner part 16 and of the header; and what
-- answers them.
pub record InstallFrames : Type 0 where
  pub checkpoint : ℕ → List ℕ
  pub fetch_root : List ℕ
  pub below_root : List ℕ
  pub fetch_inner : List ℕ
  pub below_inner : List ℕ
  pub fetch_header : List ℕ
  pub header : List ℕ

-- The replicas 1 to 3 have checkpoints with its root, replica 0 asks, and replica 1 answers.
pub record AreInstallFrames (c : Configuration) (w : InstallFrames) : Type 0 where
  pub checkpoints : (r : ℕ) → 0 < r → r < replicas c
      → authentic (members c 0) 0 (w.checkpoint r)
      ≡ Some (record { sender = r; message = Checkpoint 16 (root_of later_state) })
  pub asks_root : IsFrameFrom c 0 (Fetch 16 levels.Root 0) (others c 0) w.fetch_root
  pub gives_root : authentic (members c 0) 0 w.below_root
      ≡ Some (record { sender = 1; message = Meta 16 levels.Root 0 (digests_at later_state levels.Root 0) })
  pub asks_inner : IsFrameFrom c 0 (Fetch 16 levels.Inner 16) (others c 0) w.fetch_inner
  pub gives_inner : authentic (members c 0) 0 w.below_inner
      ≡ Some (record { sender = 1; message = Meta 16 levels.Inner 16 (digests_at later_state levels.Inner 16) })
  pub asks_header : IsFrameFrom c 0 (Fetch 16 levels.Page 512) (others c 0) w.fetch_header
  pub gives_header : authentic (members c 0) 0 w.header
      ≡ Some (record { sender = 1; message = Page 16 512 (header_text later_state.space 16) })

-- The digests differ where the pages do: first that of inner part 16, and in it that of the header.
pub record IsHeaderFirst : Type 0 where
  pub part : IsFirstToDiffer (digests_at later_state levels.Root 0) (inner_digest (pages_of opening)) 16
  pub own : part.digest ≡ digest_of_children (digests_at later_state levels.Inner 16)
  pub page : IsFirstToDiffer (digests_at later_state levels.Inner 16)
      (λ r. sha256 (page_text opening (32 * 16 + r))) 0

-- The history of replica 0, the newest first: it gets the checkpoints, asks for the root's children, for those of inner
-- part 16 and for the header, gets each, and installs.
abbrev pub installation : InstallFrames → List Entry
installation w =
    Installed 0 16 (root_of later_state) ∷ Got 0 w.header ∷ Sent 0 w.fetch_header ∷ Got 0 w.below_inner
    ∷ Sent 0 w.fetch_inner ∷ Got 0 w.below_root ∷ Sent 0 w.fetch_root
    ∷ Got 0 (w.checkpoint 3) ∷ Got 0 (w.checkpoint 2) ∷ Got 0 (w.checkpoint 1) ∷ []

-- The replica may do so, and has the state then.
abbrev pub StateIsInstalled : Type 0
StateIsInstalled =
    (clients : ℕ) (seed : List ℕ) (w : InstallFrames) → IsHeaderFirst → AreInstallFrames (four clients seed) w
    → (point : Point) × HistoryReaches (four clients seed) 0 (installation w) point × (point.state ≡ later_state)
