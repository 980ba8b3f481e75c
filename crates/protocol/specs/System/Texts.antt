-- The texts whose digests must differ, and the premise that they do.
use Rattle.std.specs.Prelude.{◌≡◌, ℕ, ◌+◌, ◌<◌, true, ◌&&◌, List, [], ◌∷◌, length, ◌==◌, Option, Some, None}
use Rattle.std.specs.Bool.{then_some}
use Rattle.std.specs.List.{concat}
use Rattle.partition_tree.specs.declared.tree.TheConstants.{PAGES}
use Rattle.sha2.specs.Sha256.{sha256}
use Rattle.partition_tree.specs.Digests.{inner_digests, page_digests}
use Rattle.protocol.specs.Replica.Selection.{null_batch}
use Rattle.protocol.specs.System.Configuration.{Configuration, is_correct_replica}
use Rattle.wire_format.specs.Messages.{BodyData as Body, MessageData as Message, pre_prepare as PrePrepare, new_view as NewView, meta as Meta, page as Page}
use Rattle.wire_format.specs.Words.{said}
use Rattle.protocol.specs.System.Trace.{Entry, history_of, Once, Has}
use Rattle.protocol.specs.System.Trace.Entry.{Got, Executed, Installed, Sent}
use Rattle.protocol.specs.Replica.Certificates.{first_given}
use Rattle.protocol.specs.Replica.State.{opening, after_batches, page_text, all_pages}
use Rattle.protocol.specs.Replica.Transfers.{in_place}
use Rattle.protocol.specs.Space.Linear.{reached}

-- the batches in a message
abbrev pub batches_of : Message → List (List ℕ)
batches_of message = elim message [ PrePrepare view number batch ↦ batch ∷ [] | NewView new ↦ new.batches | _ ↦ [] ]

-- the page, or the text of digests, in a message
abbrev pub parts_of : Message → List (List ℕ)
parts_of message =
    elim message [ Meta number level index digests ↦ concat digests ∷ [] | Page number index text ↦ text ∷ [] | _ ↦ [] ]

-- the bytes spell a message with the batch in it
abbrev pub SaysBatch : List ℕ → List ℕ → Type 0
SaysBatch text bytes = (body : Body) × (said bytes ≡ Some body) × Has (λ x. x ≡ text) (batches_of body.message)

-- a party receives or sends the batch in this entry
abbrev pub EntryHasBatch : List ℕ → List Entry → Entry → Type 0
EntryHasBatch text past (Got p bytes) = SaysBatch text bytes
EntryHasBatch text past (Sent p bytes) = SaysBatch text bytes
EntryHasBatch text past _ = ⊥

-- a party receives the page, or the text of digests, in this entry
abbrev pub EntryHasPart : List ℕ → List Entry → Entry → Type 0
EntryHasPart text past (Got p bytes) = (body : Body) × (said bytes ≡ Some body)
    × Has (λ x. x ≡ text) (parts_of body.message)
EntryHasPart text past _ = ⊥

-- the batch that a correct replica executes in this entry for number k
abbrev pub batch_by : Configuration → ℕ → Entry → Option (List ℕ)
batch_by c k (Executed r number batch) = then_some (is_correct_replica c r && (number == k)) batch
batch_by c k _ = None

-- the batch of the first execution of number k by a correct replica
abbrev pub first_batch : Configuration → List Entry → ℕ → Option (List ℕ)
first_batch c trace k = first_given (λ past e. batch_by c k e) trace

-- the batches executed first for the numbers k, k + 1, and so on; of each length there is at most one such list
abbrev pub AreFirstBatches : Configuration → List Entry → ℕ → List (List ℕ) → Type 0
AreFirstBatches c trace k [] = Unit {0}
AreFirstBatches c trace k (batch ∷ batches) = (first_batch c trace k ≡ Some batch)
    × AreFirstBatches c trace (k + 1) batches

-- the texts of digests in the partition tree over these pages: of an inner part's pages, and of all inner parts
pub data IsUnder (page : ℕ → List ℕ) : List ℕ → Type 0 where
  inner : (j : ℕ) → j < 32 → IsUnder page (concat (page_digests (all_pages page) j))
  top : IsUnder page (concat (inner_digests (all_pages page)))

-- In this entry a correct replica installs a state over that of the batches, and the text is under the pages in place.
abbrev pub InstallsOver : Configuration → List (List ℕ) → List ℕ → List Entry → Entry → Type 0
InstallsOver c batches text past (Installed r k root) =
    (is_correct_replica c r ≡ true) × (length batches ≡ reached past r)
    × IsUnder (in_place c r k (history_of r past) (after_batches c opening batches)) text
InstallsOver c batches text past _ = ⊥

-- The texts of a trace: the null batch; each batch, page and text of digests that a party received, and each batch that
-- one sent; the pages of each state that the first executed batches leave, and the texts under them; and the texts under
-- the pages in place when a correct replica installed a state: those it had, with those that its transfer took put in.
pub data IsText (c : Configuration) (trace : List Entry) : List ℕ → Type 0 where
  null : IsText c trace null_batch
  batch : (text : List ℕ) → Once (EntryHasBatch text) trace → IsText c trace text
  part : (text : List ℕ) → Once (EntryHasPart text) trace → IsText c trace text
  page_of : (batches : List (List ℕ)) (i : ℕ) → i < PAGES → AreFirstBatches c trace 1 batches
      → IsText c trace (page_text (after_batches c opening batches) i)
  under : (batches : List (List ℕ)) (text : List ℕ) → AreFirstBatches c trace 1 batches
      → IsUnder (page_text (after_batches c opening batches)) text → IsText c trace text
  installed : (batches : List (List ℕ)) (text : List ℕ) → AreFirstBatches c trace 1 batches
      → Once (InstallsOver c batches text) trace → IsText c trace text

-- Different texts of the trace have different SHA-256 digests (FIPS 180-4). They are at most 1,057 for each entry and
-- 1,058 more (texts_are_listed). Of all texts the premise would be false.
abbrev pub NoCollision : Configuration → List Entry → Type 0
NoCollision c trace = (x y : List ℕ) → IsText c trace x → IsText c trace y → sha256 x ≡ sha256 y → x ≡ y
