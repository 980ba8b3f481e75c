-- The texts whose digests must differ are few: they stand in a list that grows by a fixed number for each entry.
use Rattle.std.specs.Prelude.{◌≡◌, ℕ, ◌+◌, ◌*◌, ◌≤◌, List, [], ◌∷◌, ◌++◌, length, map}
use Rattle.std.specs.List.{concat, range_with_len}
use Rattle.std.specs.Option.{option_map_or}
use Rattle.partition_tree.specs.Digests.{inner_digests, page_digests}
use Rattle.wire_format.specs.Messages.{MessageData as Message}
use Rattle.wire_format.specs.Words.{said}
use Rattle.protocol.specs.System.Configuration.{Configuration}
use Rattle.protocol.specs.System.Trace.{Entry, history_of, Has}
use Rattle.protocol.specs.System.Trace.Entry.{Got, Executed, Installed, Sent}
use Rattle.protocol.specs.Replica.Selection.{null_batch}
use Rattle.protocol.specs.Replica.State.{State, opening, after_batches, page_text, all_pages, pages_of}
use Rattle.protocol.specs.Replica.Transfers.{in_place}
use Rattle.protocol.specs.Space.Linear.{reached}
use Rattle.protocol.specs.System.Texts.{IsText, batches_of, parts_of, first_batch}

-- the 33 texts of digests under pages
abbrev pub unders : (ℕ → List ℕ) → List (List ℕ)
unders page =
    concat (inner_digests (all_pages page))
    ∷ map (λ j. concat (page_digests (all_pages page) j)) (range_with_len 0 32)

-- the 1,057 texts of a state
abbrev pub state_texts : State → List (List ℕ)
state_texts st = pages_of st ++ unders (page_text st)

-- the state of the batches that were executed first for the numbers up to k
abbrev pub state_at : Configuration → List Entry → ℕ → State
state_at c trace k =
    after_batches c opening
    (map (λ i. option_map_or (λ batch. batch) (first_batch c trace i) null_batch) (range_with_len 1 k))

-- those of the texts that bytes say
abbrev pub said_texts : (Message → List (List ℕ)) → List ℕ → List (List ℕ)
said_texts texts bytes = option_map_or (λ body. texts body.message) (said bytes) []

-- what an entry of a trace adds
abbrev pub texts_at : Configuration → List Entry → List Entry → Entry → List (List ℕ)
texts_at c trace past (Got p bytes) = said_texts batches_of bytes ++ said_texts parts_of bytes
texts_at c trace past (Sent p bytes) = said_texts batches_of bytes
texts_at c trace past (Executed r k batch) = state_texts (state_at c trace k)
texts_at c trace past (Installed r k root) =
    unders (in_place c r k (history_of r past) (state_at c trace (reached past r)))
texts_at c trace past _ = []

-- what the entries of a beginning add to the null batch and the texts of the opening state
abbrev pub texts_added : Configuration → List Entry → List Entry → List (List ℕ)
texts_added c trace [] = null_batch ∷ state_texts opening
texts_added c trace (e ∷ past) = texts_at c trace past e ++ texts_added c trace past

-- Each text stands in the list, in whatever trace, whoever its parties are and whatever they do,
abbrev pub TextsAreListed : Type 0
TextsAreListed =
    (c : Configuration) (trace : List Entry) (text : List ℕ) → IsText c trace text
    → Has (λ x. x ≡ text) (texts_added c trace trace)

-- and the list is no longer than this.
abbrev pub ListsAreShort : Type 0
ListsAreShort =
    (c : Configuration) (trace : List Entry) → length (texts_added c trace trace) ≤ 1057 * length trace + 1058
