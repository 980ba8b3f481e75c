-- How an open transfer goes on (Castro and Liskov, TOCS 2002, on state transfer).
use Rattle.std.specs.Prelude.{◌≡◌, ◌⊎◌, ◌<◌, ℕ, Bool, true, false, length, Option, Some, None}
use Rattle.partition_tree.specs.declared.tree.TheConstants.{PAGES}
use Rattle.sha2.specs.Sha256.{sha256}
use Rattle.wire_format.specs.Messages.{CheckpointEntryData as CheckpointEntry, meta as MetaMessage}
use Rattle.wire_format.specs.Spelling.{IsMessage}
use Rattle.wire_format.specs.declared.messages.Meta.{Meta}
use Rattle.wire_format.specs.declared.messages.Page.{Page}
use Rattle.partition_tree.specs.Digests.{digest_of_children}
use Rattle.state_transfer.specs.declared.place.Place.{Place}
use Rattle.state_transfer.specs.Places.{page_place}
use Rattle.state_transfer.specs.Transfer.{TransferData, RestsOn as IsRested, new_transfer, moved_to, next_place, asking, wanted, with_digests, with_page, replaced_at, given_back}
use Rattle.protocol.specs.Replica.State.{State, pages_of}
use Rattle.replica_histories.specs.Fetching.{IsOther}
use Rattle.desk.specs.declared.transfer.Taken.{Taken}
use Rattle.desk.specs.State.{OpenData}

-- a new one, from the state's pages, and one that is moved
abbrev pub started : State → CheckpointEntry → OpenData
started st entry = record { transfer = new_transfer entry.number entry.digest (pages_of st); rests_at = st.number }

abbrev pub moved : OpenData → CheckpointEntry → OpenData
moved o entry = record o { transfer = moved_to o.transfer entry.number entry.digest }

-- ---- parts

-- Digests that a message may have: those of 32 children, below the root or an inner part.
abbrev pub MayBeSent : Meta → Type 0
MayBeSent meta = IsMessage (MetaMessage meta.number.0 meta.level meta.index meta.digests.items)

-- digests, or a page, that the transfer does not await
abbrev pub AreOtherDigests : OpenData → Meta → Type 0
AreOtherDigests o meta =
    IsOther o.transfer meta.number.0 (record { level = meta.level; index = meta.index })
    (digest_of_children meta.digests.items)

abbrev pub IsOtherPage : OpenData → Page → Type 0
IsOtherPage o page = IsOther o.transfer page.number.0 (page_place page.index) (sha256 page.text.items)

-- The transfer takes digests that have the wanted digest at the place that was asked for last, and no others.
abbrev pub TakesDigestsOf : OpenData → Meta → OpenData → Bool → Type 0
TakesDigestsOf old meta new true =
    (meta.number.0 ≡ old.transfer.number) × (old.transfer.asked ≡ record { level = meta.level; index = meta.index })
    × (wanted old.transfer old.transfer.asked ≡ Some (digest_of_children meta.digests.items))
    × (new ≡ record old { transfer = with_digests old.transfer old.transfer.asked meta.digests.items })
TakesDigestsOf old meta new false = (new ≡ old) × AreOtherDigests old meta

-- there are 1,024 pages
abbrev pub AreAllPages : TransferData → Type 0
AreAllPages t = (length t.held ≡ PAGES) × (length t.fetched ≡ PAGES)

-- what a page replaced, and where the transfer rested before
abbrev pub IsTakenFrom : OpenData → ℕ → Taken → Type 0
IsTakenFrom o page taken = (taken.replaced ≡ replaced_at o.transfer page) × (taken.rests_at.0 ≡ o.rests_at)

-- The same of a page.
abbrev pub TakesPageOf : OpenData → Page → OpenData → Option Taken → Type 0
TakesPageOf old page new (Some taken) =
    (page.number.0 ≡ old.transfer.number) × (old.transfer.asked ≡ page_place page.index)
    × (wanted old.transfer (page_place page.index) ≡ Some (sha256 page.text.items))
    × (new ≡ record old { transfer = with_page old.transfer page.index page.text.items })
    × IsTakenFrom old page.index taken × AreAllPages old.transfer × (page.index < PAGES)
TakesPageOf old page new None = (new ≡ old) × IsOtherPage old page

-- the transfer gives back what it took
abbrev pub is_put_back : OpenData → Taken → OpenData → Type 0
is_put_back old taken new =
    new ≡ record { transfer = given_back old.transfer taken.replaced; rests_at = taken.rests_at.0 }

-- ---- the next part

-- The pages that were not fetched are the state's: as before, or as they are put now.
abbrev pub IsRestedAt : State → OpenData → OpenData → Type 0
IsRestedAt st old new =
    ((old.rests_at ≡ st.number) × (new ≡ old))
    ⊎ (IsRested old.transfer (pages_of st) new.transfer × (new.rests_at ≡ st.number))

-- After that, it asks for the next place, if there is one.
abbrev pub AsksPlace : State → OpenData → OpenData → Option Place → Type 0
AsksPlace st old new place =
    (rested : OpenData) × IsRestedAt st old rested × (place ≡ next_place rested.transfer)
    × (new ≡ record rested { transfer = asking place rested.transfer }) × AreAllPages old.transfer
