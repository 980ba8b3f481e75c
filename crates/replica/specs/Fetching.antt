-- What a replica sends of a state transfer, and how it installs a state (Castro and Liskov, TOCS 2002, on state
-- transfer).
use Rattle.std.specs.Prelude.{◌≡◌, ◌⊎◌, ℕ, Bool, true, false, List, [], ◌∷◌, ◌++◌, Some, None}
use Rattle.terms.specs.declared.order.Number.{Number}
use Rattle.events.specs.declared.output.Output.{Output}
use Rattle.events.specs.declared.output.Output.TheVariants as outputs
use Rattle.desk.specs.State.{OpenData, DeskData}
use Rattle.desk.specs.Fetching.{AsksPart, CannotInstall, InstallsHeldPages, fetch_of}
use Rattle.replica.specs.State.{BothPartsData}
use Rattle.replica.specs.Marking.{MovesMarks}
use Rattle.orderer.specs.Multicasting.{Multicasts}

-- The replica multicasts the open fetch again; if no transfer is open, it sends nothing.
abbrev pub MulticastsFetch : BothPartsData → List Output → List Output → Type 0
MulticastsFetch r before after = ((r.desk.transfer ≡ None) × (after ≡ before))
    ⊎ ((o : OpenData) × (r.desk.transfer ≡ Some o) × Multicasts r.orderer (fetch_of o.transfer) before after)

-- If a part is still to be fetched, the desk asks for it, and its fetch is sent.
abbrev pub FetchesNextPart : BothPartsData → List Output → BothPartsData → List Output → Bool → Type 0
FetchesNextPart old before new after asks =
    (desk : DeskData) × AsksPart old.desk desk asks × (new ≡ record old { desk = desk })
    × (elim asks [ true ↦ MulticastsFetch new before after | false ↦ after ≡ before ])

-- The replica tells its checkpoint, and the marks move up to it.
abbrev pub InstallsFetchedState : BothPartsData → List Output → BothPartsData → List Output → Bool → Type 0
InstallsFetchedState old before new after true =
    (desk : DeskData) × (number : Number) × (root : List ℕ)
    × InstallsHeldPages old.desk desk (Some (record { number = number.0; digest = root }))
    × (after ≡ before ++ outputs.Installed number root ∷ [])
    × MovesMarks number.0 (record old { desk = desk }) new
InstallsFetchedState old before new after false = (new ≡ old) × (after ≡ before) × CannotInstall old.desk
