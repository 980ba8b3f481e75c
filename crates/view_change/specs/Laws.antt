-- Laws of selection.
use Rattle.std.specs.Prelude.{◌≡◌, ◌↔◌, ℕ, ◌+◌, ◌≤◌, ◌<◌, ◌==◌, ◌&&◌, true, false, List, Option, Some, None}
use Rattle.protocol.specs.System.Configuration.{Configuration, primary}
use Rattle.protocol.specs.System.Trace.{Has}
use Rattle.protocol.specs.Replica.Certificates.{is_later}
use Rattle.protocol.specs.Replica.Selection.{ascending, changes_of, all_signed, is_within, may_stand_at, is_some_below, may_stand, may_select, signed_change}
use Rattle.wire_format.specs.Messages.{ViewChangeData, NewViewData, CheckpointEntryData as CheckpointEntry}
use Rattle.view_change.specs.Checking.{new_view_refusal}
use Rattle.view_change.specs.ReceivedData.{HeldData, held_of, view_change_refusal}
use Rattle.view_change.specs.Selecting.{is_set_for, are_for, meets, how_many_from, IsPartOfSet, IsAvailable, AreFrom, stands_by_entry}

-- A new view may be selected exactly if its view changes are signed and are a set for it, and its start and batches
-- satisfy the rules over them.
abbrev pub SelectsBySet : Type 0
SelectsBySet =
    (c : Configuration) (new : NewViewData)
    → (may_select c new ≡ true) ↔ ((all_signed c new ≡ true) × (is_set_for c new.view (changes_of c new) ≡ true)
    × (meets c new.view (changes_of c new) new.start new.root new.batches ≡ true))

-- A larger set allows the same start, and the same batches with null batches after them.
abbrev pub LargerSetsAllow : Type 0
LargerSetsAllow =
    (c : Configuration) (view start : ℕ) (root : List ℕ) (small large : List (ℕ × ViewChangeData))
    (texts batches : List (List ℕ))
    → IsPartOfSet small large → ascending small ≡ true → ascending large ≡ true → AreFrom texts batches
    → meets c view small start root batches ≡ true
    → (more : List (List ℕ)) × AreFrom texts more × (meets c view large start root more ≡ true)

-- To find the view by which a digest may stand, the entries for the digest are enough.
abbrev pub EntriesDecide : Type 0
EntriesDecide =
    (c : Configuration) (view number : ℕ) (digest : List ℕ) (set : List (ℕ × ViewChangeData))
    → are_for view set c ≡ true
    → is_some_below (may_stand_at c set number digest) view ≡ stands_by_entry c set number digest set

-- If none of the batches may stand at a number after a start, no new view with these batches has that start.
abbrev pub GapsForbid : Type 0
GapsForbid =
    (c : Configuration) (view start number : ℕ) (root : List ℕ) (set : List (ℕ × ViewChangeData))
    (texts batches : List (List ℕ))
    → start < number → number ≤ start + how_many_from c set start
    → ((batch : List ℕ) → IsAvailable texts batch → may_stand c view set number batch ≡ false)
    → AreFrom texts batches → meets c view set start root batches ≡ false

-- Some view change of the set lists the start.
abbrev pub StartsAreListed : Type 0
StartsAreListed =
    (c : Configuration) (view start : ℕ) (root : List ℕ) (set : List (ℕ × ViewChangeData)) (batches : List (List ℕ))
    → meets c view set start root batches ≡ true
    → Has (λ x. Has (λ (checkpoint : CheckpointEntry). (checkpoint.number ≡ start) × (checkpoint.digest ≡ root))
    x.1.checkpoints) set

-- The configurations have the same public keys, faults and period.
pub record AreAlikeConfigurations (c d : Configuration) : Type 0 where
  pub publics : c.publics ≡ d.publics
  pub faults : c.faults ≡ d.faults
  pub period : c.period ≡ d.period

-- Both configurations find the same view changes signed, within their bounds and a set for a view, and select, take and
-- refuse the same.
pub record HaveOneRule (c d : Configuration) : Type 0 where
  pub signed : (bytes : List ℕ) → signed_change c bytes ≡ signed_change d bytes
  pub within : (vc : ViewChangeData) → is_within c vc ≡ is_within d vc
  pub sets : (view : ℕ) (set : List (ℕ × ViewChangeData)) → are_for view set c ≡ are_for view set d
  pub meet : (view : ℕ) (set : List (ℕ × ViewChangeData)) (start : ℕ) (root : List ℕ) (batches : List (List ℕ))
      → meets c view set start root batches ≡ meets d view set start root batches
  pub selected : (new : NewViewData) → may_select c new ≡ may_select d new
  pub refused : (view target sender : ℕ) (new : NewViewData)
      → new_view_refusal c view target sender new ≡ new_view_refusal d view target sender new
  pub untaken : (view : ℕ) (held : List (Option HeldData)) (x : ℕ × ViewChangeData)
      → view_change_refusal c view held x ≡ view_change_refusal d view held x

-- The rules use only the public keys, the faults and the period of a configuration.
abbrev pub SizesDecide : Type 0
SizesDecide = (c d : Configuration) → AreAlikeConfigurations c d → HaveOneRule c d

-- A replica takes a new view exactly if it is by its primary, satisfies the rules, and is of a later view.
abbrev pub NewViewsAreJudged : Type 0
NewViewsAreJudged =
    (c : Configuration) (view target sender : ℕ) (new : NewViewData)
    → (new_view_refusal c view target sender new ≡ None)
    ↔ ((((sender == primary c new.view) && may_select c new) ≡ true) × (is_later view target new ≡ true))

-- A replica takes a view change exactly if its view is later, it is within its bounds, and it is newer than its
-- sender's last.
abbrev pub ChangesAreJudged : Type 0
ChangesAreJudged =
    (c : Configuration) (view : ℕ) (held : List (Option HeldData)) (x : ℕ × ViewChangeData)
    → (view_change_refusal c view held x ≡ None)
    ↔ ((view < x.1.view) × (is_within c x.1 ≡ true)
    × ((h : HeldData) → held_of held x.0 ≡ Some h → h.change.view < x.1.view))
