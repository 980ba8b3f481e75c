-- Words of the private functions that check a new view over a set of view changes.
use Rattle.std.specs.Prelude.{ℕ, Bool, true, ◌&&◌, not, if◌then◌else◌, List, Option, Some, None}
use Rattle.protocol.specs.System.Configuration.{Configuration}
use Rattle.protocol.specs.Replica.Selection.{is_quorum, count_in, ascending}
use Rattle.wire_format.specs.Messages.{NewViewData, ViewChangeData}
use Rattle.view_change.specs.declared.fault.NewViewFault.{NewViewFault}
use Rattle.view_change.specs.declared.fault.NewViewFault.TheVariants.{TooFew, NotSelected}
use Rattle.view_change.specs.Selecting.{are_for, meets}

-- the set is ascending, each of its view changes is for the view and within its bounds, and the start and the batches
-- satisfy the rules
abbrev pub satisfies_rules : Configuration → List (ℕ × ViewChangeData) → NewViewData → Bool
satisfies_rules c set new = ascending set
    && (are_for new.view set c && meets c new.view set new.start new.root new.batches)

abbrev pub refusal_over : Configuration → List (ℕ × ViewChangeData) → NewViewData → Option NewViewFault
refusal_over c set new =
    if not (is_quorum c (count_in c (λ vc. true) set)) then Some TooFew else
    if not (satisfies_rules c set new) then Some NotSelected else None
