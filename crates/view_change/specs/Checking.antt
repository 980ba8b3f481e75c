-- Why a replica refuses a new view (Castro and Liskov, Practical Byzantine fault tolerance and proactive recovery, TOCS
-- 2002, on view changes).
use Rattle.std.specs.Prelude.{ℕ, not, ◌&&◌, ◌==◌, if◌then◌else◌, Option, Some, None}
use Rattle.protocol.specs.System.Configuration.{Configuration, is_number, primary}
use Rattle.protocol.specs.Replica.Certificates.{is_later}
use Rattle.protocol.specs.Replica.Selection.{all_signed, are_enough, may_select}
use Rattle.wire_format.specs.Messages.{NewViewData}
use Rattle.view_change.specs.declared.fault.NewViewFault.{NewViewFault}
use Rattle.view_change.specs.declared.fault.NewViewFault.TheVariants.{UnknownSender, WrongView, BadSignature, TooFew, NotSelected}

-- The rules refuse it: a carried view change is not signed; the view changes are of too few replicas; or the new view
-- may not be selected.
abbrev pub refusal_by_rules : Configuration → NewViewData → Option NewViewFault
refusal_by_rules c new =
    if not (all_signed c new) then Some BadSignature else
    if not (are_enough c new) then Some TooFew else
    if not (may_select c new) then Some NotSelected else None

-- The first refusal that applies to a new view of the sender. The replica's last new view is of `view`, and its last
-- view change is for `target`. First the sender is not the primary of the new view; then its view is not above `view`,
-- or below `target`, or is 2^48 or more; then the rules refuse it.
abbrev pub new_view_refusal : Configuration → ℕ → ℕ → ℕ → NewViewData → Option NewViewFault
new_view_refusal c view target sender new =
    if not (sender == primary c new.view) then Some UnknownSender else
    if not (is_later view target new && is_number new.view) then Some WrongView else refusal_by_rules c new
