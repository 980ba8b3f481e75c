-- View changes that a replica takes (Castro and Liskov, TOCS 2002, on view changes).
use Rattle.std.specs.Prelude.{◌≡◌, ◌≢◌, Bool, true, false, None}
use Rattle.protocol.specs.System.Configuration.{Configuration, members}
use Rattle.view_change.specs.Laws.{HaveOneRule}
use Rattle.view_change.specs.ReceivedData.{HeldData, view_change_refusal, with_held}
use Rattle.view_change.specs.ReceivedView.{judging_configuration}
use Rattle.orderer.specs.State.{OrdererData}

-- The orderer stores it if nothing refuses it; else nothing changes.
abbrev pub ReceivesViewChange : HeldData → OrdererData → OrdererData → Bool → Type 0
ReceivesViewChange h old new true =
    (view_change_refusal (judging_configuration old.received) old.log.view old.received.held (h.sender, h.change)
    ≡ None)
    × (new ≡ record old { received = record old.received { held = with_held h old.received.held } })
ReceivesViewChange h old new false =
    (view_change_refusal (judging_configuration old.received) old.log.view old.received.held (h.sender, h.change)
    ≢ None)
    × (new ≡ old)

-- The orderer judges view changes as in each configuration where the replica knows the same, with the same period of
-- checkpoints.
abbrev pub JudgesAlike : OrdererData → Type 0
JudgesAlike o =
    (c : Configuration) → members c o.endpoint.me ≡ o.endpoint.membership → c.period ≡ o.received.sizes.period
    → HaveOneRule (judging_configuration o.received) c
