-- Inputs that give a replica no reason to move to a view.
use Rattle.std.proofs.Common.{◌≡◌, ℕ, inl, inr, List, ◌∷◌, Some, ap}
use Rattle.wire_format.specs.Messages.{ViewChangeData, view_change as ViewChange}
use Rattle.signing.specs.AuthenticBody.{authentic}
use Rattle.protocol.specs.System.Configuration.{Configuration, members}
use Rattle.protocol.specs.System.Trace.{Entry}
use Rattle.protocol.specs.System.Trace.Entry.{Got, Tick}
use Rattle.protocol.specs.Replica.State.{Call}
use Rattle.protocol.specs.Replica.RightReplica.{TimesOut}
use Rattle.protocol.specs.Replica.Owed.{HasToMove}
use Rattle.protocol.proofs.Words.Options.{some_injective}

-- no timeout comes of received bytes
pub no_time : (c : Configuration) (me p : ℕ) (before : List Entry) (bytes : List ℕ) (waiting : List Call) (v : ℕ) → TimesOut c me (Got p bytes ∷ before) waiting v → ⊥
no_time c me p before bytes waiting v t =
    absurd (let bad : Got p bytes ≡ Tick me = ap (λ (x : Entry × List Entry). x.0) (some_injective (Got p bytes, before) (Tick me, t.before) t.tick) in cc)

-- Bytes that are received as no view change give no reason.
pub no_reason : (c : Configuration) (me : ℕ) (before : List Entry) (bytes : List ℕ) (waiting : List Call) (v : ℕ)
    → ((s : ℕ) (vc : ViewChangeData) → authentic (members c me) me bytes ≡ Some (record { sender = s; message = ViewChange vc }) → ⊥)
    → HasToMove c me before (Got me bytes) waiting v → ⊥
no_reason c me before bytes waiting v none (inl t) = no_time c me me before bytes waiting v t
no_reason c me before bytes waiting v none (inr (taken, joins)) = none taken.0 taken.1 taken.2
