-- The history of a replica that has not stopped is prompt to its end.
use Rattle.std.proofs.Common.{◌≡◌, ℕ, Bool, true, false, List, Option, Some, None, refl}
use Rattle.std.specs.Prelude.{is_none, ◌||◌}
use Rattle.std.specs.Option.{ForSome}
use Rattle.protocol.specs.System.Configuration.{Configuration}
use Rattle.protocol.specs.System.Trace.{Entry}
use Rattle.protocol.specs.Replica.Owed.{IsPromptReplica}
use Rattle.desk.specs.State.{DeskData}
use Rattle.replica.specs.Fits as replica_fits
use Rattle.replica.specs.Parted.{DeskMatchesHistory}
use Rattle.replica.specs.PartedLaws.{DesksArePrompt, RunningReplicasArePrompt}

running : (c : Configuration) (me : ℕ) (history : List Entry) (o : Option DeskData) → ForSome o (λ x. DeskMatchesHistory c me x history)
    → is_none o ≡ false → IsPromptReplica c me history
running c me history None holds runs = absurd cc
running c me history (Some x) holds runs = let desk = (holds x refl).holds in (desk.point, desk.proceeds)

pub desks_are_prompt : DesksArePrompt
desks_are_prompt c me d history fits runs = running c me history d.holds fits.running runs

neither : (x y : Bool) → (x || y) ≡ false → y ≡ false
neither true y h = absurd cc
neither false y h = h

pub replicas_are_prompt : RunningReplicasArePrompt
replicas_are_prompt c r history fits runs =
    desks_are_prompt c (replica_fits.me_of r) r.desk history fits.0 (neither (is_none r.orderer.holds) (is_none r.desk.holds) runs)
