use Rattle.std.proofs.Common.{◌≡◌, ◌+◌, drop, map}
use Rattle.wire_format.specs.Views.{checkpoint_entry_data}
use Rattle.ordering.specs.Places.{place_in}
use Rattle.ordering.proofs.checkpoints.place_of.Given as goal

abbrev pub invariant-loop-place : goal.invariant-loop-place
invariant-loop-place l = place_in l.number.0 (map checkpoint_entry_data l.entries) ≡ l.place + place_in l.number.0 (map checkpoint_entry_data (drop l.place l.entries))
