use Rattle.std.proofs.Common.{◌≡◌, drop, map, max}
use Rattle.wire_format.specs.Views.{batch_entry_data}
use Rattle.view_change.specs.Selecting.{latest_in}
use Rattle.view_change.specs.Sets.{sized, changes_by_sender}
use Rattle.view_change.proofs.choosing.latest_in.Given as goal

abbrev pub invariant-loop-entry : goal.invariant-loop-entry
invariant-loop-entry l =
    latest_in (sized l.sizes) (changes_by_sender l.set) l.number.0 l.digest (map batch_entry_data l.entries)
    ≡ max l.latest (latest_in (sized l.sizes) (changes_by_sender l.set) l.number.0 l.digest (map batch_entry_data (drop l.entry-index l.entries)))
