-- The model of the kept states.
use Rattle.std.specs.Prelude.{List, map}
use Rattle.replica_histories.specs.Desk.{Snapshot}
use Rattle.desk.specs.declared.snapshots.KeptState.{KeptState}
use Rattle.desk.specs.declared.snapshots.Snapshots.TheInside.{Inside}

abbrev pub kept_data : KeptState → Snapshot
kept_data state = record { number = state.number.0; pages = state.pages }

abbrev pub snapshots_data : Inside → List Snapshot
snapshots_data s = map kept_data s.kept.items
