-- The model of an open transfer's fields.
use Rattle.desk.specs.declared.transfer.StateTransfer.TheInside.{Inside}
use Rattle.desk.specs.State.{OpenData}

abbrev pub open_data : Inside → OpenData
open_data o = record { transfer = o.transfer.value; rests_at = o.rests_at.0 }
