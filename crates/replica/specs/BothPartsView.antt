-- The model of a joined replica's fields.
use Rattle.replica.specs.declared.both_parts.BothParts.TheInside.{Inside}
use Rattle.replica.specs.State.{BothPartsData}

abbrev pub both_parts_data : Inside → BothPartsData
both_parts_data r = record { orderer = r.orderer; desk = r.desk }
