-- The model of a desk's fields.
use Rattle.signing.specs.Publics.{knows}
use Rattle.desk.specs.declared.desk.Desk.TheInside.{Inside}
use Rattle.desk.specs.State.{DeskData}

abbrev pub desk_data : Inside → DeskData
desk_data d = record {
  me = d.me.0;
  membership = knows d.ring.value d.publics;
  period = d.period;
  executed = d.executed.value;
  snapshots = d.snapshots;
  transfer = d.transfer;
  waiting = d.waiting;
}
