-- The model of an orderer's fields.
use Rattle.std.specs.Prelude.{option_map}
use Rattle.wire_format.specs.Views.{checkpoint_entry_data}
use Rattle.orderer.specs.declared.orderer.Orderer.TheInside.{Inside}
use Rattle.orderer.specs.State.{OrdererData}

-- the count of spent keys stands beside the endpoint
abbrev pub orderer_data : Inside → OrdererData
orderer_data o = record {
  endpoint = record o.endpoint.value { used = 0 };
  log = o.log;
  used = o.used.0;
  assigned = o.assigned.0;
  target = o.target.0;
  new_view = option_map (λ frame. frame.items) o.new_view;
  pq_sets = o.pq_sets;
  received = o.received;
  last_checkpoint = option_map checkpoint_entry_data o.last_checkpoint;
  spent = o.endpoint.value.used;
}
