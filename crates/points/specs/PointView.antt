-- The model of the program's points.
use Rattle.std.specs.Prelude.{List, map}
use Rattle.terms.specs.Parties.{client_party}
use Rattle.tuple_codec.specs.OperationView.{operation_of, outcome_of}
use Rattle.protocol.specs.Space.Linear.{Item, Placing}
use Rattle.points.specs.declared.point.Point.{Point}
use Rattle.points.specs.declared.point.Placed.{Placed}

-- an operation, and its position
abbrev pub item_of : Point → Item
item_of p =
    record {
      client = client_party p.client.number;
      timestamp = p.timestamp.0;
      op = operation_of p.op;
      answer = outcome_of p.answer;
      position = p.position;
    }

-- the items of these points, in their order
abbrev pub items_of : List Point → List Item
items_of points = map item_of points

-- the same with the number and mode that order it
abbrev pub placing_of : Placed → Placing
placing_of p = record { item = item_of p.point; number = p.number.0; mode = p.mode }

abbrev pub placings_of : List Placed → List Placing
placings_of placed = map placing_of placed
