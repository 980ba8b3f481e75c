-- The model of a row's fields, and of a batch that the row lends.
use Rattle.std.specs.Prelude.{ℕ, List, Option, option_map}
use Rattle.std.specs.Arc.{arc_value}
use Rattle.std.specs.Borrow.{Bor}
use Rattle.std.specs.declared.alloc.Global.{Global}
use Rattle.std.specs.declared.sync.Arc.{Arc}
use Rattle.ordering.specs.declared.row.Slot.TheInside.{Inside}
use Rattle.ordering.specs.Log.{Row}

abbrev pub row_data : Inside → Row
row_data s =
    record {
      batch = option_map arc_value s.batch;
      prepares = s.prepares;
      commits = s.commits;
      decided = option_map arc_value s.decided;
    }

abbrev pub batch_lent : Option (Bor (Arc (List ℕ) Global)) → Option (List ℕ)
batch_lent lent = option_map (λ batch. arc_value batch.now) lent
