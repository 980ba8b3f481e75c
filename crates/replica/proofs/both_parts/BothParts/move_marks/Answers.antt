use Rattle.std.proofs.Common.{refl}
use Rattle.replica.specs.BothPartsView.{both_parts_data}
use Rattle.replica.proofs.Marking.{moves_so}
use Rattle.replica.proofs.both_parts.BothParts.move_marks.Goals as goal

pub returns-clause-moves : goal.returns-clause-moves
returns-clause-moves c =
    rw (← c.self.view_is)
    (moves_so c.args.low.0 c.low.result.0 (both_parts_data c.self.inside) _ _ c.cut.new.self c.drop_below.new.self c.cut.ensures refl c.low.ensures.value c.drop_below.ensures refl)
