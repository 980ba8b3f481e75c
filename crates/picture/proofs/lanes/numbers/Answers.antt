use Rattle.picture.specs.Lanes.{HasArrow, HasEntry, HasPoint}
use Rattle.picture.proofs.Taking.{all_added}
use Rattle.picture.proofs.lanes.numbers.Goals as goal

pub returns : goal.returns
returns c =
    all_added (HasEntry c.args.rows c.args.run.trace.now) (HasArrow c.args.arrows.now) (HasPoint c.args.rows c.args.run.points.now) c.new-numbers.result.items c.add_entries.new.numbers.items c.add_arrows.new.numbers.items c.add_points.new.numbers.items
    c.sort.new.self.items c.new-numbers.ensures.items c.in_ok-add_entries.ensures c.in_ok-add_arrows.ensures c.in_ok-add_points.ensures c.sort.ensures.permutation
