use Rattle.std.proofs.Common.{◌≡◌, ◌++◌, drop, map, flat_map}
use Rattle.points.specs.PointView.{item_of}
use Rattle.schedule_command.specs.Texts.{point_line}
use Rattle.schedule_command.proofs.writing.put_points.Given as goal

abbrev pub invariant-loop-point : goal.invariant-loop-point
invariant-loop-point l = l.text.items ++ flat_map point_line (map item_of (drop l.point-index l.points)) ≡ l.fn.text.items ++ flat_map point_line (map item_of l.points)
