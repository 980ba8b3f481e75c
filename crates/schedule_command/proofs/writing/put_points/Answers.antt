use Rattle.std.proofs.Common.{refl, ap, ◌∙◌, ◌++◌, map, flat_map}
use Rattle.points.specs.PointView.{item_of}
use Rattle.wire_format.proofs.Appending.{one_more, none_left}
use Rattle.schedule_command.specs.Texts.{point_line}
use Rattle.schedule_command.proofs.writing.put_points.Goals as goal

pub loop-point-preserved : goal.loop-point-preserved
loop-point-preserved c =
    one_more (λ xs. flat_map point_line (map item_of xs)) (λ x. point_line (item_of x)) (λ x xs. refl) c.args.points.now c.loop-point.point-index c.point-item.result c.loop-point.text.items c.put_point.new.text.items _ c.loop-point-test.true
    (c.in_ok-put_point.ensures ∙ ap (λ x. c.loop-point.text.items ++ point_line (item_of x)) c.point-item.is) c.loop-point.invariant

pub returns : goal.returns
returns c =
    none_left (λ xs. flat_map point_line (map item_of xs)) (λ x. point_line (item_of x)) (λ x xs. refl) c.args.points.now c.loop-point.point-index _ _ c.loop-point-test.false refl c.loop-point.invariant
