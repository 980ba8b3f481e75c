use Rattle.std.proofs.Common.{◌++◌, ◌<◌, ◌^◌, ◌∙◌, ap, refl, map, length, arith}
use Rattle.wire_format.specs.Lists.{each_spelling}
use Rattle.wire_format.specs.Spelling.{piece}
use Rattle.wire_format.proofs.Appending.{each_at, one_more, none_left}
use Rattle.wire_format.proofs.put_lists.put_frames.Goals as goal

pub put_piece-requires : goal.put_piece-requires
put_piece-requires c =
    let short = each_at (λ frame. length frame < 2 ^ 32) (λ x. x.items) c.args.frames.now c.loop-frame.frame-index c.frame-item.result c.requires.short c.loop-frame-test.true in
    omega (arith, short, ap (λ x. length x.items) c.frame-item.is, c.deref.ensures.len)

pub loop-frame-preserved : goal.loop-frame-preserved
loop-frame-preserved c =
    one_more (λ cs. each_spelling piece (map (λ x. x.items) cs)) (λ x. piece x.items) (λ x xs. refl) c.args.frames.now c.loop-frame.frame-index c.frame-item.result _ _ _ c.loop-frame-test.true
    (c.in_ok-put_piece.ensures ∙ ap (λ t. c.loop-frame.out.items ++ piece t) c.deref.ensures.value ∙ ap (λ x. c.loop-frame.out.items ++ piece x.items) c.frame-item.is) c.loop-frame.invariant

pub returns : goal.returns
returns c = none_left (λ cs. each_spelling piece (map (λ x. x.items) cs)) (λ x. piece x.items) (λ x xs. refl) c.args.frames.now c.loop-frame.frame-index _ _ c.loop-frame-test.false refl c.loop-frame.invariant
