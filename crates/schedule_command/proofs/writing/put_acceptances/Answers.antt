use Rattle.std.proofs.Common.{refl, ap, ◌∙◌, ◌++◌, map, flat_map}
use Rattle.schedule_world.specs.Stages.{acceptance_of}
use Rattle.wire_format.proofs.Appending.{one_more, none_left}
use Rattle.schedule_command.specs.Texts.{accepted_line}
use Rattle.schedule_command.proofs.writing.put_acceptances.Goals as goal

pub loop-acceptance-preserved : goal.loop-acceptance-preserved
loop-acceptance-preserved c =
    one_more (λ xs. flat_map accepted_line (map acceptance_of xs)) (λ x. accepted_line (acceptance_of x)) (λ x xs. refl) c.args.accepted.now c.loop-acceptance.acceptance-index c.acceptance-item.result c.loop-acceptance.text.items c.put_acceptance.new.text.items _ c.loop-acceptance-test.true
    (c.in_ok-put_acceptance.ensures ∙ ap (λ x. c.loop-acceptance.text.items ++ accepted_line (acceptance_of x)) c.acceptance-item.is) c.loop-acceptance.invariant

pub returns : goal.returns
returns c =
    none_left (λ xs. flat_map accepted_line (map acceptance_of xs)) (λ x. accepted_line (acceptance_of x)) (λ x xs. refl) c.args.accepted.now c.loop-acceptance.acceptance-index _ _ c.loop-acceptance-test.false refl c.loop-acceptance.invariant
