use Rattle.std.proofs.Common.{◌<◌, length, true, false, refl, subst, arith}
use Rattle.std.proofs.lemmas.Option.{slice_get_read}
use Rattle.schedule_text.specs.StepView.{step_of}
use Rattle.schedule_world.specs.Moving.{StepIsTaken}
use Rattle.schedule_world.specs.Reporting.{IsReportOf}
use Rattle.schedule_world.specs.declared.stage.Stage.{Stage}
use Rattle.schedule_world.proofs.Concluding.{tells, stops_here, one_step_more, all_steps}
use Rattle.schedule_world.proofs.running.run.Goals as goal

pub take_step-requires-clause-stands : goal.take_step-requires-clause-stands
take_step-requires-clause-stands c = (c.loop-i.invariant.1.world, c.loop-i.invariant.1.stands)

pub returns-then-not-branch-clause-stops : goal.returns-then-not-branch-clause-stops
returns-then-not-branch-clause-stops c =
    let within : c.loop-i.i < length c.args.steps.now = omega arith in
    let there = slice_get_read c.args.steps.now (length c.args.steps.now) c.loop-i.i c.index-steps-i.result refl within c.index-steps-i.is in
    let takes : StepIsTaken c.args.config.now (step_of c.index-steps-i.result) c.loop-i.stage c.take_step.new.stage false =
    subst (StepIsTaken c.args.config.now (step_of c.index-steps-i.result) c.loop-i.stage c.take_step.new.stage) c.if-not-branch.true c.in_ok-take_step.ensures.takes in
    stops_here c.args.config.now c.args.steps.now c.loop-i.i c.loop-i.stage c.index-steps-i.result c.in_ok-before.before c.loop-i.invariant.0 c.loop-i.invariant.1 there takes.1
    (subst (λ (s : Stage). IsReportOf c.args.config.now s c.in_ok-before.before) takes.0 c.in_ok-before.ensures)

pub loop-i-preserved : goal.loop-i-preserved
loop-i-preserved c =
    let within : c.loop-i.i < length c.args.steps.now = omega arith in
    let there = slice_get_read c.args.steps.now (length c.args.steps.now) c.loop-i.i c.index-steps-i.result refl within c.index-steps-i.is in
    let takes : StepIsTaken c.args.config.now (step_of c.index-steps-i.result) c.loop-i.stage c.take_step.new.stage true =
    subst (StepIsTaken c.args.config.now (step_of c.index-steps-i.result) c.loop-i.stage c.take_step.new.stage) c.if-not-branch.false c.in_ok-take_step.ensures.takes in
    (c.in_ok-take_step.ensures.placed, one_step_more c.args.config.now c.args.steps.now c.loop-i.i c.index-steps-i.result c.take_step.new.stage there (takes _ c.loop-i.invariant.1))

pub returns-clause-tells : goal.returns-clause-tells
returns-clause-tells c =
    tells c.args.config.now c.args.steps.now c.loop-i.stage _ c.loop-i.invariant.0
    (all_steps c.args.config.now c.args.steps.now c.loop-i.i c.loop-i.stage (omega arith) c.loop-i.invariant.1) c.in_ok-report_of.ensures
