use Rattle.std.proofs.Common.{◌∙◌, List, ℕ, arith, subst}
use Rattle.event_log.specs.Standing.{GathersMore}
use Rattle.lives.specs.Events.{logged}
use Rattle.lives.proofs.Lasts.{machine_more, machine_same, log_more, given_more, new_outputs}
use Rattle.lives.proofs.lasting.Lasting.take.Goals as goal

pub returns-then-not-moved-clause-takes : goal.returns-then-not-moved-clause-takes
returns-then-not-moved-clause-takes g c owner synced held lasts =
    let same = machine_same g.M.Machine.fits _ _ _ _ _ _ _ c.in_ok-moved.ensures c.if-not-moved.true lasts.machine in
    record {
      machine = same.1;
      log = lasts.log;
      given = same.0 ∙ lasts.given;
    }

pub returns-clause-takes : goal.returns-clause-takes
returns-clause-takes g c owner synced held lasts =
    let steps = c.in_ok-moved.ensures in (
      steps.outputs,
      record {
        machine = machine_more g.M.Machine.fits _ _ _ _ _ _ synced held steps c.if-not-moved.false lasts.machine;
        log = log_more g.D.Disk.seen g.D.Disk.may_leave owner _ _ _ synced held (c.args.input.now, steps.outputs) lasts.log
            (subst (λ (l : List ℕ). GathersMore c.args.self.now.log c.log_event.new.log (logged (c.args.input.now, l))) (new_outputs c.args.self.now.held.items c.step.new.outputs.items steps.outputs c.deref.result.now c.len-before.result steps.given (omega (arith, c.len-before.ensures)) c.deref.ensures.value) c.in_ok-log_event.ensures);
        given = given_more held c.args.input.now steps.outputs _ _ steps.given lasts.given;
      },
    )
