use Rattle.std.proofs.Common.{◌∙◌, ap}
use Rattle.desk.specs.State.{DeskData}
use Rattle.desk.specs.DeskView.{desk_data}
use Rattle.desk.specs.Waiting.{WaitingData, with_request}
use Rattle.desk.proofs.desk.Desk.wait.Goals as goal

pub returns-clause-ok : goal.returns-clause-ok
returns-clause-ok c =
    let old : DeskData = desk_data c.self.inside in (
      c.in_ok-frame.frame,
      c.in_ok-frame.ensures.items,
      rw (← c.self.view_is) (ap (λ (w : WaitingData). record old { waiting = w }) (c.in_ok-push.ensures.ok ∙ ap (with_request c.args.client c.args.timestamp c.in_ok-frame.frame) c.remove.ensures)),
    )
