use Rattle.std.proofs.Common.{◌<◌, length, arith, ◌∙◌}
use Rattle.desk.proofs.WaitingKept.{flag_stays, none_left, flag_changes}
use Rattle.desk.proofs.waiting.number_first.Goals.{then-left-gt0+then-not-request, else-left-gt0, else-left-gt0-via-then-left-gt0+else-not-request, else-left-gt0-via-else-left-gt0}
use Rattle.desk.proofs.waiting.number_first.Goals as goal

pub loop-request-preserved : goal.loop-request-preserved
loop-request-preserved c =
    let xs = c.loop-request.request-items in
    let i = c.loop-request.request-index in
    let n = c.loop-request.left in
    let test = c.loop-request-test.true in
    let long = c.loop-request.auto.request-items in
    let within : i < length xs = omega (arith, test, long) in
    elim c.if-left-gt0.branch [
      | then-left-gt0+then-not-request w ↦
          flag_changes xs i c.request-item.result within n _ _ w.if-not-request.true w.if-left-gt0.true w.request-items-is w.left-is ∙ c.loop-request.invariant
      | else-left-gt0 w ↦ elim w.else-left-gt0.branch [
        | else-left-gt0-via-then-left-gt0+else-not-request x ↦
            flag_stays xs i c.request-item.result within n _ _ x.if-not-request.false (w.request-items-is ∙ x.request-items-is) w.left-is ∙ c.loop-request.invariant
        | else-left-gt0-via-else-left-gt0 x ↦
            none_left xs i c.request-item.result within n _ _ x.if-left-gt0.false (w.request-items-is ∙ x.request-items-is) w.left-is ∙ c.loop-request.invariant
      ]
    ]
