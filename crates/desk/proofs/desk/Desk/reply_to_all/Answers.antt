use Rattle.std.proofs.Common.{◌∙◌}
use Rattle.desk.proofs.Running.{replies_next}
use Rattle.desk.proofs.desk.Desk.reply_to_all.Goals as goal

pub loop-it-preserved : goal.loop-it-preserved
loop-it-preserved c = record {
  can_next = tt;
  is_finite = tt;
  same = c.in_ok-reply.ensures.same ∙ c.loop-it.invariant.same;
  replies = replies_next _ _ _ c.in-Some.it _ _ _ _ _ c.loop-it.invariant.same c.in-Some.ensures.steps.0 c.loop-it.invariant.replies c.in_ok-reply.ensures.said;
}
