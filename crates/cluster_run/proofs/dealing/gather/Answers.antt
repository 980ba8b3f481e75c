use Rattle.std.proofs.Common.{rules}
use Rattle.cluster_run.specs.Hands.{TakesItem}
use Rattle.cluster_run.proofs.Turns.{gathered_more}
use Rattle.cluster_run.proofs.dealing.gather.Goals as goal

pub loop-i-preserved : goal.loop-i-preserved
loop-i-preserved c =
    let takes : TakesItem c.loop-i.hands.items _ _ c.in_ok-ok_or.field-0 c.take_answer.new.hands.items = search rules in
    gathered_more c.args.hands.items c.loop-i.hands.items c.take_answer.new.hands.items c.args.clients c.loop-i.i c.loop-i.answers.items c.push.new.self.items
    c.in_ok-ok_or.field-0 c.loop-i.invariant.0 c.loop-i.invariant.1 takes (search rules)
