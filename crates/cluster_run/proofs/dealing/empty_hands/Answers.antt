use Rattle.std.proofs.Common.{rules}
use Rattle.cluster_run.proofs.Turns.{empty_more, no_hands}
use Rattle.cluster_run.proofs.dealing.empty_hands.Goals as goal

pub loop-preserved : goal.loop-preserved
loop-preserved c = (
  search rules,
  empty_more c.loop.hands.items c.push.new.self.items c.new.result (search rules) c.new.ensures.items c.loop.invariant.1,
)

pub returns : goal.returns
returns c = no_hands c.args.count c.loop.hands.items (search rules) c.loop.invariant.1
