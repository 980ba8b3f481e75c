use Rattle.std.proofs.Common.{take}
use Rattle.space_node.specs.Runs.{HasHistories}
use Rattle.space_node.proofs.finishing.first_share_off.Given as goal

abbrev pub invariant-loop-share : goal.invariant-loop-share
invariant-loop-share g l = HasHistories l.journal.trace (take l.share-index l.shares)
