use Rattle.std.proofs.Common.{length}
use Rattle.view_change.proofs.received.+held_in.Given as goal

abbrev pub decreases-held_in : goal.decreases-held_in
decreases-held_in l = length l.held.now
