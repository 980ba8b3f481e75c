use Rattle.std.proofs.Common.{length}
use Rattle.events.proofs.config.+names_each_once.Given as goal

abbrev pub decreases-names_each_once : goal.decreases-names_each_once
decreases-names_each_once l = length l.list.now
