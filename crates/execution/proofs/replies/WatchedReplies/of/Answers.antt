use Rattle.std.proofs.Common.{true, false}
use Rattle.std.proofs.lemmas.List.{get_or-replicate}
use Rattle.execution.proofs.replies.WatchedReplies.of.Goals as goal

pub returns-clause-all : goal.returns-clause-all
returns-clause-all c = λ client l. get_or-replicate 256 client true false l
