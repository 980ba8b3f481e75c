use Rattle.std.proofs.Common.{false}
use Rattle.std.proofs.lemmas.List.{get_or-replicate}
use Rattle.execution.proofs.replies.WatchedReplies.untouch.Goals as goal

pub returns-clause-none : goal.returns-clause-none
returns-clause-none c = λ client l. get_or-replicate 256 client false false l
