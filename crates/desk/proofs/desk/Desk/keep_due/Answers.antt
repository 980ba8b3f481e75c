use Rattle.std.proofs.Common.{rules}
use Rattle.desk.proofs.Newest.{may_keep_due}
use Rattle.desk.proofs.desk.Desk.keep_due.Goals as goal

pub keep_state-requires : goal.keep_state-requires
keep_state-requires c = record { may = may_keep_due c.args.self.now c.is_checkpoint_due.result c.keeps.ensures c.requires.newer c.is_checkpoint_due.ensures (search rules) }
