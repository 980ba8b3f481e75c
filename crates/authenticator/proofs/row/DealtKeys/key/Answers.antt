use Rattle.std.proofs.Common.{◌∙◌, sym}
use Rattle.authenticator.proofs.Others.{finds_no_other, finds_own}
use Rattle.authenticator.proofs.row.DealtKeys.key.Goals as goal

pub returns-then-joins : goal.returns-then-joins
returns-then-joins c =
    let keys = c.args.self.now in
    rw c.derive.ensures (sym (finds_own keys.seed keys.faults keys.clients keys.me c.args.from c.args.to (sym c.joins.ensures ∙ c.if-joins.true)))

pub returns-else-joins : goal.returns-else-joins
returns-else-joins c =
    let keys = c.args.self.now in
    sym (finds_no_other keys.seed keys.faults keys.clients keys.me c.args.from c.args.to (sym c.joins.ensures ∙ c.if-joins.false))
