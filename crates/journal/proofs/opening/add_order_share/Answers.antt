use Rattle.std.proofs.Common.{sym, ◌∙◌}
use Rattle.journal.proofs.Openings.{replica_correct}
use Rattle.journal.proofs.opening.add_order_share.Goals as goal

pub new-requires-clause-party : goal.new-requires-clause-party
new-requires-clause-party g c =
    rw (c.party.ensures, ← c.requires.config) (replica_correct c.args.config.now c.args.number c.requires.replica (sym c.is_correct.ensures ∙ c.if-is_correct.true))
