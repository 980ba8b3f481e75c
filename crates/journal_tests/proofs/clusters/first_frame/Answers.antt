use Rattle.journal_tests.proofs.Sending.{asks_first}
use Rattle.journal_tests.proofs.clusters.first_frame.Goals as goal

pub returns : goal.returns
returns c =
    asks_first c.args.config.now c.args.client.number c.in_ok-seal.field-0.items c.requires.faults (rw (c.in_ok-ring.ensures, c.new_op.ensures, c.all_replicas.ensures) at c.in_ok-seal.ensures.sealed)
