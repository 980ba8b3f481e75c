use Rattle.protocol.specs.System.Configuration.{replicas}
use Rattle.journal.proofs.Openings.{party_added}
use Rattle.journal.proofs.opening.new_order_shares.Goals as goal

pub loop-number-preserved : goal.loop-number-preserved
loop-number-preserved g c =
    party_added c.args.config.now c.loop-number.number (replicas c.args.config.now) _ _ _ (rw (c.from-number-end.ensures, c.replicas.ensures.value) at c.loop-number-test.true) c.in_ok-add_order_share.ensures c.loop-number.invariant
