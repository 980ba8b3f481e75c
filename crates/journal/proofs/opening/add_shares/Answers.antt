use Rattle.journal.proofs.Openings.{party_added}
use Rattle.journal.proofs.opening.add_shares.Goals as goal

pub loop-number-preserved : goal.loop-number-preserved
loop-number-preserved g c =
    party_added c.args.config.now c.loop-number.number c.args.to _ _ _ c.loop-number-test.true c.in_ok-add_share.ensures c.loop-number.invariant
