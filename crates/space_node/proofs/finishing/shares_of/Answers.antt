use Rattle.std.proofs.Common.{rules}
use Rattle.space_node.proofs.Finished.{prompt_more, shares_are, shares_more}
use Rattle.space_node.proofs.NewParties.{is_served}
use Rattle.space_node.proofs.finishing.shares_of.Goals as goal

pub share_of-share-requires : goal.share_of-share-requires
share_of-share-requires g c = record {
  correct = is_served g.N.Naming.config c.args.replicas.now c.loop-replica.replica-index (record { 0 = 0 }) c.requires.serves c.loop-replica-test.true;
}

pub loop-replica-preserved : goal.loop-replica-preserved
loop-replica-preserved g c = (
  shares_more c.args.replicas.now c.loop-replica.replica-index (record { 0 = 0 }) c.loop-replica.shares.items _ c.share_of-share.result c.loop-replica-test.true c.share_of-share.ensures.party
      (search rules) c.loop-replica.invariant.0,
  prompt_more g.N.Naming.config c.loop-replica.shares.items _ c.share_of-share.result (search rules) c.loop-replica.invariant.1 c.share_of-share.ensures.prompt,
)

pub returns-clause-parties : goal.returns-clause-parties
returns-clause-parties g c =
    shares_are g.N.Naming.config c.args.replicas.now c.loop-replica.replica-index c.loop-replica.shares.items c.requires.serves c.loop-replica-test.false c.loop-replica.invariant.0
