use Rattle.std.proofs.Common.{◌∙◌}
use Rattle.signing.specs.Lamport.{leaf_digest}
use Rattle.signing.proofs.Fours.{leaves_more}
use Rattle.signing.proofs.tree.leaf_nodes.Goals as goal

pub loop-group-preserved : goal.loop-group-preserved
loop-group-preserved c =
    leaves_more (leaf_digest c.args.secrets.now) c.loop-group.nodes c.copy_from_slice.new.self c.loop-group.group _
    c.loop-group-test.array_long c.loop-group-test.true (c.copy_from_slice.ensures.after ∙ c.leaf_digests.ensures) c.loop-group.invariant
