use Rattle.std.proofs.Common.{arith}
use Rattle.std.proofs.lemmas.Slice.{pushed}
use Rattle.signing.proofs.Joining.{append-joined_none, joined_push}
use Rattle.signing.proofs.Nodes.{sibling_room}
use Rattle.signing.proofs.tree.push_path.Goals as goal

pub loop-level-init : goal.loop-level-init
loop-level-init c = λ leaves same. append-joined_none _ _

pub node_index-requires-clause-place : goal.node_index-requires-clause-place
node_index-requires-clause-place c =
    rw c.sibling_of.ensures.value (sibling_room c.args.leaf c.loop-level.level c.requires c.loop-level-test.true)

pub loop-level-preserved : goal.loop-level-preserved
loop-level-preserved c = λ leaves same.
    joined_push _ c.loop-level.level _ _ _
    (pushed _ (c.loop-level.invariant leaves same) c.in_ok-extend_from_slice.was c.extend_from_slice.ensures.items)
    (rw (c.node_index.ensures.value, c.sibling_of.ensures.value)
    (same c.loop-level.level _ (omega (arith, c.loop-level-test.true)) (sibling_room c.args.leaf c.loop-level.level c.requires c.loop-level-test.true)))
