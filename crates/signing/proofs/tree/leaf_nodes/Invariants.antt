use Rattle.std.proofs.Common.{◌≡◌, ◌+◌, ◌*◌, ◌<◌, ℕ, [], get_or}
use Rattle.signing.specs.Lamport.{leaf_digest}
use Rattle.signing.proofs.tree.leaf_nodes.Given as goal

abbrev pub invariant-loop-group : goal.invariant-loop-group
invariant-loop-group l = (leaf : ℕ) → leaf < 4 * l.group → get_or l.nodes (64 + leaf) [] ≡ leaf_digest l.secrets leaf
