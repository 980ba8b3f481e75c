use Rattle.std.proofs.Common.{◌≡◌, ◌++◌, ℕ, List}
use Rattle.signing.specs.Joined.{end_to_end}
use Rattle.signing.specs.Signatures.{sibling_digest}
use Rattle.signing.specs.Signing.{HasNodes}
use Rattle.signing.proofs.tree.push_path.Given as goal

abbrev pub invariant-loop-level : goal.invariant-loop-level
invariant-loop-level l =
    (leaves : ℕ → List ℕ) → HasNodes leaves l.nodes → l.bytes.items ≡ l.initial.bytes.items ++ end_to_end l.level (sibling_digest leaves l.leaf)
