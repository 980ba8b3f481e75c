use Rattle.std.proofs.Common.{◌≡◌}
use Rattle.signing.specs.Merkle.{climbed}
use Rattle.signing.specs.Signatures.{shown_digest, shown_sibling}
use Rattle.signing.proofs.signature.root_shown.Given as goal

abbrev pub invariant-loop-level : goal.invariant-loop-level
invariant-loop-level l = l.digest ≡ climbed (shown_sibling l.signature) l.leaf (shown_digest l.signature l.text) l.level
