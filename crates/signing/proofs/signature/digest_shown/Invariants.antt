use Rattle.std.proofs.Common.{◌*◌}
use Rattle.sha2.specs.Hashers.{Holds256}
use Rattle.signing.specs.Joined.{end_to_end}
use Rattle.signing.specs.Signatures.{shown_pair}
use Rattle.signing.proofs.signature.digest_shown.Given as goal

abbrev pub invariant-loop-group : goal.invariant-loop-group
invariant-loop-group l = Holds256 l.hasher (end_to_end (4 * l.group) (shown_pair l.signature l.hash))
