use Rattle.std.proofs.Common.{◌+◌}
use Rattle.signing.specs.Hashing.{TakesIn}
use Rattle.signing.specs.Joined.{end_to_end}
use Rattle.signing.specs.Signatures.{shown_pair}
use Rattle.signing.proofs.signature.add_pairs.Given as goal

abbrev pub invariant-loop-i : goal.invariant-loop-i
invariant-loop-i l = TakesIn (end_to_end l.i (λ k. shown_pair l.signature l.hash (l.first + k))) l.initial.hasher l.hasher
