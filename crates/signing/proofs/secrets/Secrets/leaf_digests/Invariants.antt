use Rattle.std.proofs.Common.{map}
use Rattle.signing.specs.Fours.{HaveTakenIn, four_from, public_pair}
use Rattle.signing.specs.Joined.{end_to_end}
use Rattle.signing.proofs.secrets.Secrets.leaf_digests.Given as goal

abbrev pub invariant-loop-bit : goal.invariant-loop-bit
invariant-loop-bit l = HaveTakenIn (map (λ leaf. end_to_end l.bit (public_pair l.self leaf)) (four_from l.first)) l.states
