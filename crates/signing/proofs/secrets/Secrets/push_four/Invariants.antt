use Rattle.std.proofs.Common.{◌≡◌, ◌++◌, ◌+◌}
use Rattle.signing.specs.Joined.{end_to_end}
use Rattle.signing.specs.Signatures.{signed_bit}
use Rattle.signing.proofs.secrets.Secrets.push_four.Given as goal

abbrev pub invariant-loop-i : goal.invariant-loop-i
invariant-loop-i l = l.bytes.items ≡ l.initial.bytes.items ++ end_to_end l.i (λ k. signed_bit l.self l.leaf l.hash (l.first + k))
