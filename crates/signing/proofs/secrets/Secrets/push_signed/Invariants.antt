use Rattle.std.proofs.Common.{◌≡◌, ◌++◌, ◌*◌}
use Rattle.signing.specs.Joined.{end_to_end}
use Rattle.signing.specs.Signatures.{signed_bit}
use Rattle.signing.proofs.secrets.Secrets.push_signed.Given as goal

abbrev pub invariant-loop-group : goal.invariant-loop-group
invariant-loop-group l = l.bytes.items ≡ l.initial.bytes.items ++ end_to_end (4 * l.group) (signed_bit l.self l.leaf l.hash)
