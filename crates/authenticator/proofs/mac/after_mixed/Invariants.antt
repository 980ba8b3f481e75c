use Rattle.std.proofs.Common.{◌≡◌, ◌++◌, take, drop}
use Rattle.authenticator.specs.Mac.{xor_each}
use Rattle.authenticator.proofs.mac.after_mixed.Given as goal

abbrev pub invariant-loop-byte : goal.invariant-loop-byte
invariant-loop-byte l = l.byte-items ≡ xor_each l.pad (take l.byte-index l.block) ++ drop l.byte-index l.block
