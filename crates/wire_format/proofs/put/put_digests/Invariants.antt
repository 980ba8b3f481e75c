use Rattle.std.proofs.Common.{◌≡◌, ◌++◌, drop}
use Rattle.wire_format.specs.Lists.{each_spelling}
use Rattle.wire_format.proofs.put.put_digests.Given as goal

abbrev pub invariant-loop-digest : goal.invariant-loop-digest
invariant-loop-digest l = l.out.items ++ each_spelling (λ d. d) ((drop l.digest-index l.digests)) ≡ l.fn.out.items ++ each_spelling (λ d. d) l.digests
