use Rattle.std.proofs.Common.{◌≡◌, ◌<◌, ◌+◌, ◌-◌, ◌^◌, min, drop, length}
use Rattle.wire_format.specs.Lists.{each_spelling}
use Rattle.wire_format.proofs.sizes.digests_len.Given as goal

abbrev pub invariant-loop-digest : goal.invariant-loop-digest
invariant-loop-digest l = record {
  total : min (l.len + length (each_spelling (λ d. d) (drop l.digest-index l.digests))) (2 ^ 64 - 1) ≡ min (length (each_spelling (λ d. d) l.digests)) (2 ^ 64 - 1);
  fits : l.len < 2 ^ 64;
}
