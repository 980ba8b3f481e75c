use Rattle.std.proofs.Common.{◌≡◌, ◌<◌, ◌+◌, ◌-◌, ◌^◌, min, drop, map, length}
use Rattle.wire_format.specs.Lists.{each_spelling}
use Rattle.wire_format.specs.Views.{batch_text}
use Rattle.wire_format.specs.Spelling.{batches_spelling}
use Rattle.wire_format.proofs.sizes.batches_len.Given as goal

abbrev pub invariant-loop-batch : goal.invariant-loop-batch
invariant-loop-batch l = record {
  total : min (l.len + length (each_spelling (λ b. b) (map batch_text (drop l.batch-index l.batches)))) (2 ^ 64 - 1) ≡ min (length (batches_spelling (map batch_text l.batches))) (2 ^ 64 - 1);
  fits : l.len < 2 ^ 64;
}
