use Rattle.std.proofs.Common.{◌≡◌, ◌++◌, drop, map}
use Rattle.wire_format.specs.Lists.{each_spelling}
use Rattle.wire_format.specs.Views.{batch_text}
use Rattle.wire_format.specs.Spelling.{batches_spelling}
use Rattle.wire_format.proofs.put_lists.put_batches.Given as goal

abbrev pub invariant-loop-batch : goal.invariant-loop-batch
invariant-loop-batch l = l.out.items ++ each_spelling (λ b. b) (map batch_text (drop l.batch-index l.batches)) ≡ l.fn.out.items ++ batches_spelling (map batch_text l.batches)
