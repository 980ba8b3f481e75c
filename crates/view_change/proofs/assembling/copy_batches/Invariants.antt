use Rattle.std.proofs.Common.{◌≡◌, map, take}
use Rattle.wire_format.specs.Views.{batch_text}
use Rattle.view_change.specs.Sets.{texts_of}
use Rattle.view_change.proofs.assembling.copy_batches.Given as goal

abbrev pub invariant-loop-batch : goal.invariant-loop-batch
invariant-loop-batch l = map batch_text l.copies.items ≡ texts_of (take l.batch-index l.batches)
