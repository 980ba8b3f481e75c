use Rattle.std.proofs.Common.{◌≡◌, ◌-◌, []}
use Rattle.tuple_tree.specs.Reading.{rest_of}
use Rattle.wire_format.specs.Reading.{more_at, anyhow, batch_text_at}
use Rattle.wire.proofs.carried.skip_batches.Given as goal

abbrev pub invariant-loop-i : goal.invariant-loop-i
invariant-loop-i l = rest_of (more_at (batch_text_at 0) anyhow (l.count - l._i) [] l.rest) ≡ rest_of (more_at (batch_text_at 0) anyhow l.count [] l.initial.rest)
