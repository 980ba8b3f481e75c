use Rattle.std.proofs.Common.{◌≡◌, ◌-◌, []}
use Rattle.tuple_tree.specs.Reading.{rest_of}
use Rattle.wire_format.specs.Reading.{more_at, anyhow, digest_at}
use Rattle.wire.proofs.judging.skip_digests.Given as goal

abbrev pub invariant-loop-i : goal.invariant-loop-i
invariant-loop-i l = rest_of (more_at digest_at anyhow (l.count - l._i) [] l.rest) ≡ rest_of (more_at digest_at anyhow l.count [] l.bytes)
