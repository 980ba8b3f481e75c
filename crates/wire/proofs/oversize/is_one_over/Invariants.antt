use Rattle.std.proofs.Common.{◌≡◌, ◌-◌, []}
use Rattle.wire_format.specs.Lists.{listed}
use Rattle.wire_format.specs.Reading.{over_in}
use Rattle.wire.proofs.oversize.is_one_over.Given as goal

abbrev pub invariant-loop-i : goal.invariant-loop-i
invariant-loop-i l = over_in (l.count - l._i) (listed (λ c. c.now) l.last) l.rest ≡ over_in l.count [] l.bytes
