use Rattle.std.proofs.Common.{◌≡◌, ◌-◌, []}
use Rattle.tuple_tree.specs.Reading.{rest_of}
use Rattle.wire_format.specs.Lists.{listed}
use Rattle.wire_format.specs.Spelling.{sender_before}
use Rattle.wire_format.specs.Reading.{passing, more_at, comes_after, piece_at, is_change}
use Rattle.wire.proofs.carried.skip_changes.Given as goal

abbrev pub invariant-loop-i : goal.invariant-loop-i
invariant-loop-i l =
    rest_of (more_at (passing is_change piece_at) (comes_after sender_before) (l.count - l._i) (listed (λ c. c.now) l.last) l.rest)
    ≡ rest_of (more_at (passing is_change piece_at) (comes_after sender_before) l.count [] l.initial.rest)
