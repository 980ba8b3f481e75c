use Rattle.std.proofs.Common.{◌≡◌, ◌-◌, ◌%◌, nat_lt, slice_index}
use Rattle.space.specs.Births.{first_passing}
use Rattle.space.proofs.births.next_birth.Given as goal

-- The births left to look at have the same first number.
abbrev pub invariant-loop-birth : goal.invariant-loop-birth
invariant-loop-birth l =
    first_passing (λ birth. nat_lt (slice_index l.page_counts (birth % 256)) 64) 256 l.next
    ≡ first_passing (λ birth. nat_lt (slice_index l.page_counts (birth % 256)) 64) (l.end - l.birth) l.birth
