use Rattle.std.proofs.Common.{◌≡◌, ◌-◌}
use Rattle.std.specs.List.{range_with_len}
use Rattle.space.specs.Marking.{with_pages}
use Rattle.space.proofs.tuples.add_all_pages.Given as goal

-- With the pages that are left, the set has as many as with all.
abbrev pub invariant-loop-page : goal.invariant-loop-page
invariant-loop-page l = with_pages l.pages (range_with_len l.page (256 - l.page)) ≡ with_pages l.fn.pages (range_with_len 0 256)
