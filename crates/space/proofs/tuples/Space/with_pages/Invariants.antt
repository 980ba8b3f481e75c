use Rattle.std.proofs.Common.{map}
use Rattle.space.specs.Reading.{ArePagesRead}
use Rattle.space.proofs.tuples.Space.with_pages.Given as goal

-- the pages before this one were read
abbrev pub invariant-loop-page : goal.invariant-loop-page
invariant-loop-page l = ArePagesRead l.version l.page l.next (map (λ page. page.now) l.pages) l.tuples.entries l.page_counts
