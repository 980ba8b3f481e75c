use Rattle.std.proofs.Common.{◌≡◌, ◌+◌, ◌++◌, drop, length}
use Rattle.space.specs.Pages.{texts_of}
use Rattle.space_library.specs.Paged.{cut, total}
use Rattle.space_library.proofs.paging.cut_pages.Given as goal

-- What is cut, and what is left to be cut, is all.
abbrev pub invariant-loop-len : goal.invariant-loop-len
invariant-loop-len l = record {
  pages : texts_of l.pages.items ++ cut (drop l.len-index l.lengths) l.rest ≡ cut l.lengths l.texts;
  count : total l.lengths + length l.rest ≡ total (drop l.len-index l.lengths) + length l.texts;
}
