use Rattle.std.proofs.Common.{◌≡◌, ◌++◌, take}
use Rattle.space.specs.Found.{entries_at}
use Rattle.space.specs.Pages.{entries_text}
use Rattle.space.proofs.pages.text_behind.Given as goal

-- the front, and the text of the entries so far
abbrev pub invariant-loop-birth : goal.invariant-loop-birth
invariant-loop-birth l = l.text.items ≡ l.front ++ entries_text l.version (entries_at l.tuples.entries (take l.birth-index l.births))
