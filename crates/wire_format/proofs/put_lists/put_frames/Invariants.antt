use Rattle.std.proofs.Common.{◌≡◌, ◌++◌, drop, map}
use Rattle.wire_format.specs.Lists.{each_spelling}
use Rattle.wire_format.specs.Spelling.{piece, pieces_spelling}
use Rattle.wire_format.proofs.put_lists.put_frames.Given as goal

abbrev pub invariant-loop-frame : goal.invariant-loop-frame
invariant-loop-frame l = l.out.items ++ each_spelling piece (map (λ c. c.items) (drop l.frame-index l.frames)) ≡ l.fn.out.items ++ pieces_spelling (map (λ c. c.items) l.frames)
