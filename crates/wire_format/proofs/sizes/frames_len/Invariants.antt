use Rattle.std.proofs.Common.{◌≡◌, ◌<◌, ◌+◌, ◌-◌, ◌^◌, min, drop, map, length}
use Rattle.wire_format.specs.Lists.{each_spelling}
use Rattle.wire_format.specs.Spelling.{piece, pieces_spelling}
use Rattle.wire_format.proofs.sizes.frames_len.Given as goal

abbrev pub invariant-loop-frame : goal.invariant-loop-frame
invariant-loop-frame l = record {
  total : min (l.len + length (each_spelling piece (map (λ f. f.items) (drop l.frame-index l.frames)))) (2 ^ 64 - 1) ≡ min (length (pieces_spelling (map (λ f. f.items) l.frames))) (2 ^ 64 - 1);
  fits : l.len < 2 ^ 64;
}
