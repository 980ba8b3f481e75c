use Rattle.std.proofs.Common.{◌∷◌, length}
use Rattle.std.specs.List.{flat_map}
use Rattle.tuple_text.specs.Texts.{hex_pair}
use Rattle.tuple_text.proofs.Writing.{SoFar}
use Rattle.tuple_text.proofs.write.put_bytes.Given as goal

abbrev pub invariant-loop-left : goal.invariant-loop-left
invariant-loop-left g l = SoFar l.fn.out.items l.out.items (flat_map hex_pair l.left) (120 ∷ flat_map hex_pair l.bytes)

abbrev pub decreases-loop-left : goal.decreases-loop-left
decreases-loop-left g l = length l.left
