use Rattle.std.proofs.Common.{[], ◌∷◌, ◌++◌, ◌-◌, drop, length}
use Rattle.std.specs.List.{flat_map}
use Rattle.tuple_text.specs.Texts.{escaped}
use Rattle.tuple_text.proofs.Writing.{SoFar}
use Rattle.tuple_text.proofs.write.put_escapes.Given as goal

abbrev pub invariant-loop-done : goal.invariant-loop-done
invariant-loop-done g l =
    SoFar l.fn.out.items l.out.items (flat_map escaped (drop l.done l.text) ++ 34 ∷ []) (34 ∷ flat_map escaped l.text ++ 34 ∷ [])

abbrev pub decreases-loop-done : goal.decreases-loop-done
decreases-loop-done g l = length l.text - l.done
