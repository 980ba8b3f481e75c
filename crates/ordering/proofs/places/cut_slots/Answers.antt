use Rattle.std.proofs.Common.{◌∙◌, ap, arith, add-one, slice_set}
use Rattle.std.proofs.lemmas.List.{length-set}
use Rattle.ordering.specs.Log.{Row, no_row}
use Rattle.ordering.proofs.Keeping.{cleared}
use Rattle.ordering.proofs.places.cut_slots.Goals as goal

pub loop-at-preserved : goal.loop-at-preserved
loop-at-preserved c = record {
  cleared =
      ap (λ (x : Row). slice_set c.loop-at.slots.items c.loop-at.at x) c.new.ensures ∙ ap (λ ys. slice_set ys c.loop-at.at no_row) c.loop-at.invariant.cleared
      ∙ rw add-one (cleared c.args.slots.now.items c.loop-at.at (omega arith));
  long = length-set c.loop-at.slots.items c.loop-at.at c.new.result ∙ c.loop-at.invariant.long;
}
