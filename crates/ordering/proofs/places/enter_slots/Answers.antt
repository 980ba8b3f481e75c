use Rattle.std.proofs.Common.{◌≡◌, ◌+◌, ◌*◌, ◌<◌, ◌∙◌, List, length, sym, subst, ap, arith, suc, slice_set, slice_index_or}
use Rattle.std.proofs.lemmas.List.{length-set}
use Rattle.ordering.specs.Keeping.{IsRow}
use Rattle.ordering.specs.Log.{Row, entered_row}
use Rattle.ordering.proofs.Keeping.{changed_set, changed_reads}
use Rattle.ordering.proofs.places.enter_slots.Goals as goal

pub loop-at-preserved : goal.loop-at-preserved
loop-at-preserved c =
    let rows : List Row = c.args.slots.now.items in
    let x : Row = c.index_mut-slot.result.now in
    let f = λ (row : Row). entered_row c.args.faults (3 * c.args.faults + 1) c.args.me.0 row in
    let l : c.loop-at.at < length rows = omega arith in
    let is : x ≡ slice_index_or rows c.loop-at.at x =
    c.index_mut-slot.ensures.value ∙ ap (λ (ys : List Row). slice_index_or ys c.loop-at.at x) c.loop-at.invariant.entered ∙ changed_reads f rows c.loop-at.at x l in
    let valid : IsRow (3 * c.args.faults + 1) x = subst (IsRow (3 * c.args.faults + 1)) (sym is) (c.requires.rows c.loop-at.at x l) in
    let new : c.enter_view.new.self ≡ f (slice_index_or rows c.loop-at.at x) = c.enter_view.ensures (3 * c.args.faults + 1) valid ∙ ap f is in
    let one : c.loop-at.at + 1 ≡ suc c.loop-at.at = omega arith in
    record {
      entered =
          ap (λ (row : Row). slice_set c.loop-at.slots.items c.loop-at.at row) new
          ∙ ap (λ (ys : List Row). slice_set ys c.loop-at.at (f (slice_index_or rows c.loop-at.at x))) c.loop-at.invariant.entered
          ∙ rw one (changed_set f rows c.loop-at.at x l);
      long = length-set c.loop-at.slots.items c.loop-at.at c.enter_view.new.self ∙ c.loop-at.invariant.long;
    }
