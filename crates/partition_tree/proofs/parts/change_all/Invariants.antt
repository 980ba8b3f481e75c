use Rattle.std.proofs.Common.{◌≡◌, length}
use Rattle.std.specs.Vec.Iter.{into_iter_items}
use Rattle.partition_tree.specs.Changes.{pages_with, UnmarkedPartsStay}
use Rattle.partition_tree.specs.Parts.{AreFull, pages_held, parts_held}
use Rattle.partition_tree.proofs.parts.change_all.Given as goal

abbrev pub invariant-loop-page : goal.invariant-loop-page
invariant-loop-page l = record {
  can_next : (goal.iterator-loop-page).can_next l.page-iterator;
  is_finite : (goal.iterator-loop-page).is_finite l.page-iterator;
  pages : pages_with (into_iter_items l.page-iterator) (pages_held l.parts.items)
      ≡ pages_with l.fn.pages.items (pages_held l.initial.parts.items);
  full : AreFull (parts_held l.parts.items);
  count : length l.parts.items ≡ 32;
  flags : length l.changed ≡ 32;
  kept : UnmarkedPartsStay l.changed (parts_held l.initial.parts.items) (parts_held l.parts.items);
}
