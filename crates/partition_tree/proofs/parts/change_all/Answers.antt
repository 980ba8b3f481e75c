use Rattle.std.proofs.Common.{◌<◌, ◌/◌, ap, sym, subst, ◌∙◌, arith}
use Rattle.std.proofs.lemmas.List.{length-set}
use Rattle.std.specs.Vec.Iter.{into_iter_items}
use Rattle.partition_tree.specs.Changes.{pages_with, UnmarkedPartsStay}
use Rattle.partition_tree.specs.Parts.{parts_held, pages_held}
use Rattle.partition_tree.proofs.Standing.{pages_written, full_written, kept_elsewhere, parts_kept}
use Rattle.partition_tree.proofs.parts.change_all.Goals as goal

pub loop-page-preserved-then-branch : goal.loop-page-preserved-then-branch
loop-page-preserved-then-branch c =
    let was = c.loop-page.invariant in
    let items = c.in-Some.ensures.steps.0 in
    let owners = c.loop-page.parts.items in
    let i = c.in-Some.page.index in
    let text = c.in-Some.page.text.items in
    let h : i < 1024 = c.in-Some.page.in_range in
    let is = c.in_ok-change.ensures.ok in
    let pages = pages_written owners i _ _ text was.count was.full h c.index_mut.ensures.value is in
    record {
      can_next = tt;
      is_finite = tt;
      pages =
          ap (pages_with (into_iter_items c.next.new.self)) pages
          ∙ ap (λ more. pages_with more (pages_held owners)) (sym items)
          ∙ was.pages;
      full = full_written owners i _ _ text was.count was.full h c.index_mut.ensures.value is;
      count = rw length-set was.count;
      flags = rw length-set was.flags;
      kept = kept_elsewhere c.loop-page.changed _ owners (i / 32) _ was.flags (omega arith) was.kept;
    }

pub loop-page-preserved : goal.loop-page-preserved
loop-page-preserved c =
    let was = c.loop-page.invariant in
    let items = c.in-Some.ensures.steps.0 in
    let owners = c.loop-page.parts.items in
    let i = c.in-Some.page.index in
    let text = c.in-Some.page.text.items in
    let h : i < 1024 = c.in-Some.page.in_range in
    let is = c.in_ok-change.ensures.ok in
    let same = c.in_ok-change.ensures.kept c.if-branch.false in
    let parts = parts_kept owners (i / 32) _ _ (omega arith) c.index_mut.ensures.value same in
    let pages = pages_written owners i _ _ text was.count was.full h c.index_mut.ensures.value is in
    record {
      can_next = tt;
      is_finite = tt;
      pages =
          ap (pages_with (into_iter_items c.next.new.self)) pages
          ∙ ap (λ more. pages_with more (pages_held owners)) (sym items)
          ∙ was.pages;
      full = full_written owners i _ _ text was.count was.full h c.index_mut.ensures.value is;
      count = rw length-set was.count;
      flags = was.flags;
      kept = subst (UnmarkedPartsStay c.loop-page.changed (parts_held c.args.parts.now.items)) (sym parts) was.kept;
    }
