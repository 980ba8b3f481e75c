use Rattle.std.proofs.Common.{◌≡◌, ◌+◌, ◌-◌, suc, refl, sym, ap, ◌∙◌, arith}
use Rattle.std.specs.List.{range_with_len}
use Rattle.space.specs.Marking.{with_pages}
use Rattle.space.proofs.Changing.{with_pages_next}
use Rattle.space.proofs.tuples.add_all_pages.Goals as goal

pub loop-page-init : goal.loop-page-init
loop-page-init c = refl

pub loop-page-preserved : goal.loop-page-preserved
loop-page-preserved c =
    let page = c.loop-page.page in
    let left : 256 - page ≡ suc (256 - (page + 1)) = omega arith in
    ap (λ pages. with_pages pages (range_with_len (page + 1) (256 - (page + 1)))) c.add_page.ensures
    ∙ sym (with_pages_next c.loop-page.pages page (256 - (page + 1)) (omega arith))
    ∙ sym (ap (λ n. with_pages c.loop-page.pages (range_with_len page n)) left) ∙ c.loop-page.invariant

pub returns : goal.returns
returns c =
    let none : 256 - c.loop-page.page ≡ 0 = omega arith in
    sym (ap (λ n. with_pages c.loop-page.pages (range_with_len c.loop-page.page n)) none) ∙ c.loop-page.invariant
