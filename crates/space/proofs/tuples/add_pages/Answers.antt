use Rattle.std.proofs.Common.{◌+◌, drop, refl, sym, ap, ◌∙◌}
use Rattle.std.proofs.lemmas.List.{at_drop_more, at_drop_all}
use Rattle.space.specs.Marking.{with_pages}
use Rattle.space.proofs.tuples.add_pages.Goals as goal

pub loop-birth-init : goal.loop-birth-init
loop-birth-init c = refl

pub loop-birth-preserved : goal.loop-birth-preserved
loop-birth-preserved c =
    let births = c.args.births.now in
    let i = c.loop-birth.birth-index in
    ap (λ pages. with_pages pages (drop (i + 1) births)) c.add_page.ensures
    ∙ sym (at_drop_more (with_pages c.loop-birth.pages) births i 0 c.loop-birth-test.true) ∙ c.loop-birth.invariant

pub returns : goal.returns
returns c = sym (at_drop_all (with_pages c.loop-birth.pages) c.args.births.now c.loop-birth.birth-index c.loop-birth-test.false) ∙ c.loop-birth.invariant
