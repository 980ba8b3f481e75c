use Rattle.std.proofs.Common.{get_or, ap, sym, ◌∙◌}
use Rattle.std.proofs.lemmas.List.{get_or_default}
use Rattle.template_match.specs.Tests.{is_match}
use Rattle.space.specs.Found.{oldest_in}
use Rattle.space.proofs.Among.{find_next, entries_alone}
use Rattle.space.proofs.matching.oldest_match.Goals as goal

pub loop-birth-preserved : goal.loop-birth-preserved
loop-birth-preserved g c =
    let births = c.args.births.now in
    let i = c.loop-birth.birth-index in
    let b = get_or births i 0 in
    c.loop-birth.invariant
    ∙ find_next c.args.tuples.now.entries births i b c.loop-birth-test.true (get_or_default births i 0 b c.loop-birth-test.true) (λ e. is_match c.args.template.now e.1) c.in_default.ensures

pub returns-then-births-eq1 : goal.returns-then-births-eq1
returns-then-births-eq1 g c =
    c.lone_match.ensures ∙ ap (oldest_in c.args.template.now) (sym (entries_alone c.args.tuples.now.entries c.args.births.now c.if-births-eq1.true))
