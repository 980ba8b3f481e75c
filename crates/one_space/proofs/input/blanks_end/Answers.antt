use Rattle.std.proofs.Common.{rules, ◌++◌, ap, sym, subst, ◌∙◌}
use Rattle.std.specs.List.{list_all}
use Rattle.one_space.specs.NextLines.{IsRefused}
use Rattle.one_space.specs.declared.input.NoLine.TheVariants as no
use Rattle.one_space.proofs.BlankLemmas.{blanks_of, not_blanks, skipped_end, refused_end}
use Rattle.one_space.proofs.input.blanks_end.Goals as goal

pub returns-then-blank-clause-judged : goal.returns-then-blank-clause-judged
returns-then-blank-clause-judged g c = λ p blank many. skipped_end p c.args.line.now.items blank (blanks_of c.args.line.now.items (search rules))

pub returns-else-blank-clause-judged : goal.returns-else-blank-clause-judged
returns-else-blank-clause-judged g c = λ p blank many.
    let l = c.args.line.now.items in
    subst (λ fault. IsRefused (no.Refused fault) (p ++ l)) (sym c.too_many_blanks.ensures) (refused_end p l blank many (not_blanks l (search rules)))
