use Rattle.std.proofs.Common.{List, [], ◌∷◌, ℕ, ◌≡◌, false, take, drop, arith, sym, ap, subst, ◌∙◌}
use Rattle.std.proofs.lemmas.Bool.{false≢true}
use Rattle.std.specs.Str.{bytes_eq}
use Rattle.one_space.proofs.BlankLemmas.{all_blanks, blanks_of}
use Rattle.one_space.proofs.HelpLemmas.{asks, ends_blank, is_no_help, word_there}
use Rattle.one_space.proofs.help.is_help.Goals as goal

pub returns-in-Some : goal.returns-in-Some
returns-in-Some c =
    let line = c.args.line.now in
    let before = c.blanks_before.ensures in
    let back = c.split_at.ensures.back in
    let word = c.split_at.result.1.now in
    let cases = (c.in-Some.ensures {u = tt}).cases in
    let rest = c.in-Some.rest.now in (
      λ t. asks line c.blanks_before.result before.within before.before before.found rest
          (sym back ∙ word_there word cases.0 ∙ ap (λ r. 104 ∷ 101 ∷ 108 ∷ 112 ∷ r) (sym cases.1)) (blanks_of rest (sym c.is_blank.ensures ∙ t)) (omega arith),
      λ h. c.is_blank.ensures ∙ all_blanks rest (ends_blank line c.blanks_before.result before.within before.before before.found rest (cases.1 ∙ ap (drop 4) back) h),
    )

pub returns-in-None : goal.returns-in-None
returns-in-None c =
    let line = c.args.line.now in
    let before = c.blanks_before.ensures in
    let cases = (c.in-None.ensures {u = tt}).cases in (
      λ e. absurd (false≢true e),
      λ h. absurd (is_no_help line c.blanks_before.result before.within before.before before.found
          (subst (λ w. bytes_eq (take 4 w) (104 ∷ 101 ∷ 108 ∷ 112 ∷ []) ≡ false) c.split_at.ensures.back cases) h),
    )
