use Rattle.std.proofs.Common.{◌≡◌, ◌<◌, ◌≤◌, ◌++◌, IfSome, MatchResult, arith, length, take, subst, sym, ◌∙◌, ap}
use Rattle.std.proofs.lemmas.List.{get_or_default}
use Rattle.tuple_text.specs.Texts.{AreBlanks}
use Rattle.one_space.specs.NextLines.{NextLineFails, IsJudged, IsRefused}
use Rattle.one_space.specs.declared.input.NoLine.TheVariants as no
use Rattle.one_space.proofs.PieceLemmas.{NoLineFeed}
use Rattle.one_space.proofs.NextLemmas.{skipped_comment}
use Rattle.one_space.proofs.BlankLemmas.{blanks_of, not_blanks, judged_long, refused_first, goes_on}
use Rattle.one_space.proofs.input.long_line.Goals as goal

pub returns-then-index-eq35 : goal.returns-then-index-eq35
returns-then-index-eq35 g c =
    let line = c.args.line.now in
    let long : 65538 ≤ length line.items = omega (arith, c.requires, line.ok.0) in
    let some : 0 < length line.items = omega arith in
    skipped_comment _ _ line.items c.in_ok-skip_rest.ensures long (get_or_default line.items 0 0 c.index.result.now some ∙ sym c.index.ensures ∙ c.if-index-eq35.true)

pub returns-then-not-is_blank : goal.returns-then-not-is_blank
returns-then-not-is_blank g c =
    let line = c.args.line.now in
    let long : 65538 ≤ length line.items = omega (arith, c.requires, line.ok.0) in
    let some : 0 < length line.items = omega arith in
    let front : c.split_at.result.0.now ≡ take 65537 line.items = c.split_at.ensures.front ∙ ap (take 65537) c.as_slice.ensures.value in
    judged_long _ line.items _ c.judge.result c.early.result long
    (λ h. not_blanks c.split_at.result.0.now (sym c.is_blank.ensures ∙ c.if-not-is_blank.true) (subst AreBlanks (sym front) h))
    (λ h. c.if-index-eq35.false (c.index.ensures ∙ sym (get_or_default line.items 0 0 c.index.result.now some) ∙ h))
    (subst (λ l. MatchResult c.judge.result (λ given. IsJudged given l) (λ failed. IsRefused failed l)) front c.judge.ensures)
    c.early.ensures

pub returns-then-not-drop_blanks : goal.returns-then-not-drop_blanks
returns-then-not-drop_blanks g c =
    let line = c.args.line.now in
    let long : 65538 ≤ length line.items = omega (arith, c.requires, line.ok.0) in
    let front : c.split_at.result.0.now ≡ take 65537 line.items = c.split_at.ensures.front ∙ ap (take 65537) c.as_slice.ensures.value in
    subst (λ fault. IfSome (g.B.Read.remaining c.args.reader.now) (λ ys. NoLineFeed line.items → NextLineFails (no.RefusedEarly fault) (line.items ++ ys) (g.B.Read.remaining c.args.reader.now) c.drop_blanks.new.line.items)) (sym c.too_many_blanks.ensures)
    (refused_first (g.B.Read.remaining c.args.reader.now) line.items c.drop_blanks.new.line.items long (subst AreBlanks front (blanks_of c.split_at.result.0.now (sym c.is_blank.ensures ∙ c.if-not-is_blank.false))) c.if-not-drop_blanks.ensures)

pub returns : goal.returns
returns g c =
    let line = c.args.line.now in
    let long : 65538 ≤ length line.items = omega (arith, c.requires, line.ok.0) in
    goes_on _ _ line.items c.drop_blanks.new.line.items _ c.blanks_line.result long c.if-not-drop_blanks.ensures.0 c.if-not-drop_blanks.ensures.1 c.blanks_line.ensures
