use Rattle.std.proofs.Common.{◌≡◌, ◌-◌, length, take, ap, sym, subst, ◌∙◌}
use Rattle.tuple_text.specs.Texts.{AreBlanks}
use Rattle.one_space.proofs.BlankLemmas.{blanks_of, not_blanks}
use Rattle.one_space.proofs.input.drop_blanks.Goals as goal

pub returns-then-not-is_blank : goal.returns-then-not-is_blank
returns-then-not-is_blank c =
    let l = c.args.line.now in
    let front : c.split_at.result.0.now ≡ take (length l.items - 1) l.items = c.split_at.ensures.front ∙ ap (take (c.len.result - 1)) c.as_slice.ensures.value ∙ ap (λ n. take (n - 1) l.items) (c.len.ensures ∙ l.ok.0) in
    λ h. not_blanks c.split_at.result.0.now (sym c.is_blank.ensures ∙ c.if-not-is_blank.true) (subst AreBlanks (sym front) h)

pub returns : goal.returns
returns c =
    let l = c.args.line.now in
    let front : c.split_at.result.0.now ≡ take (length l.items - 1) l.items = c.split_at.ensures.front ∙ ap (take (c.len.result - 1)) c.as_slice.ensures.value ∙ ap (λ n. take (n - 1) l.items) (c.len.ensures ∙ l.ok.0) in
    (subst AreBlanks front (blanks_of c.split_at.result.0.now (sym c.is_blank.ensures ∙ c.if-not-is_blank.false)), c.keep_last.ensures)
