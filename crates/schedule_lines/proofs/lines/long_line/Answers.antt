use Rattle.std.proofs.Common.{◌<◌, ◌≤◌, ◌==◌, length, ap, sym, ◌∙◌, arith}
use Rattle.std.proofs.lemmas.List.{get_or_default}
use Rattle.std.specs.List.{list_all}
use Rattle.one_space.proofs.BlankLemmas.{blanks_of, not_blanks}
use Rattle.schedule_lines.proofs.Behind.{from_last, one_blank}
use Rattle.schedule_lines.proofs.Pieces.{skips_comment, hash_first}
use Rattle.schedule_lines.proofs.lines.long_line.Goals as goal

pub returns-then-not-is_blank : goal.returns-then-not-is_blank
returns-then-not-is_blank g c =
    let line = c.args.line.now in
    let some : 0 < length line.items = omega (arith, c.requires, line.ok.0) in
    c.step_line.ensures (λ h. c.if-index-eq35.false (c.index.ensures ∙ sym (get_or_default line.items 0 0 c.index.result.now some) ∙ hash_first line.items h))

pub returns-in-Ok : goal.returns-in-Ok
returns-in-Ok g c =
    let line = c.args.line.now in
    let long : 2 ≤ length line.items = omega (arith, c.requires, line.ok.0) in
    let some : 0 < length line.items = omega arith in
    skips_comment (g.B.Read.remaining c.args.reader.now) (g.B.Read.remaining c.skip_until.new.self) line.items (rw c.in-Ok.is at c.skip_until.ensures.rest) long
    (get_or_default line.items 0 0 c.index.result.now some ∙ sym c.index.ensures ∙ c.if-index-eq35.true)

pub step_line-requires : goal.step_line-requires
step_line-requires g c =
    not_blanks c.args.line.now.items (ap (list_all (λ b. b == 32)) (sym c.as_slice.ensures.value) ∙ sym c.is_blank.ensures ∙ c.if-not-is_blank.true)

pub returns : goal.returns
returns g c =
    let line = c.args.line.now in
    from_last c.blank_line.result (g.B.Read.remaining c.args.reader.now) (g.B.Read.remaining c.blank_line.new.reader) line.items
    (blanks_of line.items (ap (list_all (λ b. b == 32)) (sym c.as_slice.ensures.value) ∙ sym c.is_blank.ensures ∙ c.if-not-is_blank.false))
    (omega (arith, c.requires, line.ok.0)) c.blank_line.ensures

pub blank_line-requires : goal.blank_line-requires
blank_line-requires g c =
    let line = c.args.line.now in
    c.truncate.ensures.items
    ∙ one_blank line.items (blanks_of line.items (ap (list_all (λ b. b == 32)) (sym c.as_slice.ensures.value) ∙ sym c.is_blank.ensures ∙ c.if-not-is_blank.false)) (omega (arith, c.requires, line.ok.0))
