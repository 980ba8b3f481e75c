use Rattle.std.proofs.Common.{◌≡◌, ◌≤◌, length, ap, subst, ◌∙◌, Ok, arith}
use Rattle.schedule_text.specs.Words.{trimmed}
use Rattle.schedule_text.specs.declared.fault.Reason.TheVariants.{TooLong}
use Rattle.schedule_lines.proofs.Trimmed.{trimmed_short}
use Rattle.schedule_lines.proofs.Pieces.{at_feed, at_end_behind, too_long_on, some_of, not_cut}
use Rattle.schedule_lines.proofs.lines.step_line.Goals as goal

pub overflow_sub-blanks : goal.overflow_sub-blanks
overflow_sub-blanks g c =
    let l = c.args.line.now in
    omega (arith, ap length (c.without_blanks.ensures ∙ ap trimmed c.as_slice.ensures.value), trimmed_short l.items, c.len.ensures, l.ok.0)

pub returns-in-LineFeed : goal.returns-in-LineFeed
returns-in-LineFeed g c plain =
    at_feed (g.B.Read.remaining c.args.reader.now) (g.B.Read.remaining c.read_piece.new.reader) _ c.args.line.now.items c.read_piece.new.piece.items c.judge.result
    (rw (c.in-LineFeed.is, c.in_ok-reserve_exact.ensures.items) at c.in_ok-read_piece.ensures.known)
    (rw (c.as_slice-in-LineFeed.ensures.value, c.drop_return.ensures) at c.judge.ensures)

pub returns-in-InputEnd : goal.returns-in-InputEnd
returns-in-InputEnd g c plain =
    at_end_behind (g.B.Read.remaining c.args.reader.now) (g.B.Read.remaining c.read_piece.new.reader) _ c.args.line.now.items c.read_piece.new.piece.items c.judge-in-InputEnd.result
    (omega (arith, some_of c.args.line.now.items c.requires))
    (rw (c.in-InputEnd.is, c.in_ok-reserve_exact.ensures.items) at c.in_ok-read_piece.ensures.known)
    (rw c.as_slice-in-InputEnd.ensures.value at c.judge-in-InputEnd.ensures)

pub returns-in-Full : goal.returns-in-Full
returns-in-Full g c plain =
    let l = c.args.line.now in
    let after = c.read_piece.new.piece in
    let left : length c.without_blanks.result.now ≡ length (trimmed l.items) = ap length (c.without_blanks.ensures ∙ ap trimmed c.as_slice.ensures.value) in
    let most : c.saturating_add-most.result ≤ after.len = c.in_ok-read_piece.ensures.full (ap Ok c.in-Full.is) in
    let whole = not_cut _ _ after.len (subst (λ n. n ≤ after.len) c.saturating_add-most.ensures most) (omega (arith, after.ok)) in
    too_long_on (g.B.Read.remaining c.args.reader.now) (g.B.Read.remaining c.read_piece.new.reader) _ c.saturating_add.result TooLong l.items after.items
    (rw (c.in-Full.is, c.in_ok-reserve_exact.ensures.items) at c.in_ok-read_piece.ensures.known) c.requires plain
    (omega (arith, whole, left, c.len.ensures, c.len-2.ensures, l.ok.0, after.ok.0))
