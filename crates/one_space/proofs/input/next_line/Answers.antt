use Rattle.std.proofs.Common.{length, sym, ◌∙◌}
use Rattle.one_space.proofs.NextLemmas.{judged_at, judged_last, positive_of}
use Rattle.one_space.proofs.input.next_line.Goals as goal

pub returns-in-LineFeed : goal.returns-in-LineFeed
returns-in-LineFeed g c =
    judged_at _ _ 65538 c.read_piece.new.piece.items _ _ c.drop_return.ensures (rw (c.in-LineFeed.is, c.clear.ensures.items) at c.in_ok-read_piece.ensures.known)
    (rw (c.as_slice.ensures.value, c.drop_return.ensures) at c.judge.ensures)

pub returns-else-is_empty : goal.returns-else-is_empty
returns-else-is_empty g c =
    let piece = c.read_piece.new.piece in
    judged_last _ _ 65538 piece.items _ (positive_of (length piece.items) _ (sym c.if-is_empty.false ∙ c.is_empty.ensures) piece.ok.0) (rw (c.in-InputEnd.is, c.clear.ensures.items) at c.in_ok-read_piece.ensures.known)
    (rw c.as_slice-else-is_empty.ensures.value at c.judge-else-is_empty.ensures)
