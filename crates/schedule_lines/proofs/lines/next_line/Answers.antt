use Rattle.std.proofs.Common.{[], length, sym, ◌∙◌}
use Rattle.one_space.proofs.NextLemmas.{positive_of}
use Rattle.schedule_lines.proofs.Pieces.{at_feed, at_end, on_piece, from_first}
use Rattle.schedule_lines.proofs.lines.next_line.Goals as goal

pub returns-in-LineFeed : goal.returns-in-LineFeed
returns-in-LineFeed g c =
    from_first (g.B.Read.remaining c.args.reader.now) (g.B.Read.remaining c.read_piece.new.reader) c.judge.result
    (at_feed (g.B.Read.remaining c.args.reader.now) (g.B.Read.remaining c.read_piece.new.reader) 8192 [] c.read_piece.new.piece.items c.judge.result
    (rw (c.in-LineFeed.is, c.clear.ensures.items) at c.in_ok-read_piece.ensures.known)
    (rw (c.as_slice.ensures.value, c.drop_return.ensures) at c.judge.ensures))

pub returns-else-is_empty : goal.returns-else-is_empty
returns-else-is_empty g c =
    let piece = c.read_piece.new.piece in
    from_first (g.B.Read.remaining c.args.reader.now) (g.B.Read.remaining c.read_piece.new.reader) c.judge-else-is_empty.result
    (at_end (g.B.Read.remaining c.args.reader.now) (g.B.Read.remaining c.read_piece.new.reader) 8192 [] piece.items c.judge-else-is_empty.result
    (positive_of (length piece.items) _ (sym c.if-is_empty.false ∙ c.is_empty.ensures) piece.ok.0)
    (rw (c.in-InputEnd.is, c.clear.ensures.items) at c.in_ok-read_piece.ensures.known)
    (rw c.as_slice-else-is_empty.ensures.value at c.judge-else-is_empty.ensures))

pub returns-in-Full : goal.returns-in-Full
returns-in-Full g c =
    from_first (g.B.Read.remaining c.args.reader.now) (g.B.Read.remaining c.long_line.new.reader) c.long_line.result
    (on_piece (g.B.Read.remaining c.args.reader.now) (g.B.Read.remaining c.read_piece.new.reader) (g.B.Read.remaining c.long_line.new.reader) 8192 [] c.read_piece.new.piece.items c.long_line.result
    (rw (c.in-Full.is, c.clear.ensures.items) at c.in_ok-read_piece.ensures.known) c.long_line.ensures)
