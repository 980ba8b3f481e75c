use Rattle.std.proofs.Common.{sym, subst, ◌∙◌}
use Rattle.one_space.specs.NextLines.{NextLineFails}
use Rattle.one_space.specs.declared.input.NoLine.TheVariants as no
use Rattle.one_space.proofs.BlankLemmas.{drops_more, part_refused_known, end_at_known, end_last_known, EndJudged}
use Rattle.one_space.proofs.BlankLemmas.{OfBlanks}
use Rattle.one_space.proofs.input.blanks_line.Goals as goal

pub returns-in-LineFeed : goal.returns-in-LineFeed
returns-in-LineFeed g c =
    rw c.blanks_end.ensures.none
    (end_at_known (g.B.Read.remaining c.args.reader.now) (g.B.Read.remaining c.loop.reader) (g.B.Read.remaining c.read_piece.new.reader) c.args.line.now.items c.loop.line.items c.read_piece.new.piece.items 65538
    c.blanks_end.result c.loop.invariant (rw c.in-LineFeed.is at c.in_ok-read_piece.ensures.known)
    (subst (EndJudged c.blanks_end.result) c.drop_return.ensures c.blanks_end.ensures.judged))

pub returns-in-InputEnd : goal.returns-in-InputEnd
returns-in-InputEnd g c =
    rw c.blanks_end-in-InputEnd.ensures.none
    (end_last_known (g.B.Read.remaining c.args.reader.now) (g.B.Read.remaining c.loop.reader) (g.B.Read.remaining c.read_piece.new.reader) c.args.line.now.items c.loop.line.items c.read_piece.new.piece.items 65538
    c.blanks_end-in-InputEnd.result c.loop.invariant (rw c.in-InputEnd.is at c.in_ok-read_piece.ensures.known)
    c.blanks_end-in-InputEnd.ensures.judged)

pub returns-then-not-drop_blanks : goal.returns-then-not-drop_blanks
returns-then-not-drop_blanks g c =
    subst (λ fault. OfBlanks (g.B.Read.remaining c.args.reader.now) c.args.line.now.items (λ l. NextLineFails (no.RefusedEarly fault) l (g.B.Read.remaining c.read_piece.new.reader) c.drop_blanks.new.line.items)) (sym c.too_many_blanks.ensures)
    (part_refused_known (g.B.Read.remaining c.args.reader.now) (g.B.Read.remaining c.loop.reader) (g.B.Read.remaining c.read_piece.new.reader) c.args.line.now.items c.loop.line.items c.read_piece.new.piece.items c.drop_blanks.new.line.items 65538
    c.loop.invariant (rw c.in-Full.is at c.in_ok-read_piece.ensures.known) c.if-not-drop_blanks.ensures)

pub loop-preserved : goal.loop-preserved
loop-preserved g c =
    drops_more (g.B.Read.remaining c.args.reader.now) (g.B.Read.remaining c.loop.reader) (g.B.Read.remaining c.read_piece.new.reader) c.args.line.now.items c.loop.line.items c.read_piece.new.piece.items c.drop_blanks.new.line.items 65538
    c.loop.invariant (rw c.in-Full.is at c.in_ok-read_piece.ensures.known) c.if-not-drop_blanks.ensures.0 c.if-not-drop_blanks.ensures.1
