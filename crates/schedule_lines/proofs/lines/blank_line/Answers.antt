use Rattle.std.proofs.Common.{◌==◌, [], ◌∷◌, ap, sym, ◌∙◌, refl, Ok, arith}
use Rattle.std.specs.List.{list_all}
use Rattle.one_space.proofs.BlankLemmas.{blanks_of, not_blanks}
use Rattle.schedule_lines.proofs.Behind.{no_blanks, from_behind, behind_more, one_blank}
use Rattle.schedule_lines.proofs.Pieces.{at_feed, at_end_behind, on_blank}
use Rattle.schedule_lines.proofs.lines.blank_line.Goals as goal

pub returns-in-LineFeed : goal.returns-in-LineFeed
returns-in-LineFeed g c =
    from_behind c.judge.result (g.B.Read.remaining c.args.reader.now) (g.B.Read.remaining c.loop.reader) (g.B.Read.remaining c.read_piece.new.reader) c.loop.invariant.behind
    (at_feed (g.B.Read.remaining c.loop.reader) (g.B.Read.remaining c.read_piece.new.reader) 8192 (32 ∷ []) c.read_piece.new.piece.items c.judge.result
    (rw (c.in-LineFeed.is, c.loop.invariant.one) at c.in_ok-read_piece.ensures.known)
    (rw (c.as_slice.ensures.value, c.drop_return.ensures) at c.judge.ensures))

pub returns-in-InputEnd : goal.returns-in-InputEnd
returns-in-InputEnd g c =
    from_behind c.judge-in-InputEnd.result (g.B.Read.remaining c.args.reader.now) (g.B.Read.remaining c.loop.reader) (g.B.Read.remaining c.read_piece.new.reader) c.loop.invariant.behind
    (at_end_behind (g.B.Read.remaining c.loop.reader) (g.B.Read.remaining c.read_piece.new.reader) 8192 (32 ∷ []) c.read_piece.new.piece.items c.judge-in-InputEnd.result (omega arith)
    (rw (c.in-InputEnd.is, c.loop.invariant.one) at c.in_ok-read_piece.ensures.known)
    (rw c.as_slice-in-InputEnd.ensures.value at c.judge-in-InputEnd.ensures))

pub returns-then-not-is_blank : goal.returns-then-not-is_blank
returns-then-not-is_blank g c =
    from_behind c.step_line.result (g.B.Read.remaining c.args.reader.now) (g.B.Read.remaining c.loop.reader) (g.B.Read.remaining c.step_line.new.reader) c.loop.invariant.behind
    (on_blank (g.B.Read.remaining c.loop.reader) (g.B.Read.remaining c.read_piece.new.reader) (g.B.Read.remaining c.step_line.new.reader) 8192 c.read_piece.new.piece.items c.step_line.result
    (rw (c.in-Full.is, c.loop.invariant.one) at c.in_ok-read_piece.ensures.known) c.step_line.ensures)

pub loop-init : goal.loop-init
loop-init g c = record { one = c.requires; behind = no_blanks (g.B.Read.remaining c.args.reader.now) }

pub step_line-requires : goal.step_line-requires
step_line-requires g c =
    not_blanks c.read_piece.new.piece.items (ap (list_all (λ b. b == 32)) (sym c.as_slice-in-Full.ensures.value) ∙ sym c.is_blank.ensures ∙ c.if-not-is_blank.true)

pub loop-preserved : goal.loop-preserved
loop-preserved g c =
    let piece = c.read_piece.new.piece in
    let blank = blanks_of piece.items (ap (list_all (λ b. b == 32)) (sym c.as_slice-in-Full.ensures.value) ∙ sym c.is_blank.ensures ∙ c.if-not-is_blank.false) in
    record {
      one = c.truncate.ensures.items ∙ one_blank piece.items blank (omega (arith, c.in_ok-read_piece.ensures.full (ap Ok c.in-Full.is), piece.ok.0));
      behind = behind_more (g.B.Read.remaining c.args.reader.now) (g.B.Read.remaining c.loop.reader) (g.B.Read.remaining c.read_piece.new.reader) 8192 (32 ∷ []) piece.items refl c.loop.invariant.behind
          (rw (c.in-Full.is, c.loop.invariant.one) at c.in_ok-read_piece.ensures.known) blank;
    }
