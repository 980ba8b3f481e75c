use Rattle.std.proofs.Common.{◌==◌, arith, ap, ◌∙◌, inl, inr}
use Rattle.one_space.proofs.NextLemmas.{has_first, has_last, has_full}
use Rattle.one_space.proofs.input.has_line.Goals as goal

pub returns-in-LineFeed : goal.returns-in-LineFeed
returns-in-LineFeed g c =
    let known = rw c.clear.ensures.items at c.in_ok-read_piece.ensures.known in
    elim c.in-LineFeed.is [ inl e ↦ has_first _ _ 1 _ (rw e at known) | inr e ↦ has_full _ _ 1 _ (omega arith) (rw e at known) ]

pub returns-in-InputEnd : goal.returns-in-InputEnd
returns-in-InputEnd g c =
    let piece = c.read_piece.new.piece in
    has_last _ _ 1 piece.items c.is_empty.result (c.is_empty.ensures ∙ ap (λ n. n == 0) piece.ok.0) (rw (c.in-InputEnd.is, c.clear.ensures.items) at c.in_ok-read_piece.ensures.known)
