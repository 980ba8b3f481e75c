use Rattle.std.proofs.Common.{◌∙◌, ap, Ok, Some}
use Rattle.one_space.proofs.PieceLemmas.{takes_nothing_known, takes_more_known}
use Rattle.one_space.proofs.pieces.read_piece.Goals as goal

pub returns-in-Some : goal.returns-in-Some
returns-in-Some g c = record {
  full = λ e. c.read_some.ensures.full (c.in_ok-end.was ∙ ap Ok (c.in-Some.is ∙ ap Some (cc)));
  known = takes_more_known _ _ _ _ _ _ _ _ c.loop.invariant (rw c.in-Some.is at c.in_ok-end.ensures.known);
}

pub loop-preserved : goal.loop-preserved
loop-preserved g c = takes_more_known _ _ _ _ _ _ _ _ c.loop.invariant (rw c.in_default.is at c.in_ok-end.ensures.known)

pub loop-init : goal.loop-init
loop-init g c = takes_nothing_known _ _ _
