use Rattle.std.proofs.Common.{None, IfSome}
use Rattle.one_space.specs.Pieces.{TakesPiece}
use Rattle.one_space.proofs.pieces.read_piece.Given as goal

-- the bytes taken have no line feed among them
abbrev pub invariant-loop : goal.invariant-loop
invariant-loop g l = IfSome (g.B.Read.remaining l.initial.reader) (λ xs. TakesPiece None l.limit xs (g.B.Read.remaining l.reader) l.initial.piece.items l.piece.items)
