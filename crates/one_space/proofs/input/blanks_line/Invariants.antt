use Rattle.std.proofs.Common.{IfSome}
use Rattle.one_space.proofs.BlankLemmas.{Drops}
use Rattle.one_space.proofs.input.blanks_line.Given as goal

-- only blanks were dropped
abbrev pub invariant-loop : goal.invariant-loop
invariant-loop g l = IfSome (g.B.Read.remaining l.initial.reader) (λ xs. Drops xs (g.B.Read.remaining l.reader) l.initial.line.items l.line.items)
