use Rattle.std.proofs.Common.{◌≡◌, [], ◌∷◌, IfSome}
use Rattle.schedule_lines.proofs.Behind.{Behind}
use Rattle.schedule_lines.proofs.lines.blank_line.Given as goal

-- one blank is kept, and all that was let go is blank
abbrev pub invariant-loop : goal.invariant-loop
invariant-loop g l = record {
  one : l.line.items ≡ 32 ∷ [];
  behind : IfSome (g.B.Read.remaining l.initial.reader) (λ xs. Behind xs (g.B.Read.remaining l.reader));
}
