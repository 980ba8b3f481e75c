use Rattle.client_process.specs.Texts.{FrontIsWritten}
use Rattle.client_process.proofs.process.write_all.Given as goal

-- the bytes before those that are left were appended
abbrev pub invariant-loop : goal.invariant-loop
invariant-loop g l = FrontIsWritten (g.W.Write.contents l.fn.writer) (g.W.Write.contents l.writer) l.fn.bytes l.left
