use Rattle.std.proofs.Common.{ℕ, List, Option}
use Rattle.protocol.specs.System.Configuration.{Configuration}
use Rattle.records.specs.ReaderView.{left_of}
use Rattle.replica_process.specs.Texts.{IsAt}
use Rattle.replica_process.proofs.process.Process.serve_records.Given as goal

-- the process is at a record, if it was at one when it began
abbrev pub invariant-loop : goal.invariant-loop
invariant-loop g l =
    (c : Configuration) (p needed : ℕ) (bytes : List ℕ) (start : Option (List ℕ))
    → IsAt g.M.Machine.me g.M.Machine.fits c p needed bytes start (left_of g.R.Read.remaining l.fn.records)
    (g.W.Write.contents l.fn.writer) l.fn.self
    → IsAt g.M.Machine.me g.M.Machine.fits c p needed bytes start (left_of g.R.Read.remaining l.records)
    (g.W.Write.contents l.writer) l.self
