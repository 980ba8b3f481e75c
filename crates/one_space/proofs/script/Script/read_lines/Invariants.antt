use Rattle.std.proofs.Common.{IfSome, []}
use Rattle.std.specs.Io.Buffered.{reader_remaining}
use Rattle.one_space.specs.Complaints.{Says}
use Rattle.one_space.specs.Scripts.{KeptSoFar}
use Rattle.one_space.proofs.script.Script.read_lines.Given as goal

-- Any operations that the lines say that are left go on from here, and nothing was told.
abbrev pub invariant-loop-number : goal.invariant-loop-number
invariant-loop-number g l = record {
  kept : IfSome (reader_remaining g.R.Read.remaining l.initial.reader) (λ bytes.
      KeptSoFar l.most bytes (reader_remaining g.R.Read.remaining l.reader) l.number l.self.ops);
  said : Says (g.C.Console.said l.initial.console) (g.C.Console.said l.console) [];
}
