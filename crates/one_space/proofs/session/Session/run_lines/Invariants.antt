use Rattle.std.proofs.Common.{◌*◌, ◌≤◌, IfSome}
use Rattle.std.specs.Io.Buffered.{reader_remaining}
use Rattle.space.specs.Births.{tuples_of}
use Rattle.one_space.specs.Endings.{scene_of}
use Rattle.one_space.specs.Moments.{IsAt, left_of}
use Rattle.one_space.proofs.session.Session.run_lines.Given as goal

-- The next birth number has room, and a run over the lines that are left goes on from here.
abbrev pub invariant-loop-number : goal.invariant-loop-number
invariant-loop-number g l = record {
  births : l.self.space.next ≤ 257 * l.number;
  along : IfSome (reader_remaining g.R.Read.remaining l.initial.reader) (λ bytes.
      IsAt l.manner (tuples_of l.initial.self.space) bytes
      (scene_of g.W.Write.contents g.C.Console.said l.initial.writer l.initial.console) l.number
      (reader_remaining g.R.Read.remaining l.reader) (scene_of g.W.Write.contents g.C.Console.said l.writer l.console) (left_of l.self));
}
