use Rattle.records.specs.ReaderView.{left_of}
use Rattle.client_process.specs.Serving.{idle}
use Rattle.client_process.specs.Endings.{scene_of}
use Rattle.client_process.specs.Texts.{Opening, IsAt, IsClear}
use Rattle.client_process.proofs.process.Process.run.Given as goal

-- No call is open, and nothing is left to write.
abbrev pub invariant-loop-number : goal.invariant-loop-number
invariant-loop-number g l = record {
  clear : IsClear l.self;
  along : (o : Opening) → IsAt g.C.Caller.me g.C.Caller.fits o (idle l.fn.self.timer.number) 1
      (g.B.Read.remaining l.fn.lines) (left_of g.R.Read.remaining l.fn.records) (scene_of g.F.Write.contents g.W.Write.contents l.fn.frames l.fn.results) l.fn.self
      → IsAt g.C.Caller.me g.C.Caller.fits o (idle l.self.timer.number) l.number
      (g.B.Read.remaining l.lines) (left_of g.R.Read.remaining l.records) (scene_of g.F.Write.contents g.W.Write.contents l.frames l.results) l.self;
}
