use Rattle.std.proofs.Common.{ℕ, List, Option}
use Rattle.records.specs.ReaderView.{left_of}
use Rattle.client_process.specs.Serving.{waits}
use Rattle.client_process.specs.Endings.{scene}
use Rattle.client_process.specs.Texts.{Opening, IsAt, IsClear}
use Rattle.client_process.proofs.process.Process.wait.Given as goal

-- The call is still open, and nothing is left to write.
abbrev pub invariant-loop : goal.invariant-loop
invariant-loop g l = record {
  clear : IsClear l.self;
  along : (o : Opening) (n : ℕ) (unread told : Option (List ℕ))
      → IsAt g.C.Caller.me g.C.Caller.fits o (waits l.fn.self.timer) n unread (left_of g.R.Read.remaining l.fn.records) (scene (g.F.Write.contents l.fn.frames) told) l.fn.self
      → IsAt g.C.Caller.me g.C.Caller.fits o (waits l.self.timer) n unread (left_of g.R.Read.remaining l.records) (scene (g.F.Write.contents l.frames) told) l.self;
}
