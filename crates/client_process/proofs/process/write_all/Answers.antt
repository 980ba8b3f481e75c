use Rattle.std.proofs.Common.{ap}
use Rattle.client_process.proofs.Writing.{one_piece, no_piece}
use Rattle.client_process.proofs.process.write_all.Goals as goal
use Rattle.client_process.proofs.process.write_all.Goals.{in-Ok, in-Err+else-ne}

pub loop-preserved : goal.loop-preserved
loop-preserved g c =
    elim c.match-write.branch [
      | in-Ok w ↦ one_piece _ _ _ _ c.loop.left.now _ w.in-Ok.count (ap (λ s. s.now) w.left-is) c.loop.invariant (w.in-Ok.ensures {u = tt}).bytes
      | in-Err+else-ne w ↦ no_piece _ _ _ _ _ _ (ap (λ s. s.now) w.left-is) c.loop.invariant (w.in-Err.ensures {u = tt}).bytes
    ]
