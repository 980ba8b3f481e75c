use Rattle.std.proofs.Common.{◌≡◌, ◌-◌, ◌≤◌, length}
use Rattle.schedule_world.specs.Pooled.{AreServed}
use Rattle.schedule_world.specs.PoolView.{frames_in_pool}
use Rattle.schedule_world.proofs.pool.Pool.next.Given as goal

abbrev pub invariant-loop-self : goal.invariant-loop-self
invariant-loop-self l = (l.self-inside.first ≤ length l.self-inside.frames.items) × AreServed (frames_in_pool l.self-inside) l.self-inside.first × (l.self-inside.frames ≡ l.initial.self-inside.frames)

abbrev pub decreases-loop-self : goal.decreases-loop-self
decreases-loop-self l = length l.self-inside.frames.items - l.self-inside.first
