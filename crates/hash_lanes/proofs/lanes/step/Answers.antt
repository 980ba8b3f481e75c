use Rattle.std.proofs.Common.{◌+◌, ◌*◌, refl, sym, ◌∙◌, arith}
use Rattle.hash_lanes.specs.Lanes.{lane}
use Rattle.hash_lanes.proofs.Stepping.{one_round, rounds_at}
use Rattle.hash_lanes.proofs.Vectors.{lane_at}
use Rattle.hash_lanes.proofs.lanes.step.Goals as goal

pub returns-clause-lanes : goal.returns-clause-lanes
returns-clause-lanes c = λ l lt b h holds before.
    rounds_at h b _ _ _ (omega arith)
    (one_round h b (lane l c.args.v) (8 * c.args.turn + c.args.k) _ _ _ before refl (sym (lane_at c.args.group.now c.args.k l) ∙ holds c.args.k c.requires.k)
    (c.round.ensures.lanes l lt))
