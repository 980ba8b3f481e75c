use Rattle.std.proofs.Common.{arith}
use Rattle.hash_lanes.proofs.Stepping.{rounds_at}
use Rattle.hash_lanes.proofs.words.first_four_steps.Goals as goal

pub returns : goal.returns
returns c = λ b h window before.
    let one = c.first_step-v.ensures b h window before in
    let two = c.first_step-v-2.ensures b h window one in
    let three = c.first_step-v-3.ensures b h window (rounds_at h b _ _ _ (omega arith) two) in
    rounds_at h b _ _ _ (omega arith) (c.first_step.ensures b h window (rounds_at h b _ _ _ (omega arith) three))
