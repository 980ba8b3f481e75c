use Rattle.std.proofs.Common.{arith}
use Rattle.hash_lanes.proofs.Stepping.{rounds_at}
use Rattle.hash_lanes.proofs.lanes.eight_steps.Goals as goal

pub returns-clause-lanes : goal.returns-clause-lanes
returns-clause-lanes c = λ l lt b h holds before.
    let one = c.step-v.ensures.lanes l lt b h holds (rounds_at h b _ _ _ (omega arith) before) in
    let two = c.step-v-2.ensures.lanes l lt b h holds (rounds_at h b _ _ _ (omega arith) one) in
    let three = c.step-v-3.ensures.lanes l lt b h holds (rounds_at h b _ _ _ (omega arith) two) in
    let four = c.step-v-4.ensures.lanes l lt b h holds (rounds_at h b _ _ _ (omega arith) three) in
    let five = c.step-v-5.ensures.lanes l lt b h holds (rounds_at h b _ _ _ (omega arith) four) in
    let six = c.step-v-6.ensures.lanes l lt b h holds (rounds_at h b _ _ _ (omega arith) five) in
    let seven = c.step-v-7.ensures.lanes l lt b h holds (rounds_at h b _ _ _ (omega arith) six) in
    rounds_at h b _ _ _ (omega arith) (c.step.ensures.lanes l lt b h holds (rounds_at h b _ _ _ (omega arith) seven))
