use Rattle.std.proofs.lemmas.Result.{on_ok_weaker}
use Rattle.wire_format.proofs.Appending.{five}
use Rattle.wire_format.proofs.bodies.put_reply.Goals as goal

pub returns : goal.returns
returns c = on_ok_weaker c.encode_result.result
    (λ e. five _ _ _ _ _ _ _ _ _ _ _ c.in_ok-put_u16.ensures c.in_ok-put_u64.ensures c.in_ok-put_mode.ensures c.in_ok-put_u64-2.ensures e)
    c.encode_result.ensures.ok
