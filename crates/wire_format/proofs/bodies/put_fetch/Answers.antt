use Rattle.std.proofs.lemmas.Result.{on_ok_weaker}
use Rattle.wire_format.proofs.Appending.{three}
use Rattle.wire_format.proofs.bodies.put_fetch.Goals as goal

pub returns : goal.returns
returns c = on_ok_weaker c.put_u16.result (λ e. three _ _ _ _ _ _ _ c.in_ok-put_u64.ensures c.in_ok-put_level.ensures e) c.put_u16.ensures
