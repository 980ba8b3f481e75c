use Rattle.std.proofs.Common.{◌∙◌, ◌++◌, ap}
use Rattle.wire_format.proofs.Appending.{three}
use Rattle.wire_format.proofs.bodies.put_pre_prepare.Goals as goal

pub returns : goal.returns
returns c = three _ _ _ _ _ _ _ c.in_ok-put_u64.ensures c.in_ok-put_u64-2.ensures (c.in_ok-extend_from_slice.ensures.items ∙ ap (λ text. c.put_u64-2.new.out.items ++ text) c.deref.ensures.value)
