use Rattle.std.proofs.Common.{◌∙◌, ◌++◌, ap}
use Rattle.std.proofs.lemmas.Result.{on_ok_weaker}
use Rattle.wire_format.specs.Lists.{each_spelling}
use Rattle.wire_format.proofs.Appending.{four}
use Rattle.wire_format.proofs.bodies.put_meta.Goals as goal

pub returns : goal.returns
returns c = on_ok_weaker c.put_digests.result
    (λ e. four _ _ _ _ _ _ _ _ _ c.in_ok-put_u64.ensures c.in_ok-put_level.ensures c.in_ok-put_u16.ensures (e ∙ ap (λ digests. c.put_u16.new.out.items ++ each_spelling (λ d. d) digests) c.deref.ensures.value))
    c.put_digests.ensures
