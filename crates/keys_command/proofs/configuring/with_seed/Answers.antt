use Rattle.std.proofs.Common.{subst}
use Rattle.keys_command.specs.Configuring.{RefusesConfig}
use Rattle.keys_command.proofs.Refusals.{refuses}
use Rattle.keys_command.proofs.configuring.with_seed.Goals as goal

pub returns : goal.returns
returns c =
    subst (λ text. RefusesConfig text c.fault_of.result) (c.in_ok-put_seed.ensures {u = tt})
    (refuses c.put_seed.new.text.items c.in-Err.fault c.fault_of.result c.fault_of.ensures (rw (c.as_slice.ensures.value, c.in-Err.is) at c.read_config.ensures))
