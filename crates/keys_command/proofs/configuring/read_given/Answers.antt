use Rattle.std.proofs.Common.{refl}
use Rattle.keys_command.proofs.Refusals.{refuses}
use Rattle.keys_command.proofs.configuring.read_given.Goals as goal

pub returns-then-lacks_seed : goal.returns-then-lacks_seed
returns-then-lacks_seed c =
    let missing = c.lacks_seed.ensures c.if-lacks_seed.true in
    let none = rw (c.as_slice.ensures.value, c.in-Err.is, missing) at c.read_config.ensures in
    (refl, λ d says. none d says.0 says.1)

pub returns-else-lacks_seed : goal.returns-else-lacks_seed
returns-else-lacks_seed c =
    refuses c.args.text.items c.in-Err.fault c.fault_of.result c.fault_of.ensures (rw (c.as_slice.ensures.value, c.in-Err.is) at c.read_config.ensures)
