use Rattle.std.proofs.Common.{◌*◌, rules}
use Rattle.orderer.proofs.Batches.{new_holds}
use Rattle.orderer.proofs.orderer.Orderer.new.Goals as goal

pub invariant_of-result : goal.invariant_of-result
invariant_of-result c = (
  search rules,
  search rules,
  search rules,
  search rules,
  new_holds c.args.me.0 c.args.sizes.faults (2 * c.args.sizes.period) c.in_ok-new-2.field-0 c.new-4.result (search rules) (search rules),
)
