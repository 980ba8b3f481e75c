use Rattle.std.proofs.Common.{arith, refl}
use Rattle.protocol.specs.System.Reads.{without_reads}
use Rattle.journal.proofs.Projecting.{ends}
use Rattle.journal.proofs.comparing.is_ordering.Goals as goal

pub returns : goal.returns
returns c =
    let past = c.loop-entry-test.false in
    ends without_reads refl c.args.history.now c.args.ordering.now c.loop-entry.entry-index c.loop-entry.at _ (omega arith) c.loop-entry.invariant.0 c.loop-entry.invariant.1
