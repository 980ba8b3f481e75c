use Rattle.std.proofs.Common.{arith, refl}
use Rattle.protocol.specs.System.Trace.{history_of}
use Rattle.journal.proofs.Projecting.{ends}
use Rattle.journal.proofs.comparing.is_history.Goals as goal

pub returns : goal.returns
returns c =
    let past = c.loop-entry-test.false in
    ends (history_of c.args.party) refl c.args.entries.now c.args.history.now c.loop-entry.entry-index c.loop-entry.at _ (omega arith) c.loop-entry.invariant.0 c.loop-entry.invariant.1
