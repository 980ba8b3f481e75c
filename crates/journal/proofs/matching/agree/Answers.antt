use Rattle.std.proofs.Common.{◌==◌}
use Rattle.terms.specs.Parties.{party_number}
use Rattle.protocol.specs.System.Trace.{Entry, party_of}
use Rattle.journal.proofs.Matches.{known}
use Rattle.journal.proofs.Turned.{both_turned}
use Rattle.journal.proofs.matching.agree.Goals as goal

pub returns-then-is_known : goal.returns-then-is_known
returns-then-is_known g c = (
  λ t. known c.args.tie.now c.args.seen.now (party_number c.args.party) c.args.trace.now c.args.history.now (c.is_known.ensures t) c.requires.ties c.requires.marks,
  λ e. c.if-is_known.true,
)

pub returns-else-is_known : goal.returns-else-is_known
returns-else-is_known g c =
    both_turned c.is_history.result (λ (e : Entry). party_of e == party_number c.args.party) c.args.trace.now c.args.history.now (rw c.number.ensures at c.is_history.ensures)
