use Rattle.terms.specs.Parties.{party_number}
use Rattle.protocol.specs.System.Reads.{orders}
use Rattle.journal.proofs.Matches.{ordering_known}
use Rattle.journal.proofs.Turned.{both_turned}
use Rattle.journal.proofs.matching.are_alike.Goals as goal

pub returns-then-is_ordering_known : goal.returns-then-is_ordering_known
returns-then-is_ordering_known g c = (
  λ t. ordering_known c.args.tie.now c.args.seen.now (party_number c.args.party) c.args.history.now c.args.ordering.now (c.is_ordering_known.ensures t) c.requires.tied c.requires.marks,
  λ e. c.if-is_ordering_known.true,
)

pub returns-else-is_ordering_known : goal.returns-else-is_ordering_known
returns-else-is_ordering_known g c =
    both_turned c.is_ordering.result orders c.args.history.now c.args.ordering.now c.is_ordering.ensures
