use Rattle.std.specs.Prelude.{IsTrue}
use Rattle.std.proofs.Common.{subst}
use Rattle.wire_format.specs.Lists.{ascends}
use Rattle.wire_format.specs.Spelling.{named_before}
use Rattle.pq_sets.specs.PqSetsView.{PqSetsData, pq_entries_of}
use Rattle.pq_sets.proofs.KeptPqSets.{logged_order}
use Rattle.pq_sets.proofs.pq_sets.PqSets.logged.Goals as goal

pub returns-clause-order : goal.returns-clause-order
returns-clause-order c =
    subst (λ (d : PqSetsData). IsTrue (ascends named_before d.logged)) c.self.view_is (logged_order (pq_entries_of c.self.inside.logged.items) c.self.invariant.logged)
