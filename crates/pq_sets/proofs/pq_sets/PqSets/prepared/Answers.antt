use Rattle.std.specs.Prelude.{IsTrue}
use Rattle.std.proofs.Common.{subst}
use Rattle.wire_format.specs.Lists.{ascends}
use Rattle.wire_format.specs.Spelling.{batch_entry_before}
use Rattle.pq_sets.specs.PqSetsView.{PqSetsData, pq_entries_of}
use Rattle.pq_sets.proofs.KeptPqSets.{prepared_order}
use Rattle.pq_sets.proofs.pq_sets.PqSets.prepared.Goals as goal

pub returns-clause-order : goal.returns-clause-order
returns-clause-order c =
    subst (λ (d : PqSetsData). IsTrue (ascends batch_entry_before d.prepared)) c.self.view_is (prepared_order (pq_entries_of c.self.inside.prepared.items) c.self.invariant.prepared)
