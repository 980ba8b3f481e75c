use Rattle.std.proofs.Common.{sym, subst}
use Rattle.wire_format.specs.Spelling.{batch_entry_before, named_before}
use Rattle.pq_sets.specs.PqSetsView.{pq_entries_of}
use Rattle.pq_sets.specs.Recording.{Ascends}
use Rattle.pq_sets.proofs.KeptPqSets.{logged_cut, prepared_cut}
use Rattle.pq_sets.proofs.pq_sets.PqSets.cut.Goals as goal

pub invariant_of-self : goal.invariant_of-self
invariant_of-self c = record {
  prepared = subst (Ascends batch_entry_before) (sym c.keep_above.ensures.pq_set) (prepared_cut c.args.low.0 (pq_entries_of c.self.inside.prepared.items) c.self.invariant.prepared);
  logged = subst (Ascends named_before) (sym c.keep_above-2.ensures.pq_set) (logged_cut c.args.low.0 (pq_entries_of c.self.inside.logged.items) c.self.invariant.logged);
}
