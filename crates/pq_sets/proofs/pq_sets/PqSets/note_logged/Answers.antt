use Rattle.std.proofs.Common.{length, ap, ◌∙◌}
use Rattle.sha2.proofs.Facts256.{length-sha256}
use Rattle.std.specs.Arc.{arc_value}
use Rattle.pq_sets.specs.PqSetsView.{pq_entry_data}
use Rattle.pq_sets.proofs.KeptPqSets.{logged_kept}
use Rattle.pq_sets.proofs.pq_sets.PqSets.note_logged.Goals as goal

pub invariant_of-self : goal.invariant_of-self
invariant_of-self c = record {
  prepared = c.self.invariant.prepared;
  logged = logged_kept c.add.result c.self.inside.logged.items c.add.new.pq_set.items (pq_entry_data c.pq_entry.result) (ap length c.pq_entry.result.named ∙ length-sha256 (arc_value c.pq_entry.result.batch)) c.add.ensures.ok c.add.ensures.err c.self.invariant.logged;
}
