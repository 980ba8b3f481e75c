use Rattle.std.proofs.Common.{◌∙◌, sym}
use Rattle.std.proofs.lemmas.Bool.{le-ltb}
use Rattle.wire_format.specs.Views.{batch_entry_data}
use Rattle.pq_sets.proofs.Placing.{same_in, same_out}
use Rattle.pq_sets.proofs.pq_sets.is_same_at.Goals as goal

pub returns-then-place-pq_set : goal.returns-then-place-pq_set
returns-then-place-pq_set c = c.names_same.ensures ∙ same_in c.args.order (batch_entry_data c.args.entry.now) c.args.pq_set.now c.args.place _ c.if-place-pq_set.true

pub returns-else-place-pq_set : goal.returns-else-place-pq_set
returns-else-place-pq_set c = le-ltb _ _ c.if-place-pq_set.false ∙ sym (same_out c.args.order (batch_entry_data c.args.entry.now) c.args.pq_set.now c.args.place c.if-place-pq_set.false)
