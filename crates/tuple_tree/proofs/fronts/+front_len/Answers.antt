use Rattle.std.proofs.Common.{sym, ◌∙◌}
use Rattle.tuple_tree.specs.Seen.{seen_datum}
use Rattle.tuple_tree.proofs.Leaves.{datum_leaves}
use Rattle.tuple_tree.proofs.fronts.+front_len.Goals as goal

pub field_front_len-returns-in-Actual-clause-len : goal.field_front_len-returns-in-Actual-clause-len
field_front_len-returns-in-Actual-clause-len t c = rw c.in-Actual.is (c.encoded_len.ensures ∙ sym (datum_leaves.lengths (seen_datum c.in-Actual.atom)))
