use Rattle.std.proofs.Common.{◌≡◌, ◌+◌, ◌-◌, ◌*◌}
use Rattle.tuple_tree.specs.Reading.{rest_of}
use Rattle.tuple_text.specs.Walks.{spelled_fields_at, others_written, IsThere, text_of}
use Rattle.tuple_text.proofs.Writing.{SoFar}
use Rattle.tuple_text.proofs.fields.+put_list.Given as goal

abbrev pub invariant-put_others-loop-i : goal.invariant-put_others-loop-i
invariant-put_others-loop-i g l = record {
  there : IsThere (spelled_fields_at l.levels (l.count - l._i) l.rest);
  rest : rest_of (spelled_fields_at l.levels (l.count - l._i) l.rest) ≡ rest_of (spelled_fields_at l.levels l.count l.fn.bytes);
  written : SoFar l.fn.out.items l.out.items (text_of others_written (spelled_fields_at l.levels (l.count - l._i) l.rest)) (text_of others_written (spelled_fields_at l.levels l.count l.fn.bytes));
}

abbrev pub decreases-put_list : goal.decreases-put_list
decreases-put_list g l = 4 * l.levels + 3

abbrev pub decreases-put_fields : goal.decreases-put_fields
decreases-put_fields g l = 4 * l.levels + 2

abbrev pub decreases-put_others : goal.decreases-put_others
decreases-put_others g l = 4 * l.levels + 1

abbrev pub decreases-put_field : goal.decreases-put_field
decreases-put_field g l = 4 * l.levels
