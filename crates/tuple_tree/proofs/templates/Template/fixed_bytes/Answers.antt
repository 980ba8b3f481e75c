use Rattle.std.proofs.Common.{take, ap, ◌∙◌}
use Rattle.tuple_tree.specs.Fronts.{front_of}
use Rattle.tuple_tree.proofs.Fixing.{front_taken}
use Rattle.tuple_tree.proofs.templates.Template.fixed_bytes.Goals as goal

pub split_at-requires : goal.split_at-requires
split_at-requires g c = rw c.deref.ensures.value (front_taken c.self.invariant).0

pub returns-clause-value : goal.returns-clause-value
returns-clause-value g c = c.split_at.ensures.front ∙ ap (take c.self.inside.fixed) c.deref.ensures.value ∙ (front_taken c.self.invariant).1 ∙ ap front_of c.self.view_is
