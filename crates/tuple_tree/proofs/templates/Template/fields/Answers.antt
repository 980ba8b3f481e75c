use Rattle.std.proofs.Common.{ap, ◌∙◌}
use Rattle.tuple_tree.specs.Loose.{loose_slot_at}
use Rattle.tuple_tree.specs.Flat.{items_in}
use Rattle.tuple_tree.proofs.Flat.{opened}
use Rattle.tuple_tree.proofs.Loosening.{loosen_slot, loose_slot_leaves}
use Rattle.tuple_tree.proofs.Seeing.{flat_seen}
use Rattle.tuple_tree.proofs.templates.Template.fields.Goals as goal

pub invariant_of-result : goal.invariant_of-result
invariant_of-result g c = rw c.deref.ensures.value (flat_seen loosen_slot loose_slot_leaves _ _ _ _ (opened c.self.invariant.0 c.self.view_is)).0

pub returns-clause-value : goal.returns-clause-value
returns-clause-value g c = ap (items_in loose_slot_at 7 c.self.inside.count) c.deref.ensures.value ∙ (flat_seen loosen_slot loose_slot_leaves _ _ _ _ (opened c.self.invariant.0 c.self.view_is)).1
