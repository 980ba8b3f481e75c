use Rattle.std.proofs.Common.{◌≡◌, ◌<◌, length, get_or, ap, subst, ◌∙◌}
use Rattle.std.specs.Ordering.{nat_cmp}
use Rattle.std.specs.Map.{lookup}
use Rattle.std.specs.BTreeMap.{is_at}
use Rattle.space.proofs.Printed.{unlike_there}
use Rattle.space.proofs.stored.Stored.passes.Goals as goal

pub returns-else-not-is_of_other : goal.returns-else-not-is_of_other
returns-else-not-is_of_other c = λ _ t h.
    let labels = c.self.inside.labels.items in
    let place = c.args.near.now in
    let label = c.in-Some.label.now in
    let is = c.deref.ensures.value in
    let there = c.in-Some.ensures.lookup.3 in
    let low : place < length labels = subst (λ ls. place < length ls) is there.0 in
    let at : label ≡ get_or labels place label = there.1 label ∙ ap (λ ls. get_or ls place label) is in
    unlike_there c.self.inside.entries.items labels place c.args.birth c.args.wanted.now label c.self.invariant.apart c.self.invariant.kept low at
    (c.is_of_other.ensures.birth c.if-not-is_of_other.false) (c.is_of_other.ensures.other c.if-not-is_of_other.false) t
    (ap (λ s. lookup (is_at (nat_cmp c.args.birth)) s.entries) c.self.view_is ∙ h)
