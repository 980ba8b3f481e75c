use Rattle.std.proofs.Common.{◌≡◌, length, take, ap, ◌∙◌, arith}
use Rattle.std.proofs.lemmas.List.{take_all}
use Rattle.partition_tree.proofs.children.Children.as_array.Goals as goal

pub returns : goal.returns
returns c =
    let many : length c.self.inside.digests.items ≡ 32 = c.self.invariant in
    c.in-Some.ensures.cases.same
    ∙ ap (take 32) c.as_slice.ensures.value
    ∙ take_all 32 c.self.inside.digests.items (omega arith)
    ∙ c.self.view_is
