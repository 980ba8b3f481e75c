use Rattle.std.proofs.Common.{◌≡◌, ◌<◌, map, length, ap, ◌∙◌, arith}
use Rattle.std.proofs.lemmas.List.{length-map}
use Rattle.std.specs.Arc.{arc_value}
use Rattle.sha2.specs.Sha256.{sha256}
use Rattle.partition_tree.specs.Digests.{inner_digests, page_digests}
use Rattle.partition_tree.proofs.Parting.{inner_of_parts, page_digests_of_part}
use Rattle.partition_tree.proofs.Standing.{read}
use Rattle.partition_tree.proofs.tree.Tree.children.Goals as goal

pub returns-in-Root : goal.returns-in-Root
returns-in-Root c =
    rw c.in-Root.is
    (c.as_array.ensures
    ∙ c.self.invariant.2
    ∙ inner_of_parts _ c.self.invariant.1 (length-map c.self.inside.parts.items arc_value ∙ c.self.invariant.0)
    ∙ ap inner_digests c.self.view_is)

pub returns-in-Inner : goal.returns-in-Inner
returns-in-Inner c =
    let owners = c.self.inside.parts.items in
    let all : length owners ≡ 32 = c.self.invariant.0 in
    let h : c.args.index < 32 = rw c.in-Inner.is at c.requires in
    rw c.in-Inner.is
    (c.digests.ensures
    ∙ ap (map sha256) (c.deref.ensures ∙ read owners c.args.index _ (omega arith) c.index.ensures)
    ∙ page_digests_of_part _ c.self.invariant.1 (length-map owners arc_value ∙ all) c.args.index h
    ∙ ap (λ pages. page_digests pages c.args.index) c.self.view_is)
