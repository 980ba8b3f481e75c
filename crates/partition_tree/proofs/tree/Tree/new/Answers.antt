use Rattle.std.proofs.Common.{◌≡◌, ℕ, List, [], map, length, replicate, ap, sym, subst, ◌∙◌, arith}
use Rattle.std.proofs.lemmas.List.{length-replicate}
use Rattle.std.proofs.lemmas.List.Elements.{All-replicate}
use Rattle.std.specs.Arc.{arc_value}
use Rattle.partition_tree.specs.Parts.{AreFull, pages_in, part_digest}
use Rattle.partition_tree.proofs.Holding.{alike, count_alike, map-replicate}
use Rattle.partition_tree.proofs.Parting.{parts_of_empty}
use Rattle.partition_tree.proofs.tree.Tree.new.Goals as goal

pub invariant_of-result : goal.invariant_of-result
invariant_of-result c =
    let owners = c.loop-part.parts.items in
    let empty : List (List ℕ) = replicate 32 [] in
    let same = alike arc_value owners c.loop-part._part 32 _ empty c.loop-part.invariant (omega arith) (c.in_ok-part.ensures.ok ∙ c.in_ok-empty.ensures) in
    let full : AreFull (replicate 32 empty) = All-replicate (λ (part : List (List ℕ)). length part ≡ 32) 32 empty (length-replicate {A = List ℕ} 32 []) in (
      count_alike arc_value owners 32 empty same,
      subst AreFull (sym same) full,
      c.in_ok-inner.ensures ∙ ap (replicate 32) (c.digest.ensures ∙ ap part_digest (c.deref.ensures ∙ (c.in_ok-part.ensures.ok ∙ c.in_ok-empty.ensures)))
          ∙ sym (map-replicate part_digest 32 empty)
          ∙ ap (map part_digest) (sym same),
      c.digest-root.ensures,
    )

pub returns : goal.returns
returns c =
    ap pages_in (alike arc_value c.loop-part.parts.items c.loop-part._part 32 _ (replicate 32 []) c.loop-part.invariant (omega arith) (c.in_ok-part.ensures.ok ∙ c.in_ok-empty.ensures)) ∙ parts_of_empty
