use Rattle.std.proofs.Common.{[], replicate, map, ap, sym, ◌∙◌, arith}
use Rattle.std.specs.Arc.{arc_value}
use Rattle.sha2.specs.Sha256.{sha256}
use Rattle.partition_tree.proofs.Holding.{alike, count_alike, map-replicate}
use Rattle.partition_tree.proofs.part.Part.empty.Goals as goal

pub invariant_of-result : goal.invariant_of-result
invariant_of-result c =
    let empty = alike arc_value c.loop-page.texts.items c.loop-page._page 32 _ [] c.loop-page.invariant (omega arith) (c.in_ok-text.ensures.ok ∙ c.new-2.ensures ∙ c.new.ensures.items) in
    (count_alike arc_value c.loop-page.texts.items 32 [] empty, c.in_ok-digests.ensures ∙ ap (replicate 32) c.digest.ensures ∙ sym (map-replicate sha256 32 []) ∙ ap (map sha256) (sym empty))

pub returns : goal.returns
returns c = alike arc_value c.loop-page.texts.items c.loop-page._page 32 _ [] c.loop-page.invariant (omega arith) (c.in_ok-text.ensures.ok ∙ c.new-2.ensures ∙ c.new.ensures.items)
