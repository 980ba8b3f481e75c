use Rattle.std.proofs.Common.{◌≡◌, ◌∙◌, ◌-◌, ◌^◌, ◌<◌, ◌≤◌, arith}
use Rattle.std.proofs.lemmas.Nat.{pow_pos}
use Rattle.std.proofs.lemmas.List.{length-set}
use Rattle.signing.proofs.Nodes.{leaf_index, nodes_more, node-leaf}
use Rattle.signing.proofs.tree.join_pairs.Goals as goal

pub loop-i-init : goal.loop-i-init
loop-i-init c = record {
  whole = c.told-nodes;
  done = λ leaves same level place few within high.
      let bottom : level ≡ 0 = leaf_index level place few within high in
      let below : place < 64 = rw bottom at within in
      rw (bottom, node-leaf) (same place below);
}

pub loop-i-preserved : goal.loop-i-preserved
loop-i-preserved c = record {
  whole = length-set _ _ _ ∙ c.loop-i.invariant.whole;
  done = λ leaves same level place few within from.
      nodes_more leaves c.loop-i.nodes c.loop-i.i c.over_children.result c.loop-i.invariant.whole c.loop-i-test.true c.loop-i.auto.i c.over_children.ensures
      (c.loop-i.invariant.done leaves same) level place few within from;
}

pub returns : goal.returns
returns c = λ leaves same level place few within.
    let some : 1 ≤ 2 ^ (6 - level) = pow_pos (6 - level) in
    c.loop-i.invariant.done leaves same level place few within (omega (arith, some, c.loop-i-test.false))
