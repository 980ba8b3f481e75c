use Rattle.std.proofs.Common.{◌≡◌, ◌<◌, ℕ, List, [], length, get_or, ap, sym, ◌∙◌, arith}
use Rattle.std.proofs.lemmas.List.{length-set, length-map, get_or-map, ext_get_or}
use Rattle.std.specs.Arc.{arc_value}
use Rattle.partition_tree.specs.Parts.{parts_held, part_digest}
use Rattle.partition_tree.proofs.Standing.{read}
use Rattle.partition_tree.proofs.Renewing.{set_more, set_above, keep_more}
use Rattle.partition_tree.proofs.parts.renew.Goals as goal
use Rattle.partition_tree.proofs.parts.renew.Goals.{then-changed-part, else-changed-part}

pub loop-part-preserved : goal.loop-part-preserved
loop-part-preserved c =
    let f : ℕ → List ℕ = λ j. part_digest (get_or (parts_held c.args.parts.now) j []) in
    let was = c.loop-part.invariant in
    elim c.if-changed-part.branch [
      | then-changed-part w ↦
          let d : w.digest.result ≡ f c.loop-part.part =
          w.digest.ensures ∙ ap part_digest (w.deref.ensures ∙ read c.args.parts.now c.loop-part.part _ (omega arith) w.index-parts-part.is) in
          record {
            count = ap length (w.digests-is ∙ w.set.ensures) ∙ rw length-set was.count;
            done = set_more f _ _ c.loop-part.part w.digest.result [] (w.digests-is ∙ w.set.ensures) (omega arith) d was.done;
            left = set_above f _ _ c.loop-part.part w.digest.result [] c.args.digests.now (w.digests-is ∙ w.set.ensures) was.left;
          }
      | else-changed-part w ↦
          let d = was.left c.loop-part.part (omega arith) ∙ c.requires.known c.loop-part.part c.loop-part-test.true w.if-changed-part.false in
          record {
            count = ap length w.digests-is ∙ was.count;
            done = keep_more f _ _ c.loop-part.part [] [] w.digests-is d was.done;
            left = λ k h. ap (λ ds. get_or ds k []) w.digests-is ∙ was.left k (omega arith);
          }
    ]

pub returns : goal.returns
returns c =
    let owners = c.args.parts.now in
    let was = c.loop-part.invariant in
    let all : length owners ≡ 32 = c.requires.count in
    ext_get_or [] _ _ (was.count ∙ sym (length-map (parts_held owners) part_digest ∙ length-map owners arc_value ∙ all))
    (λ j h.
    let within : j < length (parts_held owners) = rw length-map (omega arith) in
    was.done j (omega arith) ∙ sym (get_or-map part_digest (parts_held owners) j [] [] within))
