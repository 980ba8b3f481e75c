use Rattle.std.proofs.Common.{◌≡◌, ℕ, List, ◌<◌, ◌+◌, slice_index, ◌∙◌, sym, subst, arith}
use Rattle.sha2.specs.Sha256.{schedule}
use Rattle.sha2.proofs.Schedule256.{slice_index-schedule_first, slice_index-schedule_next}
use Rattle.hash_lanes.specs.Lanes.{lane}
use Rattle.hash_lanes.proofs.Scheduling.{one_more, seen}
use Rattle.hash_lanes.proofs.Vectors.{lane_set, length-lane, with_vector}
use Rattle.hash_lanes.proofs.lanes.extend.Goals as goal

pub loop-t-init : goal.loop-t-init
loop-t-init c = record {
  shape = c.requires;
  held = λ n lt b holds k below. holds k below ∙ sym (slice_index-schedule_first b 48 k below);
}

pub loop-t-preserved : goal.loop-t-preserved
loop-t-preserved c =
    let ws = c.loop-t.words in
    let t = c.loop-t.t in
    record {
      shape = with_vector 64 t ws c.next_word.result c.loop-t.invariant.shape c.next_word.ensures.long;
      held = λ n lt b holds.
          let held = c.loop-t.invariant.held n lt b holds in
          let word = c.next_word.ensures.each n lt ∙ seen (lane n ws) (schedule b 48) t (omega arith) held
          ∙ sym (slice_index-schedule_next b 48 t (omega arith) (omega arith)) in
          subst (λ (x : List ℕ). (k : ℕ) → k < t + 1 → slice_index x k ≡ slice_index (schedule b 48) k) (sym (lane_set ws t n c.next_word.result))
          (one_more (lane n ws) (schedule b 48) t _ (omega (arith, length-lane ws n, c.loop-t.invariant.shape.long)) held word);
    }
