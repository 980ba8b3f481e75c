use Rattle.std.proofs.Common.{◌∷◌, [], slice_index, arith}
use Rattle.sha2.specs.Sha256.{add32}
use Rattle.hash_lanes.specs.Lanes.{at}
use Rattle.hash_lanes.proofs.Vectors.{own, both, alike, lane_at, eight}
use Rattle.hash_lanes.proofs.lanes.round.Goals as goal

pub returns : goal.returns
returns c =
    let v = c.args.v in
    let wide = c.requires.each in
    let first = both add32 (both add32 (both add32 (both add32 (own (at v 7) (wide 7 (omega arith))) c.big_sigma1.ensures) c.ch.ensures) (alike c.args.constant)) (own c.args.word c.fits-word.0) in
    let top = both add32 first (both add32 c.big_sigma0.ensures c.maj.ensures) in
    let fifth = both add32 (own (at v 3) (wide 3 (omega arith))) first in
    record {
      lanes = λ l lt.
          rw (lane_at v 0 l, lane_at v 1 l, lane_at v 2 l, lane_at v 3 l, lane_at v 4 l, lane_at v 5 l, lane_at v 6 l, lane_at v 7 l)
          (λ i.
          top.each l lt i ∷ slice_index (at v 0) l ∷ slice_index (at v 1) l ∷ slice_index (at v 2) l
          ∷ fifth.each l lt i ∷ slice_index (at v 4) l ∷ slice_index (at v 5) l ∷ slice_index (at v 6) l ∷ []);
      shape = eight top.long (wide 0 (omega arith)) (wide 1 (omega arith)) (wide 2 (omega arith)) fifth.long (wide 4 (omega arith)) (wide 5 (omega arith)) (wide 6 (omega arith));
    }
