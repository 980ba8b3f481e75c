use Rattle.std.proofs.Common.{◌∷◌, [], ◌∙◌, arith, refl, sym}
use Rattle.sha2.specs.Sha256.{add32}
use Rattle.hash_lanes.specs.Lanes.{at}
use Rattle.hash_lanes.proofs.Vectors.{own, both, lane_at, eight}
use Rattle.hash_lanes.proofs.lanes.add.Goals as goal

pub returns : goal.returns
returns c =
    let s = c.args.state.now in
    let v = c.args.v.now in
    let r = c.requires.state.each in
    let q = c.requires.v.each in
    let first = both add32 (own (at s 0) (r 0 (omega arith))) (own (at v 0) (q 0 (omega arith))) in
    let second = both add32 (own (at s 1) (r 1 (omega arith))) (own (at v 1) (q 1 (omega arith))) in
    let third = both add32 (own (at s 2) (r 2 (omega arith))) (own (at v 2) (q 2 (omega arith))) in
    let fourth = both add32 (own (at s 3) (r 3 (omega arith))) (own (at v 3) (q 3 (omega arith))) in
    let fifth = both add32 (own (at s 4) (r 4 (omega arith))) (own (at v 4) (q 4 (omega arith))) in
    let sixth = both add32 (own (at s 5) (r 5 (omega arith))) (own (at v 5) (q 5 (omega arith))) in
    let seventh = both add32 (own (at s 6) (r 6 (omega arith))) (own (at v 6) (q 6 (omega arith))) in
    let last = both add32 (own (at s 7) (r 7 (omega arith))) (own (at v 7) (q 7 (omega arith))) in
    record {
      lanes = λ l lt.
          (λ i.
          first.each l lt i ∷ second.each l lt i ∷ third.each l lt i ∷ fourth.each l lt i
          ∷ fifth.each l lt i ∷ sixth.each l lt i ∷ seventh.each l lt i ∷ last.each l lt i ∷ [])
          ∙ sym (rw (lane_at s 0 l, lane_at s 1 l, lane_at s 2 l, lane_at s 3 l, lane_at s 4 l, lane_at s 5 l, lane_at s 6 l, lane_at s 7 l, lane_at v 0 l, lane_at v 1 l, lane_at v 2 l, lane_at v 3 l, lane_at v 4 l, lane_at v 5 l, lane_at v 6 l, lane_at v 7 l) refl);
      shape = eight first.long second.long third.long fourth.long fifth.long sixth.long seventh.long last.long;
    }
