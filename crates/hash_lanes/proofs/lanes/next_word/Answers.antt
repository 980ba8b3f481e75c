use Rattle.std.proofs.Common.{◌-◌, ap, arith, sym}
use Rattle.sha2.specs.Sha256.{add32, small_sigma0, small_sigma1}
use Rattle.hash_lanes.specs.Lanes.{at}
use Rattle.hash_lanes.proofs.Vectors.{own, both, told, lane_at}
use Rattle.hash_lanes.proofs.lanes.next_word.Goals as goal

pub returns : goal.returns
returns c =
    let w = c.args.words.now in
    let t = c.args.t in
    let wide = c.requires.shape.each in
    let first = told c.small_sigma1.ensures (λ l lt. ap small_sigma1 (sym (lane_at w (t - 2) l))) in
    let second = told (own (at w (t - 7)) (wide _ (omega arith))) (λ l lt. sym (lane_at w (t - 7) l)) in
    let third = told c.small_sigma0.ensures (λ l lt. ap small_sigma0 (sym (lane_at w (t - 15) l))) in
    let last = told (own (at w (t - 16)) (wide _ (omega arith))) (λ l lt. sym (lane_at w (t - 16) l)) in
    both add32 (both add32 (both add32 first second) third) last
