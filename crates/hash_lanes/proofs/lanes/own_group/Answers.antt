use Rattle.std.proofs.Common.{ℕ, ◌+◌, ◌*◌, arith, sym}
use Rattle.hash_lanes.specs.Lanes.{lane}
use Rattle.hash_lanes.proofs.Grouping.{grouped}
use Rattle.hash_lanes.proofs.Vectors.{eight, lane_at}
use Rattle.hash_lanes.proofs.lanes.own_group.Goals as goal

pub returns : goal.returns
returns c =
    let ws = c.args.words.now in
    let t : ℕ = 8 * c.args.turn in
    let wide = c.requires.words.each in
    record {
      lanes = λ l lt b holds.
          grouped b (lane l ws) c.args.turn _ _ _ _ _ _ _ _ c.requires.turn holds (sym (lane_at ws t l)) (sym (lane_at ws (t + 1) l)) (sym (lane_at ws (t + 2) l))
          (sym (lane_at ws (t + 3) l)) (sym (lane_at ws (t + 4) l)) (sym (lane_at ws (t + 5) l)) (sym (lane_at ws (t + 6) l)) (sym (lane_at ws (t + 7) l));
      shape = eight (wide t (omega arith)) (wide (t + 1) (omega arith)) (wide (t + 2) (omega arith)) (wide (t + 3) (omega arith))
          (wide (t + 4) (omega arith)) (wide (t + 5) (omega arith)) (wide (t + 6) (omega arith)) (wide (t + 7) (omega arith));
    }
