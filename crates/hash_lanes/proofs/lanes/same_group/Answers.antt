use Rattle.std.proofs.Common.{ℕ, ◌+◌, ◌*◌, refl, slice_index}
use Rattle.hash_lanes.proofs.Grouping.{grouped}
use Rattle.hash_lanes.proofs.Vectors.{alike, eight}
use Rattle.hash_lanes.proofs.lanes.same_group.Goals as goal

pub returns : goal.returns
returns c =
    let ws = c.args.words.now in
    let t : ℕ = 8 * c.args.turn in
    record {
      lanes = λ l lt b holds.
          grouped b ws c.args.turn _ _ _ _ _ _ _ _ c.requires holds ((alike (slice_index ws t)).each l lt) ((alike (slice_index ws (t + 1))).each l lt)
          ((alike (slice_index ws (t + 2))).each l lt) ((alike (slice_index ws (t + 3))).each l lt) ((alike (slice_index ws (t + 4))).each l lt)
          ((alike (slice_index ws (t + 5))).each l lt) ((alike (slice_index ws (t + 6))).each l lt) ((alike (slice_index ws (t + 7))).each l lt);
      shape = eight refl refl refl refl refl refl refl refl;
    }
