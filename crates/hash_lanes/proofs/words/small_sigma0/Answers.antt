use Rattle.std.proofs.Common.{ℕ, ◌/◌, ◌^◌, ◌∙◌, ap, arith, bit_xor}
use Rattle.hash_lanes.specs.Lanes.{rotated}
use Rattle.hash_lanes.proofs.Rotating.{nested_two}
use Rattle.hash_lanes.proofs.words.small_sigma0.Goals as goal

pub returns : goal.returns
returns c =
    ap (λ (n : ℕ). bit_xor n (c.args.x / 2 ^ 3))
    (c.rotate_right-2.ensures ∙ ap (λ (n : ℕ). rotated (bit_xor c.args.x n) 7) c.rotate_right.ensures
    ∙ nested_two c.args.x 7 11 (omega arith) (omega arith) (omega arith) c.ranges.x.fits)
