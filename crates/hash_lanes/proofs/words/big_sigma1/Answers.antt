use Rattle.std.proofs.Common.{ℕ, ◌∙◌, ap, arith, bit_xor}
use Rattle.hash_lanes.specs.Lanes.{rotated}
use Rattle.hash_lanes.proofs.Rotating.{nested_three}
use Rattle.hash_lanes.proofs.words.big_sigma1.Goals as goal

pub returns : goal.returns
returns c =
    c.rotate_right-3.ensures
    ∙ ap (λ (n : ℕ). rotated (bit_xor c.args.x n) 6) (c.rotate_right-2.ensures ∙ ap (λ (n : ℕ). rotated (bit_xor c.args.x n) 5) c.rotate_right.ensures)
    ∙ nested_three c.args.x 6 5 14 (omega arith) (omega arith) (omega arith) (omega arith) c.ranges.x.fits
