use Rattle.std.proofs.Common.{ℕ, ◌∙◌, bit_xor, ap, arith, slice_index}
use Rattle.hash_lanes.specs.Lanes.{rotated}
use Rattle.hash_lanes.proofs.Rotating.{nested_three}
use Rattle.hash_lanes.proofs.Vectors.{own, both, told, below}
use Rattle.hash_lanes.proofs.lanes.big_sigma0.Goals as goal

pub returns : goal.returns
returns c =
    let x = own c.args.x c.fits-x.0 in
    let inner = told c.rotated-2.ensures (λ l lt. ap (λ (n : ℕ). rotated n 11) ((both bit_xor x c.rotated.ensures).each l lt)) in
    told c.rotated-3.ensures (λ l lt.
    ap (λ (n : ℕ). rotated n 2) ((both bit_xor x inner).each l lt)
    ∙ nested_three (slice_index c.args.x l) 2 11 9 (omega arith) (omega arith) (omega arith) (omega arith) (below c.args.x c.fits-x.0 c.fits-x.1 l lt))
