use Rattle.std.proofs.Common.{ℕ, ◌/◌, ◌^◌, ◌∙◌, bit_xor, ap, arith, slice_index}
use Rattle.hash_lanes.specs.Lanes.{rotated}
use Rattle.hash_lanes.proofs.Rotating.{nested_two}
use Rattle.hash_lanes.proofs.Vectors.{own, both, alike, told, below}
use Rattle.hash_lanes.proofs.lanes.small_sigma0.Goals as goal

pub returns : goal.returns
returns c =
    let x = own c.args.x c.fits-x.0 in
    let outer = told c.rotated-2.ensures (λ l lt.
    ap (λ (n : ℕ). rotated n 7) ((both bit_xor x c.rotated.ensures).each l lt)
    ∙ nested_two (slice_index c.args.x l) 7 11 (omega arith) (omega arith) (omega arith) (below c.args.x c.fits-x.0 c.fits-x.1 l lt)) in
    both bit_xor outer (both (λ (n k : ℕ). n / 2 ^ k) x (alike 3))
