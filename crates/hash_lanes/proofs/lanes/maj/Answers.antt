use Rattle.std.proofs.Common.{bit_and, bit_xor, slice_index}
use Rattle.hash_lanes.proofs.Bits.{majority}
use Rattle.hash_lanes.proofs.Vectors.{own, both, told}
use Rattle.hash_lanes.proofs.lanes.maj.Goals as goal

pub returns : goal.returns
returns c =
    let x = own c.args.x c.fits-x.0 in
    let y = own c.args.y c.fits-y.0 in
    let z = own c.args.z c.fits-z.0 in
    told (both bit_xor y (both bit_and (both bit_xor x y) (both bit_xor y z))) (λ l lt.
    majority (slice_index c.args.x l) (slice_index c.args.y l) (slice_index c.args.z l))
