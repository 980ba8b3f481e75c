use Rattle.std.proofs.Common.{bit_and, bit_xor}
use Rattle.hash_lanes.proofs.Bits.{choice}
use Rattle.hash_lanes.proofs.Vectors.{own, both, told, below}
use Rattle.hash_lanes.proofs.lanes.ch.Goals as goal

pub returns : goal.returns
returns c =
    let x = own c.args.x c.fits-x.0 in
    let y = own c.args.y c.fits-y.0 in
    let z = own c.args.z c.fits-z.0 in
    told (both bit_xor z (both bit_and x (both bit_xor y z))) (λ l lt.
    choice _ _ _ (below c.args.x c.fits-x.0 c.fits-x.1 l lt) (below c.args.y c.fits-y.0 c.fits-y.1 l lt)
    (below c.args.z c.fits-z.0 c.fits-z.1 l lt))
