use Rattle.std.proofs.Common.{ℕ, ◌-◌, ◌*◌, ◌/◌, ◌%◌, ◌^◌, bit_or}
use Rattle.hash_lanes.proofs.Vectors.{own, both, alike}
use Rattle.hash_lanes.proofs.lanes.rotated.Goals as goal

pub returns : goal.returns
returns c =
    let x = own c.args.x c.fits-x.0 in
    both bit_or (both (λ (n k : ℕ). n / 2 ^ k) x (alike c.args.by)) (both (λ (n k : ℕ). n * 2 ^ k % 2 ^ 32) x (alike (32 - c.args.by)))
