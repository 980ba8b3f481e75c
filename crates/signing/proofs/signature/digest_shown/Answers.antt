use Rattle.std.proofs.Common.{◌≡◌, ◌*◌, arith}
use Rattle.signing.specs.Signatures.{shown_digest}
use Rattle.signing.proofs.Joining.{joined-none, joined_fours}
use Rattle.signing.proofs.signature.digest_shown.Goals as goal

pub loop-group-init : goal.loop-group-init
loop-group-init c = rw joined-none c.new-hasher.ensures

pub loop-group-preserved : goal.loop-group-preserved
loop-group-preserved c = rw joined_fours (c.add_pairs.ensures _ c.loop-group.invariant)

pub returns : goal.returns
unfolding shown_digest
returns c =
    let all : 4 * c.loop-group.group ≡ 256 = omega arith in
    rw (← all, ← c.digest-hash.ensures) (c.finalize.ensures _ c.loop-group.invariant)
