use Rattle.std.proofs.Common.{◌∙◌, ap, sym, arith}
use Rattle.tuple_tree.specs.Reading.{rest_of}
use Rattle.wire_format.specs.Reading.{digest_at}
use Rattle.wire.proofs.Carrying.{skip_goes_on}
use Rattle.wire.proofs.InPlace.{skip_stops, skip_ended, digests_are}
use Rattle.wire.proofs.judging.skip_digests.Goals as goal

pub returns-in_err-_digest : goal.returns-in_err-_digest
returns-in_err-_digest c =
    rw c.from_residual.ensures (ap rest_of (digests_are c.args.count c.args.bytes.now) ∙ sym c.loop-i.invariant ∙ skip_stops digest_at _ _ _ (omega arith) (c.in_err-_digest.ensures {u = tt}))

pub loop-i-preserved : goal.loop-i-preserved
loop-i-preserved c = skip_goes_on digest_at _ _ _ _ (omega arith) (ap rest_of c.in_ok-_digest.ensures) ∙ c.loop-i.invariant

pub returns : goal.returns
returns c = ap rest_of (digests_are c.args.count c.args.bytes.now) ∙ sym c.loop-i.invariant ∙ skip_ended digest_at _ _ _ (omega arith)
