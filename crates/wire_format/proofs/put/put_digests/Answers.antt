use Rattle.std.proofs.Common.{refl}
use Rattle.wire_format.specs.Lists.{each_spelling}
use Rattle.wire_format.proofs.Appending.{one_more, none_left}
use Rattle.wire_format.proofs.put.put_digests.Goals as goal

pub loop-digest-preserved : goal.loop-digest-preserved
loop-digest-preserved c =
    one_more (λ ds. each_spelling (λ d. d) ds) (λ d. d) (λ d ds. refl) c.args.digests.now c.loop-digest.digest-index _ _ _ _ c.loop-digest-test.true
    c.in_ok-extend_from_slice.ensures.items c.loop-digest.invariant

pub returns : goal.returns
returns c = none_left (λ ds. each_spelling (λ d. d) ds) (λ d. d) (λ d ds. refl) c.args.digests.now c.loop-digest.digest-index _ _ c.loop-digest-test.false refl c.loop-digest.invariant
