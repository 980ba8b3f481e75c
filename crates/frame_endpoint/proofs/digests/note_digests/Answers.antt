use Rattle.std.proofs.Common.{[], arith}
use Rattle.wire_format.specs.Spelling.{IsDigest}
use Rattle.frame_endpoint.proofs.Digesting.{each_of}
use Rattle.frame_endpoint.proofs.digests.note_digests.Goals as goal

pub returns : goal.returns
returns c = each_of IsDigest c.args.digests.now [] (λ i l. c.loop-digest.invariant i (omega arith))
