use Rattle.std.proofs.Common.{arith, get_or}
use Rattle.std.specs.Int.Bits.{bit_xor}
use Rattle.std.proofs.lemmas.List.{get_or_default}
use Rattle.std.proofs.lemmas.List.Edits.{map_over_more}
use Rattle.authenticator.proofs.mac.after_mixed.Goals as goal

pub loop-byte-preserved : goal.loop-byte-preserved
loop-byte-preserved c =
    map_over_more (λ b. bit_xor b c.args.pad) c.args.block.now _ c.loop-byte.byte-index
    (get_or c.loop-byte.byte-items c.loop-byte.byte-index 0) (omega arith) c.loop-byte.invariant
    (get_or_default c.loop-byte.byte-items c.loop-byte.byte-index 0 _ (omega arith))
