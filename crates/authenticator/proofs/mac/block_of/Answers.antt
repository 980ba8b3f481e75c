use Rattle.std.proofs.Common.{◌∙◌, sym}
use Rattle.authenticator.proofs.Blocks.{block_key-long, block_key-short}
use Rattle.authenticator.proofs.mac.block_of.Goals as goal

pub returns-then-key-gt-BLOCK_LEN : goal.returns-then-key-gt-BLOCK_LEN
returns-then-key-gt-BLOCK_LEN c =
    rw (block_key-long c.args.key.now c.if-key-gt-BLOCK_LEN.true, ← c.digest.ensures) c.padded.ensures

pub returns-else-key-gt-BLOCK_LEN : goal.returns-else-key-gt-BLOCK_LEN
returns-else-key-gt-BLOCK_LEN c =
    c.padded-else-key-gt-BLOCK_LEN.ensures ∙ sym (block_key-short c.args.key.now c.if-key-gt-BLOCK_LEN.false)
